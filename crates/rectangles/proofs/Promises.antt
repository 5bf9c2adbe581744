-- WHAT `packing::to_corners`, `to_starts` AND `plan` PROMISE, in words of specs/ alone: specs/Converting and specs/Plan have the promises.
--     .. -unique                two results that meet the promise are equal, all columns included
--     .. -numbers               the numbers that the call can give
--     to-corners-round-trip     of a done conversion the way back gives every start, and to-starts-round-trip every corner
--     plan-lowest               the outcome is first fit over rows; plan-eight has the exact condition of 8
--     plan-below, plan-clean    demand 2, with answer 0; plan-placed with answer 8
--     plan-ends                 s + p is at most T
--     plan-room                 demand 3, second sentence
-- Assumes nothing.
use mathlib.Core.Path.{◌≡◌, refl, sym, ap, ◌∙◌}
use mathlib.Core.Logic.{◌⊎◌, inl, inr, ⊎_elim, ◌≢◌}
use mathlib.Core.Bool.{Bool, true, false}
use mathlib.Core.List.{List, [], ◌∷◌, ◌++◌}
use Prim.Native.Nat.{ℕ, ◌+◌, ◌*◌, ◌≤◌, ◌<◌}
use native.Mathlib.Omega.{arith}
use lib.Dec.{ltb}
use lib.ListN.{length, get_or, set, drop, replicate}
use lib.ListN.{get_or-append}
use Rattle.lists.specs.Pick.{pick, In, in_left, in_right}
use Rattle.lists.specs.Refusals.{Silents, whole, first-unique, first-numbers, first_rest}
use Rattle.lists.specs.Counted.{filled, counted, length-counted, counted-at}
use Rattle.words.specs.declared.Answer.{Answer}
use Rattle.words.specs.Answers.{refused, done, mark}
use Rattle.wire.specs.Wire.{Clean, CleanAmong}
use Rattle.probes.specs.Table.{Sound, lines, Differ, rows, height, widths}
use Rattle.probes.specs.Laws.{Soundness}
use Rattle.probes.proofs.Laws.{sound-gives}
use Rattle.probes.proofs.Widths.{widths-none, sound-positive}
use Rattle.chain.specs.Corners.{corner_x, corner_y, start_of}
use Rattle.chain.proofs.CornerLaws.{start-of-corner, corner-of-start}
use Rattle.order.specs.Order.{order}
use Rattle.stack.specs.FirstFit.{Outcome, outcome, marked, bin_of, start_in, fitted, plan_lines, refused_plan, placed}
use Rattle.stack.specs.Stack.{raised, bins}
use Rattle.stack.specs.Room.{Room}
use Rattle.stack.specs.Follows.{Follows, follows-fitted}
use Rattle.stack.specs.Eight.{StopsAt, eight-sound, eight-complete}
use Rattle.stack.specs.Planning.{fit, fit-below, fit-clean, fit-placed-below, fit-placed-clean, fit-ends, fit-room}
use Rattle.chain.specs.Grid.{x_at, y_at, start_at}
use Rattle.rectangles.specs.Converting.{Corners, corner_lines, refused_corners, done_corners, ToCorners, Starts, start_lines, refused_starts, done_starts, ToStarts}
use Rattle.rectangles.specs.Plan.{Plans}
use Rattle.rectangles.specs.Sound.{silents-append}
use Rattle.rectangles.specs.Ends.{PlanReady, silent-corners, silent-starts, silent-plan}

-- an entry of a column whose first n entries were written
filled_at : (f : ℕ → ℕ) (n : ℕ) (l : List ℕ) (i : ℕ) → i < n → get_or (filled f n l) i 0 ≡ f i
filled_at f n l i h = get_or-append (counted f 0 n) (drop n l) 0 i (rw (length-counted f 0 n) h) ∙ counted-at f 0 n i h ∙ ap f (native.Mathlib.Nat.zero-add i)

-- first fit answers 0 or 8
fitted-answer : (Ts qs is ss fs : List ℕ) → ((fitted Ts qs is ss fs).answer.number ≡ 0) ⊎ ((fitted Ts qs is ss fs).answer.number ≡ 8)
unfolding fitted
fitted-answer Ts qs [] ss fs = inl refl
fitted-answer Ts qs (i ∷ is) ss fs =
    by (ltb (bin_of Ts qs i fs) (bins fs (height Ts (get_or Ts i 0)))) _
    (fitted-answer Ts qs is (set ss i (start_in Ts qs i fs (bin_of Ts qs i fs))) (raised fs (bin_of Ts qs i fs * height Ts (get_or Ts i 0)) (height Ts (get_or Ts i 0)) (get_or qs i 0)))
  where
    by : (b : Bool) (o : Outcome) → (o.answer.number ≡ 0) ⊎ (o.answer.number ≡ 8)
        → ((pick b o (outcome (refused 8 i) (marked (i ∷ is) ss) fs)).answer.number ≡ 0) ⊎ ((pick b o (outcome (refused 8 i) (marked (i ∷ is) ss) fs)).answer.number ≡ 8)
    by true o h = h
    by false o h = inr refl

module _ (Ts ps ss xs ys : List ℕ) where
  pub to-corners-unique : (a b : Corners) → ToCorners Ts ps ss xs ys a → ToCorners Ts ps ss xs ys b → a ≡ b
  unfolding ToCorners
  to-corners-unique = first-unique (corner_lines Ts ps ss xs ys) (refused_corners Ts ps ss xs ys) (λ r. r ≡ done_corners Ts ps ss xs ys) (λ a b p q. p ∙ sym q)

  pub to-corners-numbers : (o : Corners) → ToCorners Ts ps ss xs ys o → In o.answer.number (0 ∷ 1 ∷ 2 ∷ 3 ∷ 4 ∷ 5 ∷ 6 ∷ 7 ∷ 9 ∷ [])
  unfolding ToCorners In done_corners
  to-corners-numbers o t =
      ⊎_elim inr (λ e. inl (rw e refl))
      (first-numbers (λ (r : Corners). r.answer.number) (corner_lines Ts ps ss xs ys) (refused_corners Ts ps ss xs ys) (λ r. r ≡ done_corners Ts ps ss xs ys) (λ k i. refl) o t)

  pub to-corners-round-trip : (o : Corners) → ToCorners Ts ps ss xs ys o → o.answer.number ≡ 0 → (i : ℕ) → i < length Ts
      → start_of Ts (get_or Ts i 0) (get_or o.xs i 0) (get_or o.ys i 0) ≡ get_or ss i 0
  unfolding done_corners
  to-corners-round-trip o t z i h =
      let (e, r) = silent-corners Ts ps ss xs ys o t z in
      rw (e, filled_at (x_at Ts ss) (length Ts) xs i h, filled_at (y_at Ts ss) (length Ts) ys i h)
      (start-of-corner Ts (sound-gives Ts ps r.sound).harmonic i h (get_or ss i 0) (r.below i h))

module _ (Ts ps xs ys ss : List ℕ) where
  pub to-starts-unique : (a b : Starts) → ToStarts Ts ps xs ys ss a → ToStarts Ts ps xs ys ss b → a ≡ b
  unfolding ToStarts
  to-starts-unique = first-unique (start_lines Ts ps xs ys ss) (refused_starts Ts ps xs ys ss) (λ r. r ≡ done_starts Ts ps xs ys ss) (λ a b p q. p ∙ sym q)

  pub to-starts-numbers : (o : Starts) → ToStarts Ts ps xs ys ss o → In o.answer.number (0 ∷ 1 ∷ 2 ∷ 3 ∷ 4 ∷ 5 ∷ 6 ∷ 7 ∷ 18 ∷ [])
  unfolding ToStarts In done_starts
  to-starts-numbers o t =
      ⊎_elim inr (λ e. inl (rw e refl))
      (first-numbers (λ (r : Starts). r.answer.number) (start_lines Ts ps xs ys ss) (refused_starts Ts ps xs ys ss) (λ r. r ≡ done_starts Ts ps xs ys ss) (λ k i. refl) o t)

  pub to-starts-round-trip : (o : Starts) → ToStarts Ts ps xs ys ss o → o.answer.number ≡ 0 → (i : ℕ) → i < length Ts
      → (corner_x Ts (get_or o.starts i 0) ≡ get_or xs i 0) × (corner_y Ts (get_or Ts i 0) (get_or o.starts i 0) ≡ get_or ys i 0)
  unfolding done_starts
  to-starts-round-trip o t z i h =
      let (e, r) = silent-starts Ts ps xs ys ss o t z in
      rw (e, filled_at (start_at Ts xs ys) (length Ts) ss i h)
      (corner-of-start Ts (sound-gives Ts ps r.sound).harmonic i h (get_or xs i 0) (get_or ys i 0) (r.on-grid i h))

module _ (Ts ps ss fs : List ℕ) where
  placed-number : (placed Ts ps ss fs).answer.number ≡ (fitted Ts (widths 0 ps) (order Ts ps) ss (replicate (rows Ts) 0)).answer.number
  unfolding placed
  placed-number = refl

  pub plan-unique : (a b : Outcome) → Plans Ts ps ss fs a → Plans Ts ps ss fs b → a ≡ b
  unfolding Plans
  plan-unique = first-unique (plan_lines Ts ps ss fs) (refused_plan Ts ps ss fs) (λ r. r ≡ placed Ts ps ss fs) (λ a b p q. p ∙ sym q)

  pub plan-numbers : (o : Outcome) → Plans Ts ps ss fs o → In o.answer.number (0 ∷ 1 ∷ 2 ∷ 3 ∷ 4 ∷ 5 ∷ 6 ∷ 7 ∷ 8 ∷ [])
  unfolding Plans In
  plan-numbers o p =
      ⊎_elim (λ h. inr (in_left o.answer.number (1 ∷ 2 ∷ 3 ∷ 4 ∷ 5 ∷ 6 ∷ 7 ∷ []) (8 ∷ []) h)) (λ e. at (fitted-answer Ts (widths 0 ps) (order Ts ps) ss (replicate (rows Ts) 0)) (ap (λ (r : Outcome). r.answer.number) e))
      (first-numbers (λ (r : Outcome). r.answer.number) (plan_lines Ts ps ss fs) (refused_plan Ts ps ss fs) (λ r. r ≡ placed Ts ps ss fs) (λ k i. refl) o p)
    where
      at : ((fitted Ts (widths 0 ps) (order Ts ps) ss (replicate (rows Ts) 0)).answer.number ≡ 0) ⊎ ((fitted Ts (widths 0 ps) (order Ts ps) ss (replicate (rows Ts) 0)).answer.number ≡ 8)
          → o.answer.number ≡ (placed Ts ps ss fs).answer.number → In o.answer.number (0 ∷ 1 ∷ 2 ∷ 3 ∷ 4 ∷ 5 ∷ 6 ∷ 7 ∷ 8 ∷ [])
      at (inl z) e = inl (e ∙ placed-number ∙ z)
      at (inr z) e = in_right o.answer.number (0 ∷ 1 ∷ 2 ∷ 3 ∷ 4 ∷ 5 ∷ 6 ∷ 7 ∷ []) (8 ∷ []) (inl (e ∙ placed-number ∙ z))

  module _ (o : Outcome) (p : Plans Ts ps ss fs o) where
    -- the planner placed what it could: 0 or 8
    abbrev pub Ran : Type 0
    Ran = (o.answer.number ≡ 0) ⊎ (o.answer.number ≡ 8)

    module _ (ran : Ran) where
      ready : PlanReady Ts ps ss fs
      ready = (silent-plan Ts ps ss fs o p ran).1

      sound : Soundness Ts ps
      sound = sound-gives Ts ps ready.sound

      same : o ≡ placed Ts ps ss fs
      same = (silent-plan Ts ps ss fs o p ran).0

      abbrev rest : Outcome
      rest = fit Ts ps (widths 0 ps) ss

      starts-are : o.starts ≡ rest.starts
      unfolding placed fit
      starts-are = ap (λ (r : Outcome). r.starts) same

      answer-is : o.answer ≡ rest.answer
      unfolding placed fit
      answer-is = ap (λ (r : Outcome). r.answer) same

      -- first fit over rows, probe by probe in planning order; the fills past H stay
      pub plan-lowest : Follows Ts (widths 0 ps) (order Ts ps) ss (replicate (rows Ts) 0) (outcome o.answer o.starts rest.fills) × (o.fills ≡ rest.fills ++ drop (rows Ts) fs)
      unfolding placed fit
      plan-lowest = (rw same (follows-fitted Ts (widths 0 ps) (order Ts ps) ss (replicate (rows Ts) 0)), ap (λ (r : Outcome). r.fills) same)

      -- a start that is not the mark is that of a placed probe: below its period, and ending in its turn
      pub plan-placed-below : (i : ℕ) → i < length Ts → get_or o.starts i 0 ≢ mark → get_or o.starts i 0 < get_or Ts i 0
      plan-placed-below = rw starts-are (fit-placed-below Ts ps (widths 0 ps) ss sound.harmonic (sound-positive Ts ps sound) ready.long-s)

      pub plan-placed-clean : CleanAmong (λ i. get_or o.starts i 0 ≢ mark) Ts (widths 0 ps) o.starts
      plan-placed-clean = rw starts-are (fit-placed-clean Ts ps (widths 0 ps) ss sound.harmonic (sound-positive Ts ps sound) ready.long-s)

      pub plan-ends : (i : ℕ) → i < length Ts → get_or o.starts i 0 ≢ mark → get_or o.starts i 0 + get_or (widths 0 ps) i 0 ≤ get_or Ts i 0
      plan-ends = rw starts-are (fit-ends Ts ps (widths 0 ps) ss sound.harmonic (sound-positive Ts ps sound) ready.long-s)

      -- 8 with index i exactly when every probe before i is placed and no sub-bin has room for i
      pub plan-eight-sound : (i : ℕ) → o.answer ≡ refused 8 i → StopsAt Ts (widths 0 ps) (order Ts ps) ss (replicate (rows Ts) 0) i
      unfolding fit
      plan-eight-sound i e = (eight-sound Ts (widths 0 ps) (order Ts ps) ss (replicate (rows Ts) 0) i (sym answer-is ∙ e)).0

      pub plan-eight-complete : (i : ℕ) → StopsAt Ts (widths 0 ps) (order Ts ps) ss (replicate (rows Ts) 0) i → o.answer ≡ refused 8 i
      unfolding fit
      plan-eight-complete i s = answer-is ∙ eight-complete Ts (widths 0 ps) (order Ts ps) ss (replicate (rows Ts) 0) i s

    pub plan-below : o.answer ≡ done → (i : ℕ) → i < length Ts → get_or o.starts i 0 < get_or Ts i 0
    plan-below e =
        let ran : Ran = inl (ap (λ (a : Answer). a.number) e) in
        rw (starts-are ran) (fit-below Ts ps (widths 0 ps) ss (sound ran).harmonic (sound-positive Ts ps (sound ran)) (ready ran).long-s (sym (answer-is ran) ∙ e))

    pub plan-clean : o.answer ≡ done → Clean Ts (widths 0 ps) o.starts
    plan-clean e =
        let ran : Ran = inl (ap (λ (a : Answer). a.number) e) in
        rw (starts-are ran) (fit-clean Ts ps (widths 0 ps) ss (sound ran).harmonic (sound-positive Ts ps (sound ran)) (ready ran).long-s (sym (answer-is ran) ∙ e))

  pub plan-room : Sound Ts ps → length Ts ≤ length ss → rows Ts ≤ length fs → Room Ts (widths 0 ps) → (o : Outcome) → Plans Ts ps ss fs o → o.answer ≡ done
  unfolding Plans Silents placed fit
  plan-room s long-s long-f room o p =
      let g = sound-gives Ts ps s in
      let quiet = silents-append (lines Ts ps (Differ Ts ps)) (whole 7 ((length ss < length Ts) ⊎ (length fs < rows Ts)) ∷ []) s ((λ i h. ⊎_elim (λ c. omega arith) (λ c. omega arith)), tt) in
      ap (λ (r : Outcome). r.answer) (first_rest (plan_lines Ts ps ss fs) (refused_plan Ts ps ss fs) (λ r. r ≡ placed Ts ps ss fs) o quiet p)
      ∙ fit-room Ts ps (widths 0 ps) ss g.harmonic (sound-positive Ts ps g) long-s (rw (widths-none ps) g.same) room
