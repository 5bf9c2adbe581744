-- WHAT `checker::check` PROMISES, in words of specs/ alone: specs/Check has the promise `Checks`, crate wire, specs/Wire, what clean means.
-- Assumes nothing.
use mathlib.Core.Path.{◌≡◌, refl, ap}
use mathlib.Core.Logic.{inl, inr, ◌≢◌, ⊎_elim}
use mathlib.Core.List.{List, [], ◌∷◌}
use Prim.Native.Nat.{ℕ, ◌≤◌, ◌<◌}
use native.Mathlib.Omega.{arith}
use lib.ListN.{length, get_or}
use Rattle.lists.specs.Pick.{In, in_left, in_right}
use Rattle.lists.specs.Standing.{stands, not_in}
use Rattle.lists.specs.Lowest.{Lowest}
use Rattle.lists.specs.Refusals.{First, Silents, first-unique, first-numbers, first_rest, rest-first, first-silents, first-append}
use Rattle.words.specs.declared.Answer.{Answer}
use Rattle.words.specs.Answers.{refused, done, mark}
use Rattle.wire.specs.Wire.{Clean, HoldsAt}
use Rattle.wire.specs.Window.{held_in}
use Rattle.wire.proofs.Window.{window, clean-alone}
use Rattle.probes.specs.Table.{widths, Sound, Late, late_line, lines, DifferThree, list_lines}
use Rattle.probes.proofs.Laws.{sound-gives, mark-late}
use Rattle.meetings.specs.Check.{Judged, Checks, checked}
use Rattle.probes.proofs.Widths.{widths-none}
use Rattle.meetings.specs.Passing.{Passes, silent-passes, passes-silent, passes-gives, sound-silent}
use Rattle.meetings.proofs.Laws.{judged-unique, checked-meets}

module _ (Ts ps ss : List ℕ) where
  -- two answers that meet the promise are one
  pub check-unique : (a b : Answer) → Checks Ts ps ss a → Checks Ts ps ss b → a ≡ b
  unfolding Checks
  check-unique = first-unique (list_lines Ts ps ss) refused (Judged Ts (widths 0 ps) ss) (judged-unique Ts (widths 0 ps) ss)

  -- the numbers that it can give
  pub check-numbers : (a : Answer) → Checks Ts ps ss a → In a.number (0 ∷ 1 ∷ 2 ∷ 3 ∷ 4 ∷ 5 ∷ 6 ∷ 9 ∷ 10 ∷ [])
  unfolding Checks Judged In
  check-numbers a v =
      ⊎_elim (λ h. inr (in_left a.number (1 ∷ 2 ∷ 3 ∷ 4 ∷ 5 ∷ 6 ∷ 9 ∷ []) (10 ∷ []) h))
      (⊎_elim (λ c. inl (rw c.1 refl)) (λ m. in_right a.number (0 ∷ 1 ∷ 2 ∷ 3 ∷ 4 ∷ 5 ∷ 6 ∷ 9 ∷ []) (10 ∷ []) (inl (rw m.4 refl))))
      (first-numbers (λ (r : Answer). r.number) (list_lines Ts ps ss) refused (Judged Ts (widths 0 ps) ss) (λ k i. refl) a v)

  -- 0 exactly when the list passes 1 to 6 and 9, and is clean at every tick there is
  pub check_sound : Checks Ts ps ss done → Passes Ts ps ss × Clean Ts ps ss
  unfolding Checks Judged stands
  check_sound v = (silent-passes Ts ps ss silent, ⊎_elim (λ c. rw (widths-none ps) at c.0) (λ m. absurd (omega (arith, ap (λ (r : Answer). r.number) m.4))) rest)
    where
      silent : Silents (list_lines Ts ps ss)
      silent =
          first-silents (list_lines Ts ps ss) refused (Judged Ts (widths 0 ps) ss) done
          (λ k i h e.
          let z : 0 ≡ k = ap (λ (r : Answer). r.number) e in
          not_in 0 (1 ∷ 2 ∷ 3 ∷ 4 ∷ 5 ∷ 6 ∷ 9 ∷ []) refl (rw (← z) at h))
          v

      rest : Judged Ts (widths 0 ps) ss done
      rest = first_rest (list_lines Ts ps ss) refused (Judged Ts (widths 0 ps) ss) done silent v

  pub check-complete : (a : Answer) → Passes Ts ps ss → Clean Ts ps ss → Checks Ts ps ss a → a ≡ done
  unfolding Checks Judged
  check-complete a p c v =
      check-unique a done v
      (rest-first (list_lines Ts ps ss) refused (Judged Ts (widths 0 ps) ss) done (passes-silent Ts ps ss p) (inl (rw (widths-none ps) c, refl)))

  -- a list that holds the mark at place i, with no start of T or more before it, is refused there by 9
  pub check-mark : (i : ℕ) (a : Answer) → Sound Ts ps → length Ts ≡ length ss → i < length Ts → get_or ss i 0 ≡ mark
      → ((k : ℕ) → k < i → get_or ss k 0 < get_or Ts k 0) → Checks Ts ps ss a → a ≡ refused 9 i
  unfolding Checks First
  check-mark i a s e h m low v =
      check-unique a (refused 9 i) v
      (first-append (lines Ts ps (DifferThree Ts ps ss)) (late_line Ts ss ∷ []) refused (Judged Ts (widths 0 ps) ss) (refused 9 i) nine)
    where
      late : Lowest (Late Ts ss) (length Ts) i
      late =
          record {
            within = omega arith;
            passed = λ k l w. absurd (omega (arith, low k l));
            found = λ l. mark-late Ts ss i ((sound-gives Ts ps s).most i h) m;
          }

      nine : First (lines Ts ps (DifferThree Ts ps ss)) refused (First (late_line Ts ss ∷ []) refused (Judged Ts (widths 0 ps) ss)) (refused 9 i)
      nine = rest-first (lines Ts ps (DifferThree Ts ps ss)) refused (First (late_line Ts ss ∷ []) refused (Judged Ts (widths 0 ps) ss)) (refused 9 i)
          (sound-silent Ts ps ss s e) (inl (i, (h, late), refl))

  -- demand 3, first sentence: from its start on, of any T ticks in a row exactly p are the probe's, and no other probe has one of those
  pub check-alone : Checks Ts ps ss done → (i a : ℕ) → i < length Ts → get_or ss i 0 ≤ a
      → (held_in (get_or Ts i 0) (get_or ps i 0) (get_or ss i 0) a (get_or Ts i 0) ≡ get_or ps i 0)
      × ((j t : ℕ) → j < length Ts → i ≢ j → HoldsAt Ts ps ss i t → HoldsAt Ts ps ss j t → ⊥)
  check-alone v i a h l =
      let (p, c) = check_sound v in
      (window _ _ _ (passes-gives Ts ps ss p i h).short a l, λ j t k n. clean-alone Ts ps ss c i j t h k n)

  -- any three columns have an answer
  pub check-total : Checks Ts ps ss (checked Ts ps ss)
  check-total = checked-meets Ts ps ss
