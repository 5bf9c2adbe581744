-- WHAT `timetable::holder` AND `timetable::next_start` PROMISE, in words of specs/ alone: specs/Timetable has the promises `Holder` and `NextFrom`.
-- Assumes nothing.
use mathlib.Core.Path.{◌≡◌, refl, ap}
use mathlib.Core.Logic.{inl, inr, ⊎_elim}
use mathlib.Core.Bool.{Bool, true, false}
use mathlib.Core.List.{List, [], ◌∷◌}
use Prim.Native.Nat.{ℕ, ◌≤◌, ◌<◌}
use native.Mathlib.Omega.{arith}
use lib.Dec.{ltb}
use lib.ListN.{length, get_or}
use borrow.Author.Tests.{lt-ltb, ltb-true, ltb-false}
use Rattle.lists.specs.Pick.{pick, In}
use Rattle.lists.specs.Lowest.{Lowest, lowest, lowest_from}
use Rattle.lists.specs.Refusals.{first-unique, first-numbers, first_rest, rest-first}
use Rattle.lists.specs.Answering.{first_of}
use Rattle.words.specs.declared.Answer.{Answer}
use Rattle.words.specs.Answers.{refused, pair, mark}
use Rattle.words.specs.Ticks.{last_tick}
use Rattle.wire.specs.Wire.{HoldsAt}
use Rattle.probes.specs.Table.{widths, shortest, longest, rows, greatest_of}
use Rattle.probes.specs.Verdict.{findings, verdict}
use Rattle.probes.proofs.Laws.{sound-gives, passes-sound}
use Rattle.hours.specs.Timetable.{ask_lines, HeldBy, Holder, IsNextStart, NextStart, NextFrom, candidate}
use Rattle.probes.proofs.Widths.{widths-none}
use Rattle.hours.specs.Asking.{Asked, asked-silent}
use Rattle.hours.proofs.HolderLaws.{held-unique}
use Rattle.hours.proofs.NextLaws.{next-unique, candidate-from, candidate-starts}

module _ (Ts ps ss : List ℕ) (t : ℕ) where
  -- two answers that meet the promise are one
  pub holder-unique : (a b : Answer) → Holder Ts ps ss t a → Holder Ts ps ss t b → a ≡ b
  unfolding Holder
  holder-unique = first-unique (ask_lines Ts ps ss t) refused (HeldBy Ts (widths 0 ps) ss t) (held-unique Ts (widths 0 ps) ss t)

  -- the numbers that it can give
  pub holder-numbers : (a : Answer) → Holder Ts ps ss t a → In a.number (0 ∷ 1 ∷ 2 ∷ 3 ∷ 4 ∷ 5 ∷ 6 ∷ 9 ∷ 11 ∷ [])
  unfolding Holder HeldBy In
  holder-numbers a v =
      ⊎_elim inr (λ h. inl (rw h.2 refl))
      (first-numbers (λ (r : Answer). r.number) (ask_lines Ts ps ss t) refused (HeldBy Ts (widths 0 ps) ss t) (λ k i. refl) a v)

  -- of a list that no line refuses: the lowest probe that holds the tick is named
  pub holder-names : (i : ℕ) (a : Answer) → Asked Ts ps ss t → i < length Ts → HoldsAt Ts ps ss i t → ((k : ℕ) → k < i → HoldsAt Ts ps ss k t → ⊥)
      → Holder Ts ps ss t a → a ≡ refused 0 i
  unfolding Holder HeldBy
  holder-names i a q h b low v =
      holder-unique a (refused 0 i) v
      (rest-first (ask_lines Ts ps ss t) refused (HeldBy Ts (widths 0 ps) ss t) (refused 0 i) (asked-silent Ts ps ss t q) (rw (widths-none ps) named))
    where
      named : (r : ℕ) × Lowest (λ k. HoldsAt Ts ps ss k t) (length Ts) r × (refused 0 i ≡ refused 0 (pick (ltb r (length Ts)) r mark))
      named = (i, record { within = omega arith; passed = low; found = λ l. b }, rw (lt-ltb i (length Ts) h))

  -- and idle exactly where no probe holds it
  pub holder-idle : (a : Answer) → Asked Ts ps ss t → ((k : ℕ) → k < length Ts → HoldsAt Ts ps ss k t → ⊥) → Holder Ts ps ss t a → a ≡ refused 0 mark
  unfolding Holder HeldBy
  holder-idle a q none v =
      holder-unique a (refused 0 mark) v
      (rest-first (ask_lines Ts ps ss t) refused (HeldBy Ts (widths 0 ps) ss t) (refused 0 mark) (asked-silent Ts ps ss t q) (rw (widths-none ps) idle))
    where
      past : (b : Bool) → ltb (length Ts) (length Ts) ≡ b → refused 0 mark ≡ refused 0 (pick b (length Ts) mark)
      past true e = absurd (omega (arith, ltb-true (length Ts) (length Ts) e))
      past false e = refl

      idle : (r : ℕ) × Lowest (λ k. HoldsAt Ts ps ss k t) (length Ts) r × (refused 0 mark ≡ refused 0 (pick (ltb r (length Ts)) r mark))
      idle = (length Ts, record { within = omega arith; passed = none; found = λ l. absurd (omega arith) }, past (ltb (length Ts) (length Ts)) refl)

  pub holder-idle-only : Asked Ts ps ss t → Holder Ts ps ss t (refused 0 mark) → (k : ℕ) → k < length Ts → HoldsAt Ts ps ss k t → ⊥
  unfolding Holder HeldBy
  holder-idle-only q v k h b = by (rw (widths-none ps) at rest)
    where
      rest : HeldBy Ts (widths 0 ps) ss t (refused 0 mark)
      rest = first_rest (ask_lines Ts ps ss t) refused (HeldBy Ts (widths 0 ps) ss t) (refused 0 mark) (asked-silent Ts ps ss t q) v

      -- a probe's number is no mark
      over : (r : ℕ) (c : Bool) → ltb r (length Ts) ≡ c → mark ≡ pick c r mark → length Ts ≤ r
      over r true e f = absurd (omega (arith, ltb-true r (length Ts) e, (sound-gives Ts ps q.sound).few))
      over r false e f = ltb-false r (length Ts) e

      by : HeldBy Ts ps ss t (refused 0 mark) → ⊥
      by (r, l, e) = l.passed k (omega (arith, over r (ltb r (length Ts)) refl (ap (λ (a : Answer). a.index) e))) b

  pub next-start-unique : (a b : Answer) → NextFrom Ts ps ss t a → NextFrom Ts ps ss t b → a ≡ b
  unfolding NextFrom
  next-start-unique = first-unique (ask_lines Ts ps ss t) refused (NextStart Ts ss t) (next-unique Ts ss t)

  pub next-start-numbers : (a : Answer) → NextFrom Ts ps ss t a → In a.number (0 ∷ 1 ∷ 2 ∷ 3 ∷ 4 ∷ 5 ∷ 6 ∷ 9 ∷ 11 ∷ [])
  unfolding NextFrom NextStart In
  next-start-numbers a v =
      ⊎_elim inr (⊎_elim (λ n. inl (rw n.1 refl)) (λ s. inl (rw s.3 refl)))
      (first-numbers (λ (r : Answer). r.number) (ask_lines Ts ps ss t) refused (NextStart Ts ss t) (λ k i. refl) a v)

  -- of a list that no line refuses: the least start from the tick on is named, with the lowest such probe
  pub next-start-names : (i x : ℕ) (a : Answer) → Asked Ts ps ss t → IsNextStart Ts ss t i x → NextFrom Ts ps ss t a → a ≡ pair 0 i 0 x
  unfolding NextFrom NextStart
  next-start-names i x a q w v =
      next-start-unique a (pair 0 i 0 x) v
      (rest-first (ask_lines Ts ps ss t) refused (NextStart Ts ss t) (pair 0 i 0 x) (asked-silent Ts ps ss t q) (inr (i, x, w, refl)))

  -- only the empty table has no start
  pub next-start-some : Asked Ts ps ss t → 0 < length Ts → NextFrom Ts ps ss t (refused 0 mark) → ⊥
  unfolding NextFrom NextStart
  next-start-some q h v = by (first_rest (ask_lines Ts ps ss t) refused (NextStart Ts ss t) (refused 0 mark) (asked-silent Ts ps ss t q) v)
    where
      pos : 0 < get_or Ts 0 0
      pos = (sound-gives Ts ps q.sound).least 0 h

      by : NextStart Ts ss t (refused 0 mark) → ⊥
      by (inl (none, e)) = none 0 (candidate (get_or Ts 0 0) (get_or ss 0 0) t) h (candidate-from _ _ t pos) (candidate-starts _ _ t pos)
      by (inr (i, x, w, e)) = absurd (omega (arith, ap (λ (a : Answer). a.index) e, w.probe, (sound-gives Ts ps q.sound).few))

empty-asked : (t : ℕ) → t ≤ last_tick → Asked [] [] [] t
unfolding verdict findings first_of lowest lowest_from rows longest shortest greatest_of
empty-asked t h = record { sound = passes-sound [] [] refl; below = λ i l. absurd (omega arith); same = refl; soon = h }

-- the empty table answers idle, and no start
pub holder-empty : (t : ℕ) (a : Answer) → t ≤ last_tick → Holder [] [] [] t a → a ≡ refused 0 mark
holder-empty t a h = holder-idle [] [] [] t a (empty-asked t h) (λ k h. absurd (omega arith))

pub next-start-empty : (t : ℕ) (a : Answer) → t ≤ last_tick → NextFrom [] [] [] t a → a ≡ refused 0 mark
unfolding NextFrom NextStart
next-start-empty t a h v =
    next-start-unique [] [] [] t a (refused 0 mark) v
    (rest-first (ask_lines [] [] [] t) refused (NextStart [] [] t) (refused 0 mark) (asked-silent [] [] [] t (empty-asked t h)) (inl (λ k y l. absurd (omega arith), refl)))
