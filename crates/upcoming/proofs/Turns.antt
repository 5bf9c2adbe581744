-- THE NEXT START OF THE FIRST k PROBES, as the loop keeps it.
--     Best Ts ss t k b      b is it; there is none for no probe alone
--     best-first, best-sooner, best-kept     one more probe
--     best-all, best-named  of all probes
-- Assumes nothing.
use Rattle.std.specs.Prelude.{◌≡◌, refl, List, ℕ, ◌+◌, ◌≤◌, ◌<◌, length, get_or, Option, Some, None, MatchOption, IfSome}
use Rattle.std.proofs.Common.{arith}
use Rattle.words.specs.Answers.{pair, mark}
use Rattle.words.specs.declared.NextStart.{NextStart}
use Rattle.words.specs.Refused.{next_shown}
use Rattle.hours.specs.Timetable.{next_of, candidate}
use Rattle.hours.proofs.NextLaws.{next-none, next_one, turn-sooner, turn-kept, next-all}

module _ (Ts ss : List ℕ) (t : ℕ) where
  abbrev pub Best : ℕ → Option NextStart → Type 0
  Best k best = MatchOption best (k ≡ 0) (λ b. (0 < k) × (b.probe < k) × (pair 0 b.probe 0 b.tick ≡ next_of Ts ss t k))

  module _ (k x : ℕ) (f : x ≡ candidate (get_or Ts k 0) (get_or ss k 0) t) where
    abbrev here : NextStart
    here = record { probe = k; tick = x }

    pub best-first : k ≡ 0 → Best (k + 1) (Some here)
    best-first z = (omega arith, omega arith, rw z (next_one Ts ss t x (rw z at f)))

    pub best-sooner : (b : NextStart) → Best k (Some b) → x < b.tick → Best (k + 1) (Some here)
    best-sooner b (z, l, e) h = (omega arith, omega arith, turn-sooner Ts ss t b.probe b.tick k x k x z e f h refl refl)

    pub best-kept : (b : NextStart) → Best k (Some b) → b.tick ≤ x → Best (k + 1) (Some b)
    best-kept b (z, l, e) h = (omega arith, omega arith, turn-kept Ts ss t b.probe b.tick k x b.probe b.tick z e f h refl refl)

  pub best-all : (k : ℕ) (best : Option NextStart) → Best k best → k ≡ length Ts → next_shown best ≡ next_of Ts ss t (length Ts)
  best-all k None z e = next-none Ts ss t (omega arith)
  best-all k (Some b) (z, l, e) n = next-all Ts ss t k _ e (omega arith) (omega arith)

  pub best-named : (k : ℕ) (best : Option NextStart) → Best k best → k ≤ 256 → IfSome best (λ b. b.probe < mark)
  best-named k None z h = tt
  best-named k (Some b) (z, l, e) h = omega (arith, l)
