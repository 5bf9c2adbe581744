-- THE WAYS OUT OF THE JUDGE: what the tests on the way showed, as plain facts, and the verdict that they make.
-- Assumes nothing.
use Rattle.std.specs.Prelude.{◌≡◌, List, [], ℕ, ◌≤◌, ◌<◌, length, get_or}
use Rattle.std.proofs.Common.{inl, inr, arith}
use borrow.Author.Tests.{eq-eqb, ne_eqb, lt-ltb, le-ltb}
use Rattle.lists.specs.Lowest.{lowest, lowest-meets}
use Rattle.lists.specs.Answering.{first_of}
use Rattle.words.specs.Answers.{refused, done}
use Rattle.probes.specs.Table.{most_probes, most_period, most_rows, shortest, rows, BadPeriod}
use Rattle.probes.specs.Verdict.{bad_period, bad_length, unchained, findings, verdict}
use Rattle.probes.specs.Steps.{bad-period-tells}

-- no period is out of range
pub in-range : (Ts : List ℕ) → length Ts ≤ lowest (bad_period Ts) (length Ts) → (k : ℕ) → k < length Ts → (0 < get_or Ts k 0) × (get_or Ts k 0 ≤ most_period)
in-range Ts h k l = (least (native.Mathlib.Decide.dec_lt (get_or Ts k 0) 1), most (native.Mathlib.Decide.dec_lt most_period (get_or Ts k 0)))
  where
    none : BadPeriod Ts [] k → ⊥
    none = (lowest-meets (bad_period Ts) (BadPeriod Ts []) (length Ts) (λ i j. bad-period-tells Ts [] i)).passed k (omega arith)

    least : Dec (get_or Ts k 0 < 1) → 0 < get_or Ts k 0
    least (yes b) = absurd (none (inl b))
    least (no b) = omega arith

    most : Dec (most_period < get_or Ts k 0) → get_or Ts k 0 ≤ most_period
    most (yes b) = absurd (none (inr b))
    most (no b) = omega arith

module _ (Ts ps : List ℕ) where
  pub way-differ : (length Ts ≡ length ps → ⊥) → refused 1 0 ≡ verdict Ts ps
  unfolding verdict findings first_of
  way-differ h = simp (ne_eqb _ _ h)

  module _ (same : length Ts ≡ length ps) where
    pub way-many : most_probes < length Ts → refused 2 0 ≡ verdict Ts ps
    unfolding verdict findings first_of
    way-many h = simp (eq-eqb _ _ same, lt-ltb _ _ h)

    module _ (few : length Ts ≤ most_probes) where
      pub way-period : (i : ℕ) → i ≡ lowest (bad_period Ts) (length Ts) → i < length Ts → refused 3 i ≡ verdict Ts ps
      unfolding verdict findings first_of
      way-period i e h = rw (← e) (simp (eq-eqb _ _ same, le-ltb _ _ few, lt-ltb _ _ h))

      module _ (range : length Ts ≤ lowest (bad_period Ts) (length Ts)) where
        pub way-length : (j : ℕ) → j ≡ lowest (bad_length (shortest Ts) ps) (length Ts) → j < length Ts → refused 4 j ≡ verdict Ts ps
        unfolding verdict findings first_of
        way-length j e h = rw (← e) (simp (eq-eqb _ _ same, le-ltb _ _ few, le-ltb _ _ range, lt-ltb _ _ h))

        module _ (lengths : length Ts ≤ lowest (bad_length (shortest Ts) ps) (length Ts)) where
          pub way-chain : (k : ℕ) → k ≡ lowest (unchained Ts) (length Ts) → k < length Ts → refused 5 k ≡ verdict Ts ps
          unfolding verdict findings first_of
          way-chain k e h = rw (← e) (simp (eq-eqb _ _ same, le-ltb _ _ few, le-ltb _ _ range, le-ltb _ _ lengths, lt-ltb _ _ h))

          module _ (chain : length Ts ≤ lowest (unchained Ts) (length Ts)) where
            pub way-rows : most_rows < rows Ts → refused 6 0 ≡ verdict Ts ps
            unfolding verdict findings first_of
            way-rows h = simp (eq-eqb _ _ same, le-ltb _ _ few, le-ltb _ _ range, le-ltb _ _ lengths, le-ltb _ _ chain, lt-ltb _ _ h)

            pub way-done : rows Ts ≤ most_rows → done ≡ verdict Ts ps
            unfolding verdict findings first_of
            way-done h = simp (eq-eqb _ _ same, le-ltb _ _ few, le-ltb _ _ range, le-ltb _ _ lengths, le-ltb _ _ chain, le-ltb _ _ h)

-- what the search over the lengths found, in words of the table
pub bad-length-is : (Ts ps : List ℕ) (j w : ℕ) → w ≡ shortest Ts → length Ts ≡ length ps → j ≡ lowest (bad_length w ps) (length ps)
    → j ≡ lowest (bad_length (shortest Ts) ps) (length Ts)
bad-length-is Ts ps j w e f g = rw (e, ← f) at g
