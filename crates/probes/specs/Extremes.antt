-- THE LEAST AND THE LONGEST PERIOD. Document 01, "The line and its words": "w is the least period in the table, M the longest."
--     shortest-least, shortest-is       w is at most each period, and one of them
--     longest-greatest, longest-is      M is at least each period, and one of them
-- Edges: the empty table has no period, so shortest-is and longest-is ask for a probe.
-- Assumes nothing.
use Rattle.std.specs.Prelude.{◌≡◌, refl, ◌⊎◌, List, [], ◌∷◌, ℕ, zero, suc, ◌≤◌, ◌<◌, min, max, length, get_or}
use Rattle.std.proofs.Common.{sym, ◌∙◌, inl, inr, arith}
use Rattle.std.proofs.Math.Nat.{min-eq_left, min-eq_right, max-eq_left, max-eq_right}
use Rattle.std.proofs.Math.Decide.{dec_le}
use Rattle.probes.specs.Table.{least_of, greatest_of, shortest, longest}

-- some probe of the table has the period T
abbrev pub HasPeriod : List ℕ → ℕ → Type 0
HasPeriod Ts T = (i : ℕ) × (i < length Ts) × (get_or Ts i 0 ≡ T)

-- a number is m, or one of the list
FirstOr : ℕ → List ℕ → ℕ → Type 0
FirstOr m xs r = (r ≡ m) ⊎ HasPeriod xs r

least_first : (m : ℕ) (xs : List ℕ) → least_of m xs ≤ m
unfolding least_of
least_first m [] = omega arith
least_first m (x ∷ xs) = omega (arith, least_first (min m x) xs)

least-each : (m : ℕ) (xs : List ℕ) (i : ℕ) → i < length xs → least_of m xs ≤ get_or xs i 0
unfolding least_of
least-each m [] i h = absurd (omega arith)
least-each m (x ∷ xs) zero h = omega (arith, least_first (min m x) xs)
least-each m (x ∷ xs) (suc i) h = least-each (min m x) xs i (omega arith)

least-is : (m : ℕ) (xs : List ℕ) → FirstOr m xs (least_of m xs)
unfolding least_of FirstOr
least-is m [] = inl refl
least-is m (x ∷ xs) = go (least-is (min m x) xs) (dec_le m x)
  where
    go : FirstOr (min m x) xs (least_of (min m x) xs) → Dec (m ≤ x) → FirstOr m (x ∷ xs) (least_of (min m x) xs)
    go (inl e) (yes h) = inl (e ∙ min-eq_left h)
    go (inl e) (no h) = inr (0, omega arith, sym (e ∙ min-eq_right (omega arith)))
    go (inr (i, h, e)) d = inr (suc i, omega arith, e)

greatest-first : (m : ℕ) (xs : List ℕ) → m ≤ greatest_of m xs
unfolding greatest_of
greatest-first m [] = omega arith
greatest-first m (x ∷ xs) = omega (arith, greatest-first (max m x) xs)

greatest-each : (m : ℕ) (xs : List ℕ) (i : ℕ) → i < length xs → get_or xs i 0 ≤ greatest_of m xs
unfolding greatest_of
greatest-each m [] i h = absurd (omega arith)
greatest-each m (x ∷ xs) zero h = omega (arith, greatest-first (max m x) xs)
greatest-each m (x ∷ xs) (suc i) h = greatest-each (max m x) xs i (omega arith)

greatest-is : (m : ℕ) (xs : List ℕ) → FirstOr m xs (greatest_of m xs)
unfolding greatest_of FirstOr
greatest-is m [] = inl refl
greatest-is m (x ∷ xs) = go (greatest-is (max m x) xs) (dec_le x m)
  where
    go : FirstOr (max m x) xs (greatest_of (max m x) xs) → Dec (x ≤ m) → FirstOr m (x ∷ xs) (greatest_of (max m x) xs)
    go (inl e) (yes h) = inl (e ∙ max-eq_left h)
    go (inl e) (no h) = inr (0, omega arith, sym (e ∙ max-eq_right (omega arith)))
    go (inr (i, h, e)) d = inr (suc i, omega arith, e)

pub shortest-least : (Ts : List ℕ) (i : ℕ) → i < length Ts → shortest Ts ≤ get_or Ts i 0
unfolding shortest
shortest-least [] i h = absurd (omega arith)
shortest-least (T ∷ Ts) zero h = least_first T Ts
shortest-least (T ∷ Ts) (suc i) h = least-each T Ts i (omega arith)

pub shortest-is : (Ts : List ℕ) → 0 < length Ts → HasPeriod Ts (shortest Ts)
unfolding shortest FirstOr
shortest-is [] h = absurd (omega arith)
shortest-is (T ∷ Ts) h = go (least-is T Ts)
  where
    go : FirstOr T Ts (least_of T Ts) → HasPeriod (T ∷ Ts) (least_of T Ts)
    go (inl e) = (0, omega arith, sym e)
    go (inr (i, l, e)) = (suc i, omega arith, e)

pub longest-greatest : (Ts : List ℕ) (i : ℕ) → i < length Ts → get_or Ts i 0 ≤ longest Ts
unfolding longest
longest-greatest Ts i h = greatest-each 0 Ts i h

pub longest-is : (Ts : List ℕ) → 0 < length Ts → HasPeriod Ts (longest Ts)
unfolding longest FirstOr
longest-is [] h = absurd (omega arith)
longest-is (T ∷ Ts) h = go (greatest-is 0 (T ∷ Ts))
  where
    go : FirstOr 0 (T ∷ Ts) (greatest_of 0 (T ∷ Ts)) → HasPeriod (T ∷ Ts) (greatest_of 0 (T ∷ Ts))
    go (inl e) = (0, omega arith, (let f = greatest-each 0 (T ∷ Ts) 0 (omega arith) in omega arith))
    go (inr m) = m
