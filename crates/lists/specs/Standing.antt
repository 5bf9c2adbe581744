-- WHETHER A NUMBER STANDS IN A LIST, computed.
--     stands k ks       the test
--     not_in            where it says no, the number does not stand there
-- Assumes nothing.
use Rattle.std.specs.Prelude.{◌≡◌, refl, Bool, true, false, List, [], ◌∷◌, ℕ, eqb}
use Rattle.std.proofs.Common.{inl, inr, eq-eqb}
use Rattle.lists.specs.Pick.{either, In}
use Rattle.lists.specs.Telling.{true-or-false}

unfoldable pub stands : ℕ → List ℕ → Bool
stands k [] = false
stands k (x ∷ xs) = either (eqb k x) (stands k xs)

pub not_in : (k : ℕ) (ks : List ℕ) → stands k ks ≡ false → In k ks → ⊥
unfolding stands In
not_in k [] e h = h
not_in k (x ∷ xs) e (inl f) = true-or-false (either (eqb k x) (stands k xs)) (rw (eq-eqb k x f)) e
not_in k (x ∷ xs) e (inr h) = go (λ f. not_in k xs f h)
  where
    go : (stands k xs ≡ false → ⊥) → ⊥
    go rest = by (eqb k x) e
      where
        by : (b : Bool) → either b (stands k xs) ≡ false → ⊥
        by true f = true-or-false true refl f
        by false f = rest f
