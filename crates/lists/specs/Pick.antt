-- CHOOSING BY A TEST.
--     pick b x y        x where the test b is true, else y
--     both, either      of two tests
--     Decides f P n     below n the test f says whether P holds
--     any_below f k      the test f is true at some place below k
--     In x xs           x stands in the list xs
-- Assumes nothing.
use Rattle.std.specs.Prelude.{◌≡◌, ◌⊎◌, Bool, true, false, List, [], ◌∷◌, ◌++◌, ℕ, zero, suc, ◌<◌}
use Rattle.std.proofs.Common.{inl, inr}

abbrev pub pick {ℓ} : {A : Type ℓ} → Bool → A → A → A
pick true x y = x
pick false x y = y

abbrev pub both : Bool → Bool → Bool
both a b = pick a b false

abbrev pub either : Bool → Bool → Bool
either a b = pick a true b

-- what a test means, of one fact
pub record Tells (b : Bool) (P : Type 0) : Type 0 where
  pub yes : b ≡ true → P
  pub no : b ≡ false → P → ⊥

abbrev pub Decides : (ℕ → Bool) → (ℕ → Type 0) → ℕ → Type 0
Decides f P n = (i : ℕ) → i < n → Tells (f i) (P i)

unfoldable pub any_below : (ℕ → Bool) → ℕ → Bool
any_below f zero = false
any_below f (suc k) = either (f k) (any_below f k)

unfoldable pub In : ℕ → List ℕ → Type 0
In x [] = ⊥
In x (y ∷ ys) = (x ≡ y) ⊎ In x ys

pub in_left : (x : ℕ) (xs ys : List ℕ) → In x xs → In x (xs ++ ys)
unfolding In
in_left x [] ys h = absurd h
in_left x (z ∷ zs) ys (inl e) = inl e
in_left x (z ∷ zs) ys (inr h) = inr (in_left x zs ys h)

pub in_right : (x : ℕ) (xs ys : List ℕ) → In x ys → In x (xs ++ ys)
unfolding In
in_right x [] ys h = h
in_right x (z ∷ zs) ys h = inr (in_right x zs ys h)
