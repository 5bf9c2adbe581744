-- THE LOWEST PLACE. Document 01: each check "report[s] the lowest place".
--     Lowest P n r      r is the lowest place below n at which P holds, and n where there is none     (believe this)
--     lowest f n        the same, found by trying the test f at 0, 1, ..
--     Searching f n i   what a loop knows that has tried the places below i
-- Assumes nothing.
use Rattle.std.specs.Prelude.{◌≡◌, refl, Bool, true, false, ℕ, zero, suc, ◌+◌, ◌-◌, ◌≤◌, ◌<◌, Option, MatchOption}
use Rattle.std.proofs.Common.{ap, add-one, arith}
use Rattle.std.proofs.Math.Nat.{sub-zero}
use Rattle.lists.specs.Pick.{pick, Tells, Decides}

pub record Lowest (P : ℕ → Type 0) (n r : ℕ) : Type 0 where
  pub within : r ≤ n
  pub passed : (k : ℕ) → k < r → P k → ⊥
  pub found : r < n → P r

clash : (P : ℕ → Type 0) (n x y : ℕ) → Lowest P n x → Lowest P n y → x < y → ⊥
clash P n x y p q h = q.passed x h (p.found (omega (arith, q.within)))

pub lowest-unique : (P : ℕ → Type 0) (n a b : ℕ) → Lowest P n a → Lowest P n b → a ≡ b
lowest-unique P n a b p q = omega (arith, clash P n a b p q, clash P n b a q p)

-- from place i on, with k places left
unfoldable pub lowest_from : (ℕ → Bool) → ℕ → ℕ → ℕ
lowest_from f i zero = i
lowest_from f i (suc k) = pick (f i) i (lowest_from f (suc i) k)

unfoldable pub lowest : (ℕ → Bool) → ℕ → ℕ
lowest f n = lowest_from f 0 n

-- what a search answers: the lowest place, or none
abbrev pub FirstAt : (ℕ → Bool) → ℕ → Option ℕ → Type 0
FirstAt f n r = MatchOption r (lowest f n ≡ n) (λ i. (i < n) × (lowest f n ≡ i))

pub record Searching (f : ℕ → Bool) (n i : ℕ) : Type 0 where
  pub within : i ≤ n
  pub rest : lowest_from f i (n - i) ≡ lowest f n

pub searching-start : (f : ℕ → Bool) (n : ℕ) → Searching f n 0
unfolding lowest
searching-start f n = record { within = omega arith; rest = ap (lowest_from f 0) (sub-zero n) }

left : (n i : ℕ) → i < n → n - i ≡ suc (n - suc i)
left n i h = omega arith

pub searching-next : (f : ℕ → Bool) (n i : ℕ) → i < n → f i ≡ false → Searching f n i → Searching f n (i + 1)
unfolding lowest_from
searching-next f n i h e s = record { within = omega arith; rest = rw (add-one i) (rw (left n i h, e) at s.rest) }

pub searching-found : (f : ℕ → Bool) (n i : ℕ) → i < n → f i ≡ true → Searching f n i → i ≡ lowest f n
unfolding lowest_from
searching-found f n i h e s = rw (left n i h, e) at s.rest

pub searching-none : (f : ℕ → Bool) (n i : ℕ) → n ≤ i → Searching f n i → i ≡ lowest f n
unfolding lowest_from
searching-none f n i h s =
    let z : n - i ≡ 0 = omega arith in
    rw z at s.rest

-- the search finds what the meaning asks for
from-meets : (f : ℕ → Bool) (P : ℕ → Type 0) (n i k : ℕ) → i + k ≡ n → Decides f P n
    → ((j : ℕ) → j < i → P j → ⊥) → Lowest P n (lowest_from f i k)
unfolding lowest_from
from-meets f P n i zero e d before = record { within = omega arith; passed = before; found = λ h. absurd (omega arith) }
from-meets f P n i (suc k) e d before = go (f i) refl (λ b. from-meets f P n (suc i) k (omega arith) d b)
  where
    here : Tells (f i) (P i)
    here = d i (omega arith)

    more : f i ≡ false → (j : ℕ) → j < suc i → P j → ⊥
    more e₀ j h p = step (native.Mathlib.Decide.dec_lt j i)
      where
        step : Dec (j < i) → ⊥
        step (yes l) = before j l p
        step (no l) =
            let same : j ≡ i = omega arith in
            here.no e₀ (rw same at p)

    go : (b : Bool) → f i ≡ b → (((j : ℕ) → j < suc i → P j → ⊥) → Lowest P n (lowest_from f (suc i) k))
        → Lowest P n (pick b i (lowest_from f (suc i) k))
    go true e₁ ih = record { within = omega arith; passed = before; found = λ h. here.yes e₁ }
    go false e₁ ih = ih (more e₁)

pub lowest-meets : (f : ℕ → Bool) (P : ℕ → Type 0) (n : ℕ) → Decides f P n → Lowest P n (lowest f n)
unfolding lowest
lowest-meets f P n d = from-meets f P n 0 n (omega arith) d (λ j h. absurd (omega arith))
