-- TESTS AND WHAT THEY TELL.
--     tells-true, tells-false        a test's value from the fact
--     tells_both, -either, -not      of a test made of tests
--     tells-any                      of a test at some place below k
--     tells-le, -lt, -eq, -divides   of the tests of numbers
-- Assumes nothing.
use Rattle.std.specs.Prelude.{◌≡◌, refl, ◌⊎◌, Bool, true, false, not, ℕ, zero, suc, ◌%◌, ◌≤◌, ◌<◌, leb, ltb, eqb}
use Rattle.std.proofs.Common.{sym, ap, ◌∙◌, inl, inr, arith, ltb-true, ltb-false, leb-true, leb-false, eqb-true}
use Rattle.std.specs.Int.{◌∣◌}
use Rattle.std.proofs.Math.Nat.{dvd_iff_mod-eq-zero}
use Rattle.std.proofs.Math.Decide.{dec_lt}
use Rattle.std.proofs.lemmas.Bool.{eqb-false}
use Rattle.lists.specs.Pick.{pick, both, either, Tells, Decides, any_below}

pub true-or-false : (b : Bool) → b ≡ true → b ≡ false → ⊥
true-or-false b e f =
    let z : ◌≡◌ {A = ℕ} 1 0 = ap (λ (c : Bool). pick c 1 0) (sym e ∙ f) in
    omega arith

pub tells-true : {P : Type 0} (b : Bool) → Tells b P → P → b ≡ true
tells-true true t p = refl
tells-true false t p = absurd (t.no refl p)

pub tells-false : {P : Type 0} (b : Bool) → Tells b P → (P → ⊥) → b ≡ false
tells-false true t n = absurd (n (t.yes refl))
tells-false false t n = refl

pub tells_as : {P Q : Type 0} (b : Bool) → Tells b P → (P → Q) → (Q → P) → Tells b Q
tells_as b t f g = record { yes = λ e. f (t.yes e); no = λ e q. t.no e (g q) }

pub tells_both : {P Q : Type 0} (a b : Bool) → Tells a P → Tells b Q → Tells (both a b) (P × Q)
tells_both true b s t = record { yes = λ e. (s.yes refl, t.yes e); no = λ e p. t.no e p.1 }
tells_both false b s t = record { yes = λ e. absurd (true-or-false false e refl); no = λ e p. s.no refl p.0 }

pub tells-either : {P Q : Type 0} (a b : Bool) → Tells a P → Tells b Q → Tells (either a b) (P ⊎ Q)
tells-either true b s t = record { yes = λ e. inl (s.yes refl); no = λ e p. true-or-false true refl e }
tells-either {P} {Q} false b s t = record { yes = λ e. inr (t.yes e); no = λ e p. neither e p }
  where
    neither : b ≡ false → P ⊎ Q → ⊥
    neither e (inl p) = s.no refl p
    neither e (inr q) = t.no e q

pub tells-not : {P : Type 0} (b : Bool) → Tells b P → Tells (not b) (P → ⊥)
tells-not true t = record { yes = λ e. absurd (true-or-false false e refl); no = λ e n. n (t.yes refl) }
tells-not false t = record { yes = λ e. t.no refl; no = λ e n. true-or-false true refl e }

pub tells-le : (a b : ℕ) → Tells (leb a b) (a ≤ b)
tells-le a b = record { yes = leb-true a b; no = λ e h. absurd (omega (arith, leb-false a b e)) }

pub tells-lt : (a b : ℕ) → Tells (ltb a b) (a < b)
tells-lt a b = record { yes = ltb-true a b; no = λ e h. absurd (omega (arith, ltb-false a b e)) }

pub tells-eq : (a b : ℕ) → Tells (eqb a b) (a ≡ b)
tells-eq a b = record { yes = eqb-true a b; no = eqb-false a b }

pub tells-divides : (a b : ℕ) → Tells (eqb (b % a) 0) (a ∣ b)
tells-divides a b = tells_as (eqb (b % a) 0) (tells-eq (b % a) 0) (dvd_iff_mod-eq-zero a).1 (dvd_iff_mod-eq-zero a).0

pub tells-any : (f : ℕ → Bool) (P : ℕ → Type 0) (k : ℕ) → Decides f P k → Tells (any_below f k) ((j : ℕ) × (j < k) × P j)
unfolding any_below
tells-any f P zero d = record { yes = λ e. absurd (true-or-false false e refl); no = λ e p. absurd (omega (arith, p.1)) }
tells-any f P (suc k) d =
    tells_as (either (f k) (any_below f k)) (tells-either (f k) (any_below f k) (d k (omega arith)) (tells-any f P k (λ i h. d i (omega arith)))) some split
  where
    some : P k ⊎ ((j : ℕ) × (j < k) × P j) → (j : ℕ) × (j < suc k) × P j
    some (inl p) = (k, omega arith, p)
    some (inr (j, h, p)) = (j, omega arith, p)

    split : (j : ℕ) × (j < suc k) × P j → P k ⊎ ((j : ℕ) × (j < k) × P j)
    split (j, h, p) = by (dec_lt j k)
      where
        by : Dec (j < k) → P k ⊎ ((i : ℕ) × (i < k) × P i)
        by (yes l) = inr (j, l, p)
        by (no l) =
            let same : j ≡ k = omega arith in
            inl (rw same at p)

pub tells-yes : {P : Type 0} → P → Tells true P
tells-yes p = record { yes = λ e. p; no = λ e q. true-or-false true refl e }

pub tells-no : {P : Type 0} → (P → ⊥) → Tells false P
tells-no n = record { yes = λ e. absurd (true-or-false false e refl); no = λ e. n }
