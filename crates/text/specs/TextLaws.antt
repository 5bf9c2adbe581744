-- LAWS OF DECIMAL NUMBERS.
--     tens k                10 to the k
--     decimal-one           a number below 10 is one digit
--     decimal-more          any other below 10^20 is the number without its last digit, and that digit
--     decimal-long          a number below 10^(k + 1) has at most k + 1 digits
--     decimal-word          32 bits have at most ten digits, and 64 bits at most twenty: decimal-wide
-- Assumes nothing.
use Rattle.std.specs.Prelude.{◌≡◌, refl, List, [], ◌∷◌, ◌++◌, ℕ, zero, suc, ◌+◌, ◌*◌, ◌/◌, ◌%◌, ◌≤◌, ◌<◌, eqb, length}
use Rattle.std.proofs.Common.{sym, ap, ◌∙◌, append_assoc, arith, eq-eqb, ne_eqb}
use Rattle.std.proofs.Math.Decide.{ℕ_discrete}
use Rattle.lists.specs.Pick.{pick}
use Rattle.text.specs.Text.{digits_then, decimal}

unfoldable pub tens : ℕ → ℕ
tens zero = 1
tens (suc k) = 10 * tens k

digits-before : (k x : ℕ) (rest : List ℕ) → digits_then k x rest ≡ digits_then k x [] ++ rest
unfolding digits_then
digits-before zero x rest = refl
digits-before (suc k) x rest = by (ℕ_discrete (x / 10) 0) (digits-before k (x / 10) ((48 + x % 10) ∷ rest)) (digits-before k (x / 10) ((48 + x % 10) ∷ []))
  where
    by : Dec (x / 10 ≡ 0)
        → digits_then k (x / 10) ((48 + x % 10) ∷ rest) ≡ digits_then k (x / 10) [] ++ ((48 + x % 10) ∷ rest)
        → digits_then k (x / 10) ((48 + x % 10) ∷ []) ≡ digits_then k (x / 10) [] ++ ((48 + x % 10) ∷ [])
        → pick (eqb (x / 10) 0) ((48 + x % 10) ∷ rest) (digits_then k (x / 10) ((48 + x % 10) ∷ rest))
        ≡ pick (eqb (x / 10) 0) ((48 + x % 10) ∷ []) (digits_then k (x / 10) ((48 + x % 10) ∷ [])) ++ rest
    by (yes z) e f = rw (eq-eqb _ _ z)
    by (no d) e f = rw (ne_eqb _ _ d) (e ∙ sym (ap (λ (l : List ℕ). l ++ rest) f ∙ append_assoc (digits_then k (x / 10) []) ((48 + x % 10) ∷ []) rest))

-- more fuel than digits changes nothing
digits-enough : (k x : ℕ) (rest : List ℕ) → x < tens (suc k) → digits_then (suc k) x rest ≡ digits_then (suc (suc k)) x rest
unfolding digits_then tens
digits-enough zero x rest h =
    let z : x / 10 ≡ 0 = omega arith in
    rw (eq-eqb _ _ z)
digits-enough (suc k) x rest h = by (ℕ_discrete (x / 10) 0) (digits-enough k (x / 10) ((48 + x % 10) ∷ rest) (omega arith))
  where
    by : Dec (x / 10 ≡ 0) → digits_then (suc k) (x / 10) ((48 + x % 10) ∷ rest) ≡ digits_then (suc (suc k)) (x / 10) ((48 + x % 10) ∷ rest)
        → pick (eqb (x / 10) 0) ((48 + x % 10) ∷ rest) (digits_then (suc k) (x / 10) ((48 + x % 10) ∷ rest))
        ≡ pick (eqb (x / 10) 0) ((48 + x % 10) ∷ rest) (digits_then (suc (suc k)) (x / 10) ((48 + x % 10) ∷ rest))
    by (yes z) e = rw (eq-eqb _ _ z)
    by (no d) e = rw e

pub decimal-one : (x : ℕ) → x < 10 → decimal x ≡ (48 + x) ∷ []
unfolding decimal digits_then
decimal-one x h =
    let z : x / 10 ≡ 0 = omega arith in
    let m : x % 10 ≡ x = omega arith in
    rw (eq-eqb _ _ z, m)

pub decimal-more : (x : ℕ) → 10 ≤ x → x < tens 20 → decimal x ≡ decimal (x / 10) ++ ((48 + x % 10) ∷ [])
unfolding decimal tens digits_then
decimal-more x l h = first ∙ digits-before 19 (x / 10) ((48 + x % 10) ∷ []) ∙ ap (λ (z : List ℕ). z ++ ((48 + x % 10) ∷ [])) (digits-enough 18 (x / 10) [] (omega arith))
  where
    first : digits_then 20 x [] ≡ digits_then 19 (x / 10) ((48 + x % 10) ∷ [])
    first =
        let d : x / 10 ≡ 0 → ⊥ = λ z. omega arith in
        rw (ne_eqb _ _ d)

digits_long : (j k x : ℕ) (rest : List ℕ) → x < tens (suc k) → length (digits_then j x rest) ≤ suc k + length rest
unfolding digits_then tens
digits_long zero k x rest h = omega arith
digits_long (suc j) zero x rest h =
    let z : x / 10 ≡ 0 = omega arith in
    rw (eq-eqb _ _ z) (omega arith)
digits_long (suc j) (suc k) x rest h = by (ℕ_discrete (x / 10) 0) (digits_long j k (x / 10) ((48 + x % 10) ∷ rest) (omega arith))
  where
    by : Dec (x / 10 ≡ 0) → length (digits_then j (x / 10) ((48 + x % 10) ∷ rest)) ≤ suc k + suc (length rest)
        → length (pick (eqb (x / 10) 0) ((48 + x % 10) ∷ rest) (digits_then j (x / 10) ((48 + x % 10) ∷ rest))) ≤ suc (suc k) + length rest
    by (yes z) e = rw (eq-eqb _ _ z) (omega arith)
    by (no d) e = rw (ne_eqb _ _ d) (omega arith)

pub decimal-long : (k x : ℕ) → x < tens (suc k) → length (decimal x) ≤ suc k
unfolding decimal
decimal-long k x h = omega (arith, digits_long 20 k x [] h)

pub decimal-word : (x : ℕ) → x < 4294967296 → length (decimal x) ≤ 10
unfolding tens
decimal-word x h = decimal-long 9 x (omega arith)

pub decimal-wide : (x : ℕ) → x < 18446744073709551616 → length (decimal x) ≤ 20
unfolding tens
decimal-wide x h = decimal-long 19 x (omega arith)
