-- A NUMBER OF AT MOST EIGHT BYTES: the first of the eight bytes that the library makes of it, stored one after another.
-- Assumes nothing.
use Rattle.std.specs.Prelude.{◌≡◌, refl, List, ◌∷◌, ◌++◌, ℕ, zero, suc, ◌+◌, ◌-◌, ◌/◌, ◌%◌, ◌^◌, ◌≤◌, length, take, drop}
use Rattle.std.proofs.Common.{ap, ◌∙◌, arith}
use Rattle.std.proofs.Math.Nat.{div-div-eq-div-mul, pow-suc}
use Rattle.std.proofs.lemmas.List.Edits.{sets}
use Rattle.std.specs.Int.{w64, to_le_bytes, byte_at, bytes_low_first}
use Rattle.sheets.specs.Bytes.{bytes}
use Rattle.sheets.proofs.FillingLaws.{part-stored}

at-is : (i x : ℕ) → byte_at i x ≡ x / 256 ^ i % 256
at-is zero x = omega arith
at-is (suc i) x = refl

low-first : (i k x : ℕ) → bytes_low_first i k x ≡ bytes k (x / 256 ^ i)
unfolding bytes
low-first i zero x = refl
low-first i (suc k) x =
    rw (at-is i x, low-first (suc i) k x, pow-suc 256 i, div-div-eq-div-mul x (256 ^ i) 256)

take-low : (i k n x : ℕ) → k ≤ n → take k (bytes_low_first i n x) ≡ bytes_low_first i k x
take-low i zero n x h = refl
take-low i (suc k) zero x h = absurd (omega arith)
take-low i (suc k) (suc n) x h = ap (λ (z : List ℕ). byte_at i x ∷ z) (take-low (suc i) k n x (omega arith))

length-bytes : (k x : ℕ) → length (bytes k x) ≡ k
unfolding bytes
length-bytes zero x = refl
length-bytes (suc k) x = ap suc (length-bytes k (x / 256))

bytes-of : (k x : ℕ) → k ≤ 8 → take k (to_le_bytes w64 x) ≡ bytes k x
bytes-of k x h =
    let e : x / 256 ^ 0 ≡ x = omega arith in
    take-low 0 k 8 x h ∙ low-first 0 k x ∙ ap (bytes k) e

pub number_stored : (l : List ℕ) (at k x : ℕ) → k ≤ 8 → at + k ≤ length l
    → take at l ++ (take k (to_le_bytes w64 x) ++ drop (at + k - at) (drop at l)) ≡ sets l at (bytes k x)
number_stored l at k x h room = rw (bytes-of k x h) (part-stored l (bytes k x) at (at + k) (omega arith) (omega (arith, length-bytes k x)) room)
