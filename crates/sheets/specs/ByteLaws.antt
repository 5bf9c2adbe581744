-- LAWS OF BYTES AND SUMS.
--     word_two, word-four   a number at a place, byte by byte
--     value-bytes, bytes-value    a number in k bytes, and back
--     sum-next, place-next  the two sums over one byte more
--     byte-sum-most, place-sum-most   how large the sums can be
--     zero-next, zero-found, zero-none   a run of zeros, byte by byte
-- Assumes nothing.
use Rattle.std.specs.Prelude.{◌≡◌, refl, true, false, List, [], ◌∷◌, ◌++◌, ℕ, zero, suc, ◌+◌, ◌*◌, ◌/◌, ◌%◌, ◌^◌, ◌≤◌, ◌<◌, eqb, length, get_or, take, drop}
use Rattle.std.proofs.Common.{ap, add-zero, mul-le-mul_left, mul-le-mul_right, arith, drop-cons, take-suc, length-take-le}
use Rattle.std.proofs.Math.Numerals.{add-one}
use Rattle.std.proofs.Math.Seq.{slice-cons, slice_empty}
use borrow.Author.Tests.{eq-eqb, ne_eqb}
use Rattle.lists.specs.Pick.{Tells}
use Rattle.lists.specs.Telling.{tells_both, tells-eq, tells-yes}
use Rattle.sheets.specs.Bytes.{AreBytes, bytes, value, word, byte_sum, place_sum, AllZero, all_zero}

-- a number at a place
pub word_two : (bs : List ℕ) (at : ℕ) → at + 2 ≤ length bs → get_or bs at 0 + 256 * get_or bs (at + 1) 0 ≡ word 2 at bs
unfolding word value
word_two bs at h =
    let e : at + 1 ≡ suc at = omega arith in
    rw (drop-cons bs at 0 (omega arith), drop-cons bs (suc at) 0 (omega arith), e) (omega arith)

pub word-four : (bs : List ℕ) (at : ℕ) → at + 4 ≤ length bs
    → get_or bs at 0 + 256 * (get_or bs (at + 1) 0 + 256 * (get_or bs (at + 2) 0 + 256 * get_or bs (at + 3) 0)) ≡ word 4 at bs
unfolding word value
word-four bs at h =
    let e : at + 1 ≡ suc at = omega arith in
    let f : at + 2 ≡ suc (suc at) = omega arith in
    let g : at + 3 ≡ suc (suc (suc at)) = omega arith in
    rw (drop-cons bs at 0 (omega arith), drop-cons bs (suc at) 0 (omega arith), drop-cons bs (suc (suc at)) 0 (omega arith), drop-cons bs (suc (suc (suc at))) 0 (omega arith), e, f, g)
    (omega arith)

-- a number in k bytes, and back
pub value-bytes : (k x : ℕ) → x < 256 ^ k → value (bytes k x) ≡ x
unfolding value bytes
value-bytes zero x h = omega arith
value-bytes (suc k) x h =
    let small : x / 256 < 256 ^ k = omega arith in
    let ih = value-bytes k (x / 256) small in
    omega arith

pub bytes-value : (bs : List ℕ) → AreBytes bs → bytes (length bs) (value bs) ≡ bs
unfolding value bytes
bytes-value [] h = refl
bytes-value (b ∷ bs) h =
    let small : b < 256 = h 0 in
    let m : (b + 256 * value bs) % 256 ≡ b = omega arith in
    let d : (b + 256 * value bs) / 256 ≡ value bs = omega arith in
    rw (m, d) (ap (λ (xs : List ℕ). b ∷ xs) (bytes-value bs (λ i. h (suc i))))

-- the sums
pub byte-sum-append : (xs ys : List ℕ) → byte_sum (xs ++ ys) ≡ byte_sum xs + byte_sum ys
unfolding byte_sum
byte-sum-append [] ys = omega arith
byte-sum-append (x ∷ xs) ys = omega (arith, byte-sum-append xs ys)

pub place-sum-append : (i : ℕ) (xs ys : List ℕ) → place_sum i (xs ++ ys) ≡ place_sum i xs + place_sum (i + length xs) ys
unfolding place_sum
place-sum-append i [] ys = rw (add-zero i) (omega arith)
place-sum-append i (x ∷ xs) ys =
    let e : i + suc (length xs) ≡ suc i + length xs = omega arith in
    rw e (omega (arith, place-sum-append (suc i) xs ys))

pub sum-next : (bs : List ℕ) (i : ℕ) → i < length bs → byte_sum (take (i + 1) bs) ≡ byte_sum (take i bs) + get_or bs i 0
unfolding byte_sum
sum-next bs i h = rw (add-one i, take-suc bs i 0 h) (omega (arith, byte-sum-append (take i bs) (get_or bs i 0 ∷ [])))

pub place-next : (bs : List ℕ) (i : ℕ) → i < length bs → place_sum 0 (take (i + 1) bs) ≡ place_sum 0 (take i bs) + (i + 1) * get_or bs i 0
unfolding place_sum
place-next bs i h =
    let e : 0 + length (take i bs) ≡ i = omega (arith, length-take-le i bs (omega arith)) in
    rw (add-one i, take-suc bs i 0 h, place-sum-append 0 (take i bs) (get_or bs i 0 ∷ []), e) (omega arith)

pub byte-sum-most : (bs : List ℕ) → AreBytes bs → byte_sum bs ≤ 255 * length bs
unfolding byte_sum
byte-sum-most [] h = omega arith
byte-sum-most (b ∷ bs) h = omega (arith, h 0, byte-sum-most bs (λ i. h (suc i)))

-- a byte's part of the second sum, at a place below k
pub place-part : (i k b : ℕ) → i < k → b < 256 → (i + 1) * b ≤ 255 * k
place-part i k b h l = omega (arith, mul-le-mul_left (i + 1) (le b l), mul-le-mul_right 255 (more i k h))
  where
    le : (b : ℕ) → b < 256 → b ≤ 255
    le b l = omega arith

    more : (i k : ℕ) → i < k → i + 1 ≤ k
    more i k h = omega arith

pub place-sum-most : (k i : ℕ) (bs : List ℕ) → AreBytes bs → i + length bs ≤ k → place_sum i bs ≤ 255 * k * length bs
unfolding place_sum
place-sum-most k i [] h l = omega arith
place-sum-most k i (b ∷ bs) h l =
    let part : (i + 1) * b ≤ 255 * k = place-part i k b (omega arith) (h 0) in
    omega (arith, place-sum-most k (suc i) bs (λ j. h (suc j)) (omega arith))

-- a run of zeros
pub all-zero-tells : (bs : List ℕ) → Tells (all_zero bs) (AllZero bs)
unfolding all_zero AllZero
all-zero-tells [] = tells-yes tt
all-zero-tells (b ∷ bs) = tells_both (eqb b 0) (all_zero bs) (tells-eq b 0) (all-zero-tells bs)

module _ (bs : List ℕ) (i k : ℕ) (h : i < k) (l : k ≤ length bs) where
  pub zero-next : get_or bs i 0 ≡ 0 → all_zero (drop (i + 1) (take k bs)) ≡ all_zero (drop i (take k bs))
  unfolding all_zero
  zero-next e = rw (slice-cons i k bs 0 h l, eq-eqb (get_or bs i 0) 0 e, add-one i)

  pub zero-found : (get_or bs i 0 ≡ 0 → ⊥) → false ≡ all_zero (drop i (take k bs))
  unfolding all_zero
  zero-found n = rw (slice-cons i k bs 0 h l, ne_eqb (get_or bs i 0) 0 n)

pub zero-none : (bs : List ℕ) (k : ℕ) → true ≡ all_zero (drop k (take k bs))
unfolding all_zero
zero-none bs k = rw (slice_empty k bs)
