-- THE FLIP AS DOCUMENT 01 WRITES IT. "Slots and sub-bins": "Slot v is written in digits, least first: v = d_1 + d_2 b_1 + d_3 b_1 b_2 + .., with each digit d_i below b_i.
-- Its flip is j = d_k + d_(k-1) b_k + .. + d_1 (b_2 .. b_k)." Only bench_sheet and demands use this page; all other crates know the flip by proofs/FlipLaws.
--     sum_to k f             f 0 + f 1 + .. + f (k-1)
--     slot_sum bs ds         the sum over i of d_i b_1 .. b_(i-1)
--     bin_sum bs ds          the sum over i of d_i b_(i+1) .. b_k
--     flip-computes, unflip-computes    the flip on given numbers
-- Edges: at k = 0 both sums are 0. Digits and ratios are counted from 0 here, from 1 in 01.
-- Assumes nothing.
use Rattle.std.specs.Prelude.{◌≡◌, refl, List, reverse, ℕ, zero, suc, ◌+◌, ◌*◌, length, take, drop, get_or}
use Rattle.chain.specs.Digits.{product, digits}
use Rattle.chain.specs.Flip.{turned, levels, flip, unflip}

unfoldable pub sum_to : ℕ → (ℕ → ℕ) → ℕ
sum_to zero f = 0
sum_to (suc k) f = sum_to k f + f k

abbrev pub slot_sum : List ℕ → List ℕ → ℕ
slot_sum bs ds = sum_to (length bs) (λ i. get_or ds i 0 * product (take i bs))

abbrev pub bin_sum : List ℕ → List ℕ → ℕ
bin_sum bs ds = sum_to (length bs) (λ i. get_or ds i 0 * product (drop (suc i) bs))

pub flip-computes : (bs : List ℕ) (m v : ℕ) → flip bs m v ≡ turned (levels bs m) (digits (levels bs m) v)
unfolding flip
flip-computes bs m v = refl

pub unflip-computes : (bs : List ℕ) (m j : ℕ) → unflip bs m j ≡ turned (reverse (levels bs m)) (digits (reverse (levels bs m)) j)
unfolding unflip
unflip-computes bs m j = refl
