-- THE FLIP. Document 01, "Slots and sub-bins": "Its flip is j = d_k + d_(k-1) b_k + .. + d_1 (b_2 .. b_k). At k = 0 both are 0."
--     turned bs ds      d_1 (b_2 .. b_k) + .. + d_(k-1) b_k + d_k: the digits weighed from the other end
--     levels bs m       the first ratios b_1 .. b_k whose product is m: those of a probe with m slots
--     flip bs m v       the sub-bin of slot v, of m slots                                               (shut: known by its laws alone)
--     unflip bs m j     the slot of sub-bin j, of m slots                                               (shut)
-- Assumes nothing.
pub mod Formula
use Rattle.std.specs.Prelude.{List, [], ◌∷◌, reverse, ℕ, ◌+◌, ◌*◌, ◌/◌, eqb}
use Rattle.lists.specs.Pick.{pick}
use Rattle.chain.specs.Digits.{product, digits}

unfoldable pub turned : List ℕ → List ℕ → ℕ
turned [] ds = 0
turned (b ∷ bs) [] = 0
turned (b ∷ bs) (d ∷ ds) = d * product bs + turned bs ds

unfoldable pub levels : List ℕ → ℕ → List ℕ
levels [] m = []
levels (b ∷ bs) m = pick (eqb m 1) [] (b ∷ levels bs (m / b))

pub flip : List ℕ → ℕ → ℕ → ℕ
flip bs m v = turned (levels bs m) (digits (levels bs m) v)

-- the same digits, read from the other end
pub unflip : List ℕ → ℕ → ℕ → ℕ
unflip bs m j = turned (reverse (levels bs m)) (digits (reverse (levels bs m)) j)
