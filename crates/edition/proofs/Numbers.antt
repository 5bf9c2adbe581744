-- A NUMBER OF AT MOST FOUR BYTES: four bytes, of which the last are zeros, make the number that the bytes before them make.
-- Assumes nothing.
use Rattle.std.specs.Prelude.{◌≡◌, List, [], ◌∷◌, ◌++◌, ℕ, ◌+◌, ◌-◌, ◌≤◌, length, take, drop}
use Rattle.std.proofs.Common.{arith, length-drop, length-take-le}
use Rattle.std.specs.Int.{w32, from_le_bytes}
use Rattle.sheets.specs.Bytes.{value, word}

of_four : (bs : List ℕ) → length bs ≤ 4 → from_le_bytes w32 (bs ++ drop (length bs) (0 ∷ 0 ∷ 0 ∷ 0 ∷ [])) ≡ value bs
unfolding value
of_four [] h = omega arith
of_four (a ∷ []) h = omega arith
of_four (a ∷ b ∷ []) h = omega arith
of_four (a ∷ b ∷ d ∷ []) h = omega arith
of_four (a ∷ b ∷ d ∷ e ∷ []) h = omega arith
of_four (a ∷ b ∷ d ∷ e ∷ f ∷ bs) h = absurd (omega arith)

pub word_of_four : (bs : List ℕ) (k at : ℕ) → at + k ≤ length bs → k ≤ 4
    → from_le_bytes w32 (take (at + k - at) (drop at bs) ++ drop k (0 ∷ 0 ∷ 0 ∷ 0 ∷ [])) ≡ word k at bs
unfolding word
word_of_four bs k at h l =
    let e : at + k - at ≡ k = omega arith in
    let long : length (take k (drop at bs)) ≡ k = length-take-le k (drop at bs) (omega (arith, length-drop at bs)) in
    rw e (rw long at (of_four (take k (drop at bs)) (omega arith)))
