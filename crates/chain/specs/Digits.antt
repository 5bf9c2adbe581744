-- DIGITS TO RATIOS. Document 01, "Slots and sub-bins": "Slot v is written in digits, least first: v = d_1 + d_2 b_1 + d_3 b_1 b_2 + .., with each digit d_i below b_i."
--     product bs        b_1 b_2 .. b_k; 1 for no ratio
--     digits bs v       d_1 .. d_k of v, least first
--     AllPositive bs    each ratio is at least 1
--     Digits bs ds      as many digits as ratios, each below its ratio
-- Assumes nothing.
use Rattle.std.specs.Prelude.{List, [], ◌∷◌, ℕ, ◌*◌, ◌/◌, ◌%◌, ◌<◌}

unfoldable pub product : List ℕ → ℕ
product [] = 1
product (b ∷ bs) = b * product bs

unfoldable pub digits : List ℕ → ℕ → List ℕ
digits [] v = []
digits (b ∷ bs) v = v % b ∷ digits bs (v / b)

unfoldable pub AllPositive : List ℕ → Type 0
AllPositive [] = Unit {0}
AllPositive (b ∷ bs) = (0 < b) × AllPositive bs

unfoldable pub Digits : List ℕ → List ℕ → Type 0
Digits [] [] = Unit {0}
Digits [] (d ∷ ds) = ⊥
Digits (b ∷ bs) [] = ⊥
Digits (b ∷ bs) (d ∷ ds) = (d < b) × Digits bs ds
