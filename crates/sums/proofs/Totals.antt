-- THE SUM OF BYTES from what the library's `sum` says.
-- Assumes nothing.
use Rattle.std.specs.Prelude.{◌≡◌, refl, List, [], ◌∷◌, ℕ, sum}
use Rattle.std.proofs.Common.{arith, ◌∙◌}
use Rattle.std.proofs.lemmas.List.Sums.{sum_by-cons}
use Rattle.sheets.specs.Bytes.{byte_sum}

sum-is : (bs : List ℕ) → sum bs ≡ byte_sum bs
unfolding byte_sum
sum-is [] = refl
sum-is (b ∷ bs) = omega (arith, sum_by-cons (λ x. x) b bs, sum-is bs)

pub byte_sum_by_sum : (bs : List ℕ) (r : ℕ) → r ≡ sum bs → r ≡ byte_sum bs
byte_sum_by_sum bs r e = e ∙ sum-is bs
