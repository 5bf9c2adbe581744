-- THE ORDER OF READING. Document 01, "The book": "Reading, in order: 20 ..; then per block ascending 21 .. 22 .. 23 ..; then 24".
--     per_block k            21, 22, 23 once for each of k blocks, and 24 at the end
--     read-order            so are the numbers of the lines behind 20
-- Assumes nothing.
use Rattle.std.specs.Prelude.{◌≡◌}
use Rattle.std.proofs.Math.Path.{refl, ap}
use mathlib.Core.List.{List, [], ◌∷◌, ◌++◌}
use Prim.Native.Nat.{ℕ, zero, suc}
use Rattle.lists.specs.Refusals.{whole, numbers}
use Rattle.sheets.specs.Layout.{first_edition}
use Rattle.volumes.specs.Reading.{block_lines, blocks_in, ShortColumn}

unfoldable pub per_block : ℕ → List ℕ
per_block zero = 24 ∷ []
per_block (suc k) = 21 ∷ 22 ∷ 23 ∷ per_block k

module _ (bs Ts ps ss : List ℕ) where
  blocks-order : (b k : ℕ) → numbers (block_lines first_edition bs b k ++ (whole 24 (ShortColumn first_edition bs Ts ps ss) ∷ [])) ≡ per_block k
  unfolding block_lines per_block
  blocks-order b zero = refl
  blocks-order b (suc k) = ap (λ (l : List ℕ). 21 ∷ 22 ∷ 23 ∷ l) (blocks-order (suc b) k)

  pub read-order : numbers (block_lines first_edition bs 0 (blocks_in bs) ++ (whole 24 (ShortColumn first_edition bs Ts ps ss) ∷ [])) ≡ per_block (blocks_in bs)
  read-order = blocks-order 0 (blocks_in bs)
