-- WHAT THE FLIP ASKS OF ITS CALLER. Document 01, "Slots and sub-bins": "The flip and its inverse are called by our own layers only, with numbers in range".
--     Slotted bs H m    the ratios bs are at least 1, their product is H, at most 4,096, and m is a level of them
-- Assumes nothing.
use Rattle.std.specs.Prelude.{◌≡◌, List, ℕ, ◌≤◌}
use Rattle.probes.specs.Table.{most_rows}
use Rattle.chain.specs.Digits.{product, AllPositive}
use Rattle.chain.specs.Products.{Level}

pub record Slotted (bs : List ℕ) (H m : ℕ) : Type 0 where
  pub positive : AllPositive bs
  pub product_is : product bs ≡ H
  pub few : H ≤ most_rows
  pub level : Level bs m
