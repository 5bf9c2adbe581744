-- WHAT 22 LEAVES OF A BLOCK.
--     RightField L n k b B  what bytes 0 to 11 say where 22 does not apply
-- Assumes nothing.
use Rattle.std.specs.Prelude.{◌≡◌, List, ℕ, ◌≤◌}
use Rattle.sheets.specs.Bytes.{word}
use Rattle.sheets.specs.Layout.{Layout, most_n, blocks_of, records_of}

module _ (L : Layout) (n k b : ℕ) (B : List ℕ) where
  pub record RightField : Type 0 where
    pub few : n ≤ most_n
    pub count : blocks_of L n ≡ k
    pub number : word 2 0 B ≡ b
    pub blocks : word 2 2 B ≡ k
    pub records : word 2 4 B ≡ records_of L n b
    pub probes : word 2 6 B ≡ n
    pub zeros : word 4 8 B ≡ 0
