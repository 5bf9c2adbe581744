-- LAWS OF THE BLOCKS: the search of the first bad block, and what 20 leaves of the size.
--     verdict_at L bs b      the verdict of block b
--     RightSize L bs        what 20 leaves of the size
-- Assumes nothing.
use Rattle.std.specs.Prelude.{◌≡◌, List, length}
use Prim.Native.Nat.{ℕ, ◌*◌, ◌%◌, ◌≤◌, ◌<◌}
use Rattle.lists.specs.Answering.{first_of}
use Rattle.words.specs.declared.Answer.{Answer}
use Rattle.words.specs.Answers.{refused}
use Rattle.sheets.specs.Layout.{Layout, block_bytes}
use Rattle.sheets.specs.Block.{WrongSum, UsedUnused, block_verdict}
use Rattle.sheets.specs.BlockLaws.{RightField}
use Rattle.sheets.specs.Blocks.{block_at, blocks_in, n_of, block_findings}

module _ (L : Layout) (bs : List ℕ) where
  abbrev pub verdict_at : ℕ → ℕ
  verdict_at b = block_verdict L (n_of bs) (blocks_in bs) b (block_at b bs)

  -- from block b on, k blocks: number 0 with n, or the refusal
  unfoldable pub judged_from : ℕ → ℕ → Answer
  judged_from b k = first_of (block_findings L bs b k) refused (refused 0 (n_of bs))

-- 22 does not apply to a block whose verdict is 0, and so on
module _ (L : Layout) (n k b : ℕ) (B : List ℕ) where
  pub record RightBlock : Type 0 where
    pub sums : WrongSum B → ⊥
    pub fields : RightField L n k b B
    pub zeros : UsedUnused L n b B → ⊥

-- the size
module _ (L : Layout) (bs : List ℕ) where
  pub record RightSize : Type 0 where
    pub some : 0 < length bs
    pub whole : length bs % block_bytes ≡ 0
    pub most : length bs ≤ L.most_blocks * block_bytes
