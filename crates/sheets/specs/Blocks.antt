-- WHAT A BOOK HOLDS. Document 01, "The book": "20, size 0, no multiple of 512, or above 3,584; then per block ascending 21 .. 22 .. 23 .. each with the block as index".
--     BadSize L bs          20
--     block_at b bs          the bytes of block b
--     n_of bs                the book's n: what block 0 carries
--     field L bs f i        number f (period 0, length 1, start 2) of record i
--     column L bs f i k     that number of the k records from record i on
--     block_lines L bs b k   the lines 21, 22 and 23 of the k blocks from block b on
--     judged_blocks L bs     21, 22 or 23 of the first block that has one; else number 0 and n
-- Assumes nothing.
use Rattle.std.specs.Prelude.{◌≡◌, ◌⊎◌, ◌≢◌, Bool, not, List, [], ◌∷◌, ℕ, zero, suc, ◌+◌, ◌*◌, ◌/◌, ◌%◌, ◌<◌, ltb, eqb, length, take, drop}
use Rattle.lists.specs.Pick.{pick, either}
use Rattle.lists.specs.Refusals.{Line, line}
use Rattle.lists.specs.Answering.{Found, found, first_of}
use Rattle.words.specs.declared.Answer.{Answer}
use Rattle.words.specs.Answers.{refused}
use Rattle.sheets.specs.Bytes.{word}
use Rattle.sheets.specs.Layout.{Layout, block_bytes, head_bytes}
use Rattle.sheets.specs.Block.{WrongSum, WrongField, UsedUnused, wrong_sum, wrong_field, used_unused}

abbrev pub BadSize : Layout → List ℕ → Type 0
BadSize L bs = (length bs ≡ 0) ⊎ ((length bs % block_bytes ≢ 0) ⊎ (L.most_blocks * block_bytes < length bs))

unfoldable pub bad_size : Layout → List ℕ → Bool
bad_size L bs = either (eqb (length bs) 0) (either (not (eqb (length bs % block_bytes) 0)) (ltb (L.most_blocks * block_bytes) (length bs)))

unfoldable pub block_at : ℕ → List ℕ → List ℕ
block_at b bs = take block_bytes (drop (b * block_bytes) bs)

unfoldable pub blocks_in : List ℕ → ℕ
blocks_in bs = length bs / block_bytes

unfoldable pub n_of : List ℕ → ℕ
n_of bs = word 2 6 bs

-- a line that names block b where C holds
abbrev pub block_line : ℕ → ℕ → Type 0 → Line
block_line k b C = line k (suc b) (λ i. (i ≡ b) × C)

abbrev pub block_test : ℕ → ℕ → Bool → Found
block_test k b c = found k (suc b) (pick c b (suc b))

module _ (L : Layout) (bs : List ℕ) where
  -- the lines of the k blocks from block b on
  unfoldable pub block_lines : ℕ → ℕ → List Line
  block_lines b zero = []
  block_lines b (suc k) =
      block_line 21 b (WrongSum (block_at b bs))
      ∷ block_line 22 b (WrongField L (n_of bs) (blocks_in bs) b (block_at b bs))
      ∷ block_line 23 b (UsedUnused L (n_of bs) b (block_at b bs))
      ∷ block_lines (suc b) k

  unfoldable pub block_findings : ℕ → ℕ → List Found
  block_findings b zero = []
  block_findings b (suc k) =
      block_test 21 b (wrong_sum (block_at b bs))
      ∷ block_test 22 b (wrong_field L (n_of bs) (blocks_in bs) b (block_at b bs))
      ∷ block_test 23 b (used_unused L (n_of bs) b (block_at b bs))
      ∷ block_findings (suc b) k

  unfoldable pub judged_blocks : Answer
  judged_blocks = first_of (block_findings 0 (blocks_in bs)) refused (refused 0 (n_of bs))

  -- the four bytes of number f of record i
  unfoldable pub field : ℕ → ℕ → ℕ
  field f i = word 4 (i / L.records * block_bytes + head_bytes + i % L.records * L.record_bytes + f * 4) bs

  -- number f of k records from record i on
  unfoldable pub column : ℕ → ℕ → ℕ → List ℕ
  column f i zero = []
  column f i (suc k) = field f i ∷ column f (suc i) k
