-- READING A BOOK. Document 01, "The book": "Reading, in order: 20, size 0, no multiple of 512, or above 3,584; then per block ascending 21 .. 22 .. 23 .. each with the block as index;
-- then 24, a column shorter than n .. A done reading has n as its index .. Refused calls write nothing .. Bytes and entries past the result stay."
--     read_lines L bs ..     the lines of reading, in order; those of 20 to 23, n and the columns of a book stand in crate sheets, specs/Blocks
--     Columns               an answer, and the three lent columns afterwards
--     Reads L bs Ts ps ss o     the promise of `read`
--     read_of L bs Ts ps ss      the same, computed
-- Assumes nothing.
use Rattle.std.specs.Prelude.{◌≡◌, ◌⊎◌, List, [], ◌∷◌, ◌++◌, ℕ, ◌<◌, ltb, length, drop}
use Rattle.lists.specs.Pick.{either}
use Rattle.lists.specs.Refusals.{Line, whole, First}
use Rattle.lists.specs.Answering.{Found, tested, first_of}
use Rattle.words.specs.declared.Answer.{Answer}
use Rattle.words.specs.Answers.{refused}
use Rattle.sheets.specs.Layout.{Layout}
pub use Rattle.sheets.specs.Blocks.{BadSize, block_line, block_test}
unfoldable pub use Rattle.sheets.specs.Blocks.{bad_size, block_at, blocks_in, n_of, block_lines, block_findings, judged_blocks, field, column}

pub record Columns : Type 0 where
  pub answer : Answer
  pub periods : List ℕ
  pub lengths : List ℕ
  pub starts : List ℕ

abbrev pub columns : Answer → List ℕ → List ℕ → List ℕ → Columns
columns a Ts ps ss = record { answer = a; periods = Ts; lengths = ps; starts = ss }

module _ (L : Layout) (bs Ts ps ss : List ℕ) where
  -- 24: "a column shorter than n"
  abbrev pub ShortColumn : Type 0
  ShortColumn = (length Ts < n_of bs) ⊎ ((length ps < n_of bs) ⊎ (length ss < n_of bs))

  abbrev pub read_lines : List Line
  read_lines = whole 20 (BadSize L bs) ∷ (block_lines L bs 0 (blocks_in bs) ++ (whole 24 ShortColumn ∷ []))

  unfoldable pub read_findings : List Found
  read_findings =
      tested 20 (bad_size L bs)
      ∷ (block_findings L bs 0 (blocks_in bs)
      ++ (tested 24 (either (ltb (length Ts) (n_of bs)) (either (ltb (length ps) (n_of bs)) (ltb (length ss) (n_of bs)))) ∷ []))

  abbrev pub refused_read : ℕ → ℕ → Columns
  refused_read k i = columns (refused k i) Ts ps ss

  unfoldable pub done_read : Columns
  done_read =
      columns (refused 0 (n_of bs)) (column L bs 0 0 (n_of bs) ++ drop (n_of bs) Ts) (column L bs 1 0 (n_of bs) ++ drop (n_of bs) ps)
      (column L bs 2 0 (n_of bs) ++ drop (n_of bs) ss)

  unfoldable pub Reads : Columns → Type 0
  Reads o = First read_lines refused_read (λ r. r ≡ done_read) o

  unfoldable pub read_of : Columns
  read_of = first_of read_findings refused_read done_read
