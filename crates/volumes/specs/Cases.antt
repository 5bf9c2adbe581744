-- CASES OF THE BOOK. Document 01, "The book" and "Bench sheet".
-- Assumes nothing.
use Rattle.std.specs.Prelude.{◌≡◌, refl, [], ◌∷◌, length, replicate}
use Rattle.lists.specs.Answering.{first_of}
use Rattle.words.specs.Answers.{refused}
use Rattle.sheets.specs.Bytes.{bytes, value, word, byte_sum, place_sum, all_zero}
use Rattle.sheets.specs.Layout.{first_edition, blocks_of, records_of}
use Rattle.sheets.specs.Runs.{run_from}
use Rattle.sheets.specs.Block.{wrong_sum, wrong_field, unused, used_unused}
use Rattle.sheets.specs.Filling.{record_of, record_at, head_of, body_of, sums_of, block_of}
use Rattle.volumes.specs.Reading.{bad_size, block_at, blocks_in, n_of, block_findings, field, column, columns, read_findings, done_read, read_of}
use Rattle.volumes.specs.Writing.{book_of, pages, write_findings, done_write, write_of}

-- two probes, written and read into columns of three entries: the third stays
pub two-probes : read_of first_edition (book_of first_edition (10 ∷ 20 ∷ []) (3 ∷ 4 ∷ []) (0 ∷ 13 ∷ [])) (7 ∷ 7 ∷ 7 ∷ []) (8 ∷ 8 ∷ 8 ∷ []) (9 ∷ 9 ∷ 9 ∷ [])
    ≡ columns (refused 0 2) (10 ∷ 20 ∷ 7 ∷ []) (3 ∷ 4 ∷ 8 ∷ []) (0 ∷ 13 ∷ 9 ∷ [])
unfolding bytes value word byte_sum place_sum all_zero blocks_of records_of run_from wrong_sum wrong_field unused used_unused record_of record_at head_of body_of sums_of block_of bad_size block_at blocks_in n_of block_findings field column read_findings done_read read_of book_of first_of
two-probes = refl

-- 41 probes take one block, 42 two
pub one_block : (length (book_of first_edition (replicate 41 1) (replicate 41 1) (replicate 41 0)) ≡ 512) × (length (book_of first_edition (replicate 42 1) (replicate 42 1) (replicate 42 0)) ≡ 1024)
unfolding bytes byte_sum place_sum blocks_of records_of run_from record_of record_at head_of body_of sums_of block_of book_of
one_block = (refl, refl)

-- one block of two is not the book of 42 probes: 22 with index 0
pub half-a-book : read_of first_edition (block_of first_edition (replicate 42 1) (replicate 42 1) (replicate 42 0) 0) [] [] [] ≡ columns (refused 22 0) [] [] []
unfolding bytes value word byte_sum place_sum all_zero blocks_of records_of run_from wrong_sum wrong_field unused used_unused record_of record_at head_of body_of sums_of block_of bad_size block_at blocks_in n_of block_findings field column read_findings done_read read_of book_of first_of
half-a-book = refl

-- a whole book and columns that are too short: 24
pub short-column : read_of first_edition (book_of first_edition (10 ∷ []) (3 ∷ []) (0 ∷ [])) (7 ∷ []) [] (9 ∷ []) ≡ columns (refused 24 0) (7 ∷ []) [] (9 ∷ [])
unfolding bytes value word byte_sum place_sum all_zero blocks_of records_of run_from wrong_sum wrong_field unused used_unused record_of record_at head_of body_of sums_of block_of bad_size block_at blocks_in n_of block_findings field column read_findings done_read read_of book_of first_of
short-column = refl

-- writing refuses by 7 where the bytes are too few, and writes nothing
pub short-out : write_of first_edition (10 ∷ []) (3 ∷ []) (0 ∷ []) (replicate 511 5) ≡ pages (refused 7 0) (replicate 511 5)
unfolding blocks_of write_findings write_of done_write first_of
short-out = refl
