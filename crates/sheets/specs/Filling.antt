-- THE BYTES OF A BLOCK THAT IS WRITTEN. Document 01, "The book": "At 504 the sum of bytes 0 to 503; at 508 the sum of (place + 1) times
-- byte over the same bytes .. unused records are zero."
--     record_at Ts ps ss i        the bytes of record i (specs/Records)
--     head_of L n b               bytes 0 to 11 of block b
--     body_of L Ts ps ss b        bytes 0 to 503 of block b
--     sums_of body                the two sums
--     block_of L Ts ps ss b       the block
-- Assumes nothing.
use Rattle.std.specs.Prelude.{List, ◌++◌, ℕ, ◌-◌, ◌*◌, length, replicate}
use Rattle.sheets.specs.Bytes.{bytes, byte_sum, place_sum}
use Rattle.sheets.specs.Layout.{Layout, blocks_of, records_of}
use Rattle.sheets.specs.Runs.{run_from}
unfoldable pub use Rattle.sheets.specs.Records.{record_of, record_at}

unfoldable pub head_of : Layout → ℕ → ℕ → List ℕ
head_of L n b = bytes 2 b ++ (bytes 2 (blocks_of L n) ++ (bytes 2 (records_of L n b) ++ (bytes 2 n ++ bytes 4 0)))

unfoldable pub sums_of : List ℕ → List ℕ
sums_of body = bytes 4 (byte_sum body) ++ bytes 4 (place_sum 0 body)

module _ (L : Layout) (Ts ps ss : List ℕ) where
  unfoldable pub body_of : ℕ → List ℕ
  body_of b =
      head_of L (length Ts) b
      ++ (run_from (record_at Ts ps ss) (b * L.records) (records_of L (length Ts) b)
      ++ replicate ((L.records - records_of L (length Ts) b) * L.record_bytes) 0)

  unfoldable pub block_of : ℕ → List ℕ
  block_of b = body_of b ++ sums_of (body_of b)
