-- THE BYTES OF A RECORD THAT IS WRITTEN. Document 01, "The book": "41 records of 12 bytes: period, length, start".
--     record_of T p s             the bytes of a record
--     record_at Ts ps ss i        the bytes of record i
-- Assumes nothing.
use Rattle.std.specs.Prelude.{List, ◌++◌, ℕ, get_or}
use Rattle.sheets.specs.Bytes.{bytes}

unfoldable pub record_of : ℕ → ℕ → ℕ → List ℕ
record_of T p s = bytes 4 T ++ (bytes 4 p ++ bytes 4 s)

unfoldable pub record_at : List ℕ → List ℕ → List ℕ → ℕ → List ℕ
record_at Ts ps ss i = record_of (get_or Ts i 0) (get_or ps i 0) (get_or ss i 0)
