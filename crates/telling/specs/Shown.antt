-- AN ANSWER IN BYTES. Document 01, "Numbers the master shows": "number, index and second index in 4 bytes each and the tick in 8, least byte first".
--     answer_bytes           20
--     shown a               the 20 bytes of an answer
-- Assumes nothing.
use Rattle.std.specs.Prelude.{List, ◌++◌, ℕ}
use Rattle.words.specs.declared.Answer.{Answer}
use Rattle.sheets.specs.Bytes.{bytes}

abbrev pub answer_bytes : ℕ
answer_bytes = 20

unfoldable pub shown : Answer → List ℕ
shown a = bytes 4 a.number ++ (bytes 4 a.index ++ (bytes 4 a.second ++ bytes 8 a.tick))
