-- THE NUMBERS OF A RECORD. Document 01, "The book": "41 records of 12 bytes: period, length, start".
--     field_number f        which of the three, from 0
-- Assumes nothing.
use Rattle.std.specs.Prelude.{ℕ}
use Rattle.loading.specs.declared.Field.{Field}
use Rattle.loading.specs.declared.Field.TheVariants.{Period, Length, Start}

abbrev pub field_number : Field → ℕ
field_number Period = 0
field_number Length = 1
field_number Start = 2
