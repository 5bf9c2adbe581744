-- THE FAULTS OF A BLOCK. Document 01, "The book": "21, a sum is wrong; 22, n is above 256 or any field of bytes 0 to 11 is not what the size and the rules above require; 23, an unused record not zero".
--     fault_number f        the number of a fault
--     fault_found r         that of a block that was judged: 0 where it has none
-- Assumes nothing.
use Rattle.std.specs.Prelude.{ℕ, Result, Ok, Err}
use Rattle.judging.specs.declared.Fault.{Fault}
use Rattle.judging.specs.declared.Fault.TheVariants.{WrongSum, WrongField, UsedUnused}

abbrev pub fault_number : Fault → ℕ
fault_number WrongSum = 21
fault_number WrongField = 22
fault_number UsedUnused = 23

abbrev pub fault_found : Result (Unit {0}) Fault → ℕ
fault_found (Ok u) = 0
fault_found (Err f) = fault_number f
