-- `text::Printer::put_numbers`: behind the first number stand a space and its digits for each that followed.
use Rattle.std.proofs.Common.{take}
use Rattle.text.specs.Printing.{Puts}
use Rattle.text.proofs.Spaced.{after_first}
use Rattle.text.proofs.Printer.put_numbers.Given as goal

abbrev pub invariant-loop-x : goal.invariant-loop-x
invariant-loop-x l = Puts l.initial.self (after_first (take l.x-index l.rest)) l.self
