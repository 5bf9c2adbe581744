use native.Mathlib.Omega.{arith}
use lib.ListN.{length-append}
use Rattle.text.specs.Text.{letters, printed_line}
use Rattle.text.specs.Printing.{puts_room, puts_on}
use Rattle.text.proofs.Printer.put_line.Goals as goal

pub put_numbers-requires : goal.put_numbers-requires
unfolding printed_line letters
put_numbers-requires c = omega (arith, simp length-append at c.requires)

pub put_byte-requires : goal.put_byte-requires
unfolding printed_line letters
put_byte-requires c = let room = puts_room _ c.put_numbers.ensures c.requires in omega (arith, room)

pub returns : goal.returns
unfolding printed_line letters
returns c = puts_on c.put_numbers.ensures c.put_byte.ensures
