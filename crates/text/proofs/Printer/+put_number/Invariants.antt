-- `text::Printer::put_number` ends: what is left to write gets smaller.
use Rattle.text.proofs.Printer.+put_number.Given as goal

abbrev pub decreases-put_number : goal.decreases-put_number
decreases-put_number l = l.x
