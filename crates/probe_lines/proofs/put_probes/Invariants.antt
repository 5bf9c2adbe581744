use Rattle.std.proofs.Common.{◌+◌, ◌*◌, ◌≤◌}
use Rattle.text.specs.Printing.{Puts}
use Rattle.lines.specs.Lines.{probe_lines}
use Rattle.lines.specs.Laws.{most_line}
use Rattle.probe_lines.proofs.put_probes.Given as goal

abbrev pub invariant-loop-i : goal.invariant-loop-i
invariant-loop-i l = Puts l.fn.printer (probe_lines l.periods l.lengths l.starts 0 l.i) l.printer × (l.printer.at ≤ l.fn.printer.at + most_line * l.i)
