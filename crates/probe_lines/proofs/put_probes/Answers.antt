use native.Mathlib.Omega.{arith}
use Rattle.text.specs.Printing.{puts_length}
use Rattle.probe_lines.proofs.Lines.{lines_none, lines_next}
use Rattle.probe_lines.proofs.put_probes.Goals as goal

pub loop-i-init : goal.loop-i-init
loop-i-init c = (lines_none _ _ _ _, omega arith)

pub put_probe-requires : goal.put_probe-requires
put_probe-requires c = omega (arith, puts_length c.loop-i.invariant.0)

pub loop-i-preserved : goal.loop-i-preserved
loop-i-preserved c = (lines_next _ _ _ c.loop-i.i c.loop-i.invariant.0 c.put_probe.ensures.puts, omega arith)
