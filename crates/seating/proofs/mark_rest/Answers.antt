-- `seating::mark_rest` meets its contract: what is left to mark decides the rest. Assumes nothing.
use Rattle.std.specs.Prelude.{refl}
use Rattle.std.proofs.Common.{arith}
use Rattle.seating.specs.Laws.{marking-next, marking-done}
use Rattle.seating.proofs.mark_rest.Goals as goal

pub loop-probe-preserved : goal.loop-probe-preserved
loop-probe-preserved c = marking-next _ _ _ _ _ _ (omega arith) refl c.loop-probe.invariant

pub returns : goal.returns
returns c = marking-done _ _ _ _ _ (omega arith) c.loop-probe.invariant
