-- `plotting::write_starts` meets its contract. Assumes nothing.
use Rattle.std.proofs.Common.{arith}
use Rattle.lists.specs.Counted.{filling-start, filling-next}
use Rattle.plotting.proofs.write_starts.Goals as goal

pub loop-i-init : goal.loop-i-init
loop-i-init c = filling-start _ _

pub loop-i-preserved : goal.loop-i-preserved
loop-i-preserved c = filling-next _ _ c.loop-i.starts c.loop-i.i _ (omega arith) c.start_of.ensures c.loop-i.invariant
