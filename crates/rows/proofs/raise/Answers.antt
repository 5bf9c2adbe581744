-- `rows::raise` meets its contract: row after row, from row 0 up. Assumes nothing.
use Rattle.std.proofs.Common.{arith}
use Rattle.rows.specs.Passing.{passing-start, passing-at, passing-next, passing-done}
use Rattle.rows.proofs.raise.Invariants.{plus}
use Rattle.rows.proofs.raise.Goals as goal

pub loop-fill-init : goal.loop-fill-init
loop-fill-init c = passing-start _ _

pub overflow_add-fill : goal.overflow_add-fill
overflow_add-fill c =
    let l = c.loop-fill in
    omega (arith, passing-at (plus c.args.p) c.args.part.now l.fill-items l.fill-index l.invariant (omega arith), c.requires l.fill-index (omega arith))

pub loop-fill-preserved : goal.loop-fill-preserved
loop-fill-preserved c = passing-next (plus c.args.p) _ _ _ c.loop-fill.invariant (omega arith)

pub returns : goal.returns
returns c = passing-done (plus c.args.p) _ _ _ c.loop-fill.invariant (omega arith)
