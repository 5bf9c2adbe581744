-- `digits::decompose` meets its contract.
-- Assumes nothing.
use Rattle.std.proofs.Common.{arith}
use Rattle.chain.specs.Passes.{decomposing-next, decomposing-done, positive-at}
use Rattle.digits.proofs.decompose.Goals as goal

pub nonzero_rem-d : goal.nonzero_rem-d
nonzero_rem-d c = positive-at _ c.loop-place.place c.requires (omega arith)

pub nonzero_div-rest : goal.nonzero_div-rest
nonzero_div-rest c = positive-at _ c.loop-place.place c.requires (omega arith)

pub loop-place-preserved : goal.loop-place-preserved
loop-place-preserved c =
    let l = c.loop-place in
    decomposing-next _ _ l.d l.rest l.place l.invariant (omega arith)

pub returns : goal.returns
returns c =
    let l = c.loop-place in
    decomposing-done _ _ l.d l.rest l.place l.invariant (omega arith)
