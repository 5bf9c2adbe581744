-- `plotting::write_corners` meets its contract. Assumes nothing.
use Rattle.std.proofs.Common.{ap, arith}
use Rattle.lists.specs.Counted.{filling-start, filling-next}
use Rattle.grid.specs.declared.Corner.{Corner}
use Rattle.plotting.proofs.write_corners.Goals as goal

pub loop-i-init : goal.loop-i-init
loop-i-init c = (filling-start _ _, filling-start _ _)

pub loop-i-preserved : goal.loop-i-preserved
loop-i-preserved c =
    let l = c.loop-i in
    let e = c.corner_of-corner.ensures in
    (filling-next _ _ l.xs l.i _ (omega arith) (ap (λ (k : Corner). k.x) e) l.invariant.0, filling-next _ _ l.ys l.i _ (omega arith) (ap (λ (k : Corner). k.y) e) l.invariant.1)
