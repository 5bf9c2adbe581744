-- `plotting::off_grid` meets its contract. Assumes nothing.
use Rattle.std.specs.Prelude.{◌≡◌, true}
use Rattle.std.proofs.Common.{sym, arith}
use Rattle.lists.specs.Lowest.{searching-start, searching-next, searching-found, searching-none}
use Rattle.chain.specs.Grid.{off_grid}
use Rattle.grid.specs.Laws.{tall-is, tall-positive, off-x, off-y, off-row, on-all}
use Rattle.plotting.proofs.off_grid.Goals.{then-grid-xs-via-then-grid-xs, then-grid-xs-via-else-grid-xs+then-y-height-ne0, then-grid-xs-via-else-grid-xs+else-y-height-ne0+then-grid-y}
use Rattle.plotting.proofs.off_grid.Goals as goal

pub loop-i-init : goal.loop-i-init
loop-i-init c = searching-start _ _

pub nonzero_rem-y : goal.nonzero_rem-y
nonzero_rem-y c =
    let p = c.args.grid.now.prepared in
    rw (c.height.ensures, ← tall-is _ _ _ p c.loop-i.i c.loop-i-test.true) (tall-positive _ _ _ p c.loop-i.i c.loop-i-test.true)

pub returns-then-grid-xs : goal.returns-then-grid-xs
returns-then-grid-xs c =
    let g = c.args.grid.now in
    let i = c.loop-i.i in
    let h = c.loop-i-test.true in
    let off : off_grid g.periods.now c.args.xs.now c.args.ys.now i ≡ true = elim c.then-grid-xs.branch [
      | then-grid-xs-via-then-grid-xs w ↦ off-x _ _ _ g.prepared _ _ i h w.if-grid-xs.true
      | then-grid-xs-via-else-grid-xs+then-y-height-ne0 w ↦ off-y _ _ _ g.prepared _ _ i h (rw (w.height.ensures, ← tall-is _ _ _ g.prepared i h) at w.if-y-height-ne0.true)
      | then-grid-xs-via-else-grid-xs+else-y-height-ne0+then-grid-y w ↦ off-row _ _ _ g.prepared _ _ i h w.if-grid-y.true
    ] in
    (h, sym (searching-found _ _ i h off c.loop-i.invariant))

pub loop-i-preserved : goal.loop-i-preserved
loop-i-preserved c =
    let p = c.args.grid.now.prepared in
    let h = c.loop-i-test.true in
    let even = rw (c.height.ensures, ← tall-is _ _ _ p c.loop-i.i h) at c.if-y-height-ne0.false in
    searching-next _ _ c.loop-i.i h (on-all _ _ _ p _ _ c.loop-i.i h c.if-grid-xs.false even c.if-grid-y.false) c.loop-i.invariant

pub returns : goal.returns
returns c = omega (arith, searching-none _ _ c.loop-i.i c.loop-i-test.false c.loop-i.invariant)
