-- `Grid::start_of` meets its contract: x, and the slot of the sub-bin times w. Assumes nothing.
use Rattle.std.proofs.Common.{arith}
use Rattle.grid.specs.Laws.{tall-is, tall-positive, slotted, bin-below, start_is, start_small}
use Rattle.grid.proofs.Grid.start_of.Goals as goal

pub nonzero_div-j : goal.nonzero_div-j
nonzero_div-j c =
    let p = c.args.self.now.prepared in
    let h = c.requires.i_in_bounds in
    rw (c.height.ensures, ← tall-is _ _ _ p c.args.i h) (tall-positive _ _ _ p c.args.i h)

pub unflip-v-requires-clause-slotted : goal.unflip-v-requires-clause-slotted
unflip-v-requires-clause-slotted c = slotted _ _ _ c.args.self.now.prepared c.args.i c.requires.i_in_bounds

pub unflip-v-requires-clause-j_lt_slots : goal.unflip-v-requires-clause-j_lt_slots
unflip-v-requires-clause-j_lt_slots c =
    let p = c.args.self.now.prepared in
    let h = c.requires.i_in_bounds in
    rw (c.height.ensures, ← tall-is _ _ _ p c.args.i h) (bin-below _ _ _ p c.args.i h c.args.x c.args.y c.requires.on_grid)

pub overflow_mul-result : goal.overflow_mul-result
overflow_mul-result c =
    let p = c.args.self.now.prepared in
    let h = c.requires.i_in_bounds in
    let v = rw (c.height.ensures, ← tall-is _ _ _ p c.args.i h) at c.unflip-v.ensures in
    omega (arith, start_small _ _ _ p c.args.i h c.args.x c.args.y c.requires.on_grid _ v, p.most c.args.i h)

pub overflow_add-result : goal.overflow_add-result
overflow_add-result c =
    let p = c.args.self.now.prepared in
    let h = c.requires.i_in_bounds in
    let v = rw (c.height.ensures, ← tall-is _ _ _ p c.args.i h) at c.unflip-v.ensures in
    omega (arith, start_small _ _ _ p c.args.i h c.args.x c.args.y c.requires.on_grid _ v, p.most c.args.i h)

pub returns : goal.returns
returns c =
    let p = c.args.self.now.prepared in
    let h = c.requires.i_in_bounds in
    let v = rw (c.height.ensures, ← tall-is _ _ _ p c.args.i h) at c.unflip-v.ensures in
    start_is _ _ _ p c.args.i h c.args.x c.args.y c.requires.on_grid _ v
