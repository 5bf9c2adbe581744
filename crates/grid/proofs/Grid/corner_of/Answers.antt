-- `Grid::corner_of` meets its contract: place in the slot, and the flip of the slot times the height. Assumes nothing.
use Rattle.std.proofs.Common.{arith}
use Rattle.chain.specs.Corners.{corner_x}
use Rattle.grid.specs.Laws.{shortest-is, w-positive, tall-is, slotted, slot-below, row_is, row_small}
use Rattle.grid.proofs.Grid.corner_of.Goals as goal

pub nonzero_div-slots : goal.nonzero_div-slots
nonzero_div-slots c = w-positive _ _ _ c.args.self.now.prepared _ c.requires.i_in_bounds

pub nonzero_div-v : goal.nonzero_div-v
nonzero_div-v c = w-positive _ _ _ c.args.self.now.prepared _ c.requires.i_in_bounds

pub flip-j-requires-clause-slotted : goal.flip-j-requires-clause-slotted
flip-j-requires-clause-slotted c = slotted _ _ _ c.args.self.now.prepared c.args.i c.requires.i_in_bounds

pub flip-j-requires-clause-v_lt_slots : goal.flip-j-requires-clause-v_lt_slots
flip-j-requires-clause-v_lt_slots c = slot-below _ _ _ c.args.self.now.prepared c.args.i c.requires.i_in_bounds c.args.s c.requires.s_bound

pub nonzero_rem-result : goal.nonzero_rem-result
nonzero_rem-result c = w-positive _ _ _ c.args.self.now.prepared _ c.requires.i_in_bounds

pub overflow_mul-result : goal.overflow_mul-result
overflow_mul-result c =
    let g = c.args.self.now in
    let h = c.requires.i_in_bounds in
    let small = row_small _ _ _ g.prepared c.args.i h c.args.s _ c.flip-j.ensures in
    let few = g.prepared.low in
    rw (c.height.ensures, ← tall-is _ _ _ g.prepared c.args.i h) (omega arith)

pub returns : goal.returns
unfolding corner_x
returns c =
    let g = c.args.self.now in
    let h = c.requires.i_in_bounds in
    cc (shortest-is _ _ _ g.prepared, c.height.ensures, tall-is _ _ _ g.prepared c.args.i h, row_is _ _ _ g.prepared c.args.i h c.args.s _ c.flip-j.ensures)
