-- `placing::place` meets its contract: the lowest sub-bin with room, its start, and its rows raised; or nothing. Assumes nothing.
use Rattle.std.proofs.Common.{arith}
use Rattle.placing.specs.Laws.{read_small, tall-positive, tall-divides, found_bin, row_fits, row-grid, row-tried, row-stuck}
use Rattle.placing.proofs.place.Goals as goal

pub lowest_row-requires-clause-h_nonzero : goal.lowest_row-requires-clause-h_nonzero
lowest_row-requires-clause-h_nonzero c = rw c.height-h.ensures (tall-positive _ _ _ _ _ _ _ c.requires)

pub lowest_row-requires-clause-h : goal.lowest_row-requires-clause-h
lowest_row-requires-clause-h c = rw c.height-h.ensures (tall-divides _ _ _ _ _ _ _ c.requires)

pub returns-in_default : goal.returns-in_default
returns-in_default c =
    let e = found_bin _ _ _ _ _ _ _ c.requires _ _ c.height-h.ensures c.in_default.ensures in
    row-stuck _ _ _ _ _ _ _ c.requires _ e (omega arith)

pub start_of-requires-clause-on_grid : goal.start_of-requires-clause-on_grid
start_of-requires-clause-on_grid c =
    let e = found_bin _ _ _ _ _ _ _ c.requires _ _ c.height-h.ensures c.in-Some.ensures.1 in
    row-grid _ _ _ _ _ _ _ c.requires _ e c.in-Some.ensures.0

pub raise_rows-requires-clause-h_in_bounds : goal.raise_rows-requires-clause-h_in_bounds
raise_rows-requires-clause-h_in_bounds c =
    let e = found_bin _ _ _ _ _ _ _ c.requires _ _ c.height-h.ensures c.in-Some.ensures.1 in
    rw c.height-h.ensures (row_fits _ _ _ _ _ _ _ c.requires _ e c.in-Some.ensures.0)

pub raise_rows-requires-clause-by_index : goal.raise_rows-requires-clause-by_index
raise_rows-requires-clause-by_index c = λ k h. omega (arith, c.requires.light k h, read_small _ _ _ _ _ _ _ c.requires)

pub returns : goal.returns
returns c =
    let e = found_bin _ _ _ _ _ _ _ c.requires _ _ c.height-h.ensures c.in-Some.ensures.1 in
    row-tried _ _ _ _ _ _ _ c.requires _ e c.in-Some.ensures.0 _ _ c.start_of.ensures (rw (← c.height-h.ensures) c.raise_rows.ensures)
