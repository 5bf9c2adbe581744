-- `plotting::write_corners` meets its contract: the first i entries of both columns are the corners of the first i starts, and no other entry changed. Assumes nothing.
use Rattle.lists.specs.Counted.{Filling}
use Rattle.chain.specs.Grid.{x_at, y_at}
use Rattle.plotting.proofs.write_corners.Given as goal

abbrev pub invariant-loop-i : goal.invariant-loop-i
invariant-loop-i l = Filling (x_at l.grid.periods.now l.starts) l.initial.xs l.xs l.i × Filling (y_at l.grid.periods.now l.starts) l.initial.ys l.ys l.i
