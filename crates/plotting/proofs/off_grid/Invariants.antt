-- `plotting::off_grid` meets its contract: the corners of the places below i were tried and are on the grid. Assumes nothing.
use Rattle.std.specs.Prelude.{length}
use Rattle.lists.specs.Lowest.{Searching}
use Rattle.chain.specs.Grid.{off_grid}
use Rattle.plotting.proofs.off_grid.Given as goal

abbrev pub invariant-loop-i : goal.invariant-loop-i
invariant-loop-i l = Searching (off_grid l.grid.periods.now l.xs l.ys) (length l.grid.periods.now) l.i
