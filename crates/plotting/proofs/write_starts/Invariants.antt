-- `plotting::write_starts` meets its contract: the first i entries are the starts of the first i corners, and no other entry changed. Assumes nothing.
use Rattle.lists.specs.Counted.{Filling}
use Rattle.chain.specs.Grid.{start_at}
use Rattle.plotting.proofs.write_starts.Given as goal

abbrev pub invariant-loop-i : goal.invariant-loop-i
invariant-loop-i l = Filling (start_at l.grid.periods.now l.xs l.ys) l.initial.starts l.starts l.i
