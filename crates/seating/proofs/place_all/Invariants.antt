-- `seating::place_all` meets its contract: what first fit says of the rest of the order is what it says of all. Assumes nothing.
use Rattle.seating.specs.Laws.{Seating}
use Rattle.seating.proofs.place_all.Given as goal

abbrev pub invariant-loop-k : goal.invariant-loop-k
invariant-loop-k l = Seating l.grid.periods.now l.lengths l.initial.starts l.initial.fills l.starts l.fills l.k
