-- `timetable::holding` meets its contract: the probes below i were tried, and none of them holds the tick. Assumes nothing.
use Rattle.std.proofs.Common.{length}
use Rattle.lists.specs.Lowest.{Searching}
use Rattle.hours.specs.Timetable.{holds_test}
use Rattle.timetable.proofs.holding.Given as goal

abbrev pub invariant-loop-i : goal.invariant-loop-i
invariant-loop-i l = Searching (holds_test l.periods l.lengths l.starts l.tick) (length l.periods) l.i
