-- `seating::mark_rest` meets its contract: what is left to mark decides the rest. Assumes nothing.
use Rattle.seating.specs.Laws.{Marking}
use Rattle.seating.proofs.mark_rest.Given as goal

abbrev pub invariant-loop-probe : goal.invariant-loop-probe
invariant-loop-probe l = Marking l.rest 0 l.initial.starts l.starts l.probe-index
