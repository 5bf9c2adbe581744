-- `upcoming::soonest` meets its contract: the best is the next start of the first k probes. Assumes nothing.
use Rattle.upcoming.proofs.Turns.{Best}
use Rattle.upcoming.proofs.soonest.Given as goal

abbrev pub invariant-loop-k : goal.invariant-loop-k
invariant-loop-k l = Best l.periods l.starts l.fn.tick l.k l.best
