-- `chained::unchained` meets its contract: the kept periods are the different ones of the probes passed, and stand for every earlier probe. Assumes nothing.
use Rattle.std.proofs.Common.{length}
use Rattle.lists.specs.Lowest.{Searching}
use Rattle.probes.specs.Chained.{unchained}
use Rattle.probes.proofs.Seen.{Keeping}
use Rattle.chained.proofs.unchained.Given as goal

abbrev pub invariant-loop-i : goal.invariant-loop-i
invariant-loop-i l = Keeping l.periods l.seen.items (length l.seen.items) l.i × Searching (unchained l.periods) (length l.periods) l.i
