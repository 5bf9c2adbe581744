-- `upcoming::soonest` meets its contract: the best is the next start of the first k probes. Assumes nothing.
use Rattle.std.proofs.Common.{arith}
use Rattle.upcoming.proofs.Turns.{best-first, best-sooner, best-kept, best-all, best-named}
use Rattle.upcoming.proofs.soonest.Goals as goal
use Rattle.upcoming.proofs.soonest.Goals.{in-Some, in_default-2, in_default}

pub loop-k-preserved : goal.loop-k-preserved
loop-k-preserved c =
    let l = c.loop-k in
    let f = c.first_from.ensures in
    elim c.match-best.branch [
      | in-Some w ↦ rw w.best-is (best-kept _ _ _ l.k _ f _ (rw w.in-Some.is at l.invariant) w.if-first-next.true)
      | in_default-2 w ↦ rw w.best-is (best-sooner _ _ _ l.k _ f _ (rw w.in-Some.is at l.invariant) (w.if-first-next.false))
      | in_default w ↦ rw w.best-is (best-first _ _ _ l.k _ f (rw w.in_default.is at l.invariant))
    ]

pub returns-clause-next : goal.returns-clause-next
returns-clause-next c = best-all _ _ _ c.loop-k.k _ c.loop-k.invariant (omega arith)

pub returns-clause-named : goal.returns-clause-named
returns-clause-named c = best-named _ _ _ c.loop-k.k _ c.loop-k.invariant (omega (arith, c.requires.few))
