-- `timetable::holding` meets its contract: the probes below i were tried, and none of them holds the tick. Assumes nothing.
use Rattle.std.proofs.Common.{sym, ◌∙◌, arith}
use Rattle.lists.specs.Lowest.{searching-start, searching-next}
use Rattle.lists.proofs.Searches.{answer-found, answer-none}
use Rattle.probes.proofs.Laws.{sound-gives}
use Rattle.hours.proofs.HolderLaws.{holds_at}
use Rattle.timetable.proofs.holding.Goals as goal

pub loop-i-init : goal.loop-i-init
loop-i-init c = searching-start _ _

pub bounds-lengths-i : goal.bounds-lengths-i
bounds-lengths-i c = omega (arith, (sound-gives _ _ c.requires.sound).same)

pub holds-requires : goal.holds-requires
holds-requires c = (sound-gives _ _ c.requires.sound).least c.loop-i.i (omega arith)

pub returns-then-holds : goal.returns-then-holds
returns-then-holds c =
    let l = c.loop-i in
    answer-found _ _ l.i (omega arith) (holds_at _ _ _ c.args.tick l.i ∙ sym c.holds.ensures ∙ c.if-holds.true) l.invariant

pub loop-i-preserved : goal.loop-i-preserved
loop-i-preserved c =
    let l = c.loop-i in
    searching-next _ _ l.i (omega arith) (holds_at _ _ _ c.args.tick l.i ∙ sym c.holds.ensures ∙ c.if-holds.false) l.invariant

pub returns : goal.returns
returns c = answer-none _ _ c.loop-i.i (omega arith) c.loop-i.invariant
