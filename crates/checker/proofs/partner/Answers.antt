-- `checker::partner` meets its contract: the places above i and below j were tried, and i meets none of them. Assumes nothing.
use Rattle.std.proofs.Common.{arith, ap, ◌∙◌, not}
use Rattle.lists.specs.Lowest.{searching-next}
use Rattle.lists.proofs.Searches.{answer-found, answer-none}
use Rattle.meetings.specs.Steps.{partner-start, above-is}
use Rattle.checker.proofs.partner.Goals as goal

pub loop-j-init : goal.loop-j-init
loop-j-init c = partner-start _ _ _ c.args.i (omega arith)

pub returns-then-not-apart_at : goal.returns-then-not-apart_at
returns-then-not-apart_at c =
    let l = c.loop-j in
    answer-found _ _ l.j (omega arith) (above-is _ _ _ c.args.i l.j _ (omega arith) c.apart_at.ensures ∙ ap not c.if-not-apart_at.true) l.invariant

pub loop-j-preserved : goal.loop-j-preserved
loop-j-preserved c =
    let l = c.loop-j in
    searching-next _ _ l.j (omega arith) (above-is _ _ _ c.args.i l.j _ (omega arith) c.apart_at.ensures ∙ ap not c.if-not-apart_at.false) l.invariant

pub returns : goal.returns
returns c = answer-none _ _ c.loop-j.j (omega arith) c.loop-j.invariant
