-- `chained::unchained` meets its contract: the kept periods are the different ones of the probes passed, and stand for every earlier probe. Assumes nothing.
use Rattle.std.proofs.Common.{arith, refl, length-append, get_or, [], ◌∷◌}
use Rattle.lists.specs.Lowest.{searching-start, searching-next}
use Rattle.lists.proofs.Searches.{answer-found, answer-none}
use Rattle.probes.proofs.Seen.{keeping_start, keeping-positive, keeping-seen, seen_more, keeping-clash, keeping-new, new-room, pushed-more, seen-told, clashes-told}
use Rattle.chained.proofs.unchained.Goals as goal
use Rattle.chained.proofs.unchained.Goals.{then-not-is_seen+else-clashes, else-not-is_seen}

pub loop-i-init : goal.loop-i-init
loop-i-init c = rw c.new-seen.ensures (keeping_start _ _, searching-start _ _)

pub clashes-requires-clause-by_index : goal.clashes-requires-clause-by_index
clashes-requires-clause-by_index c =
    let l = c.loop-i in
    rw c.deref-then-not-is_seen.ensures.0 (keeping-positive _ _ _ l.i l.invariant.0 (λ j h. (c.requires j (omega arith)).0))

pub returns-then-clashes : goal.returns-then-clashes
returns-then-clashes c =
    let l = c.loop-i in
    let clash = (clashes-told l.seen.items _ _ c.clashes.result c.deref-then-not-is_seen.ensures.0 c.clashes.ensures).yes c.if-clashes.true in
    answer-found _ _ l.i (omega arith) (keeping-clash _ _ _ l.i l.invariant.0 clash) l.invariant.1

pub push-requires : goal.push-requires
push-requires c =
    let l = c.loop-i in
    let fresh = (seen-told l.seen.items _ _ c.is_seen.result c.deref.ensures.0 c.is_seen.ensures).no c.if-not-is_seen.true in
    let fits = (clashes-told l.seen.items _ _ c.clashes.result c.deref-then-not-is_seen.ensures.0 c.clashes.ensures).no c.if-clashes.false in
    (omega arith, new-room _ _ _ l.i l.invariant.0 fresh fits (λ j h. c.requires j (omega arith)))

pub loop-i-preserved : goal.loop-i-preserved
loop-i-preserved c =
    let l = c.loop-i in
    let told = seen-told l.seen.items _ _ c.is_seen.result c.deref.ensures.0 c.is_seen.ensures in
    elim c.if-not-is_seen.branch [
      | then-not-is_seen+else-clashes w ↦
          let fresh = told.no w.if-not-is_seen.true in
          let fits = (clashes-told l.seen.items _ _ w.clashes.result w.deref-then-not-is_seen.ensures.0 w.clashes.ensures).no w.if-clashes.false in
          rw (w.seen-is, w.push.ensures.items, length-append l.seen.items (get_or c.args.periods.now l.i 0 ∷ []))
          (pushed-more _ _ _ l.i l.invariant.0 fresh fits refl, searching-next _ _ l.i (omega arith) (keeping-new _ _ _ l.i l.invariant.0 fresh fits) l.invariant.1)
      | else-not-is_seen w ↦
          let old = told.yes w.if-not-is_seen.false in
          rw w.seen-is
          (seen_more _ _ _ l.i l.invariant.0 old, searching-next _ _ l.i (omega arith) (keeping-seen _ _ _ l.i l.invariant.0 old) l.invariant.1)
    ]

pub returns : goal.returns
returns c = answer-none _ _ c.loop-i.i (omega arith) c.loop-i.invariant.1
