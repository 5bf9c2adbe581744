-- `seating::place_all` meets its contract: what first fit says of the rest of the order is what it says of all. Assumes nothing.
use Rattle.std.specs.Prelude.{length}
use Rattle.std.proofs.Common.{ap, arith}
use Rattle.probes.specs.Extremes.{shortest-least}
use Rattle.seating.specs.Laws.{seating-next}
use Rattle.seating.proofs.Turns.{turn-below, turn-probe, turn-entry, turn-left, stuck-turn, last-turn}
use Rattle.seating.proofs.place_all.Goals as goal

pub place-requires : goal.place-requires
place-requires c =
    let p = c.requires in
    let l = c.loop-k in
    let probe = turn-probe _ _ _ p.turns_value l.k (omega arith) in
    record {
      prepared = c.args.grid.now.prepared;
      probe = probe;
      read = omega arith;
      entry = omega (arith, l.invariant.s-long);
      some = (p.by_index _ probe).0;
      short = (p.by_index _ probe).1;
      long = l.invariant.f-long;
      light = λ r h. omega (arith, l.invariant.light r h);
    }

pub mark_rest-requires : goal.mark_rest-requires
mark_rest-requires c =
    let still = c.place.ensures.stayed c.if-not-place.true in
    λ m h. omega (arith, turn-left _ _ _ c.requires.turns_value c.loop-k.k m h, ap length still.0, c.loop-k.invariant.s-long)

pub returns-then-not-place : goal.returns-then-not-place
returns-then-not-place c =
    let l = c.loop-k in
    stuck-turn _ _ _ c.requires.turns_value _ _ _ _ l.k l.invariant (omega arith) _ _ _ _ c.place.ensures c.if-not-place.true c.mark_rest.ensures

pub loop-k-preserved : goal.loop-k-preserved
loop-k-preserved c =
    let p = c.requires in
    let l = c.loop-k in
    let probe = turn-probe _ _ _ p.turns_value l.k (omega arith) in
    seating-next _ _ _ _ _ _ l.k l.invariant (turn-below _ _ _ p.turns_value l.k (omega arith)) _ (turn-entry _ _ _ p.turns_value l.k (omega arith)) _ _ _ c.place.ensures c.if-not-place.false
    (omega (arith, (p.by_index _ probe).1, c.args.grid.now.prepared.most _ probe, shortest-least c.args.grid.now.periods.now _ probe))

pub returns : goal.returns
returns c = last-turn _ _ _ c.requires.turns_value _ _ _ _ c.loop-k.k c.loop-k.invariant (omega arith)
