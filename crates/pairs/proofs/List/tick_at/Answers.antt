-- `pairs::List::tick_at` meets its contract: the probe of the shorter period goes first. Assumes nothing.
use Rattle.std.proofs.Common.{◌∙◌}
use Rattle.pairs.specs.Steps.{by_first, by-second}
use Rattle.pairs.proofs.List.tick_at.Goals as goal

pub returns-then-one-other : goal.returns-then-one-other
returns-then-one-other c =
    let pair = c.of.ensures in
    (rw (pair.first, pair.second) at c.shared_tick.ensures) ∙ (by_first _ _ _ c.args.i c.args.j _ _ c.probe-one.ensures c.probe-other.ensures c.if-one-other.true).1

pub returns-else-one-other : goal.returns-else-one-other
returns-else-one-other c =
    let pair = c.of-else-one-other.ensures in
    (rw (pair.first, pair.second) at c.shared_tick-else-one-other.ensures) ∙ (by-second _ _ _ c.args.i c.args.j _ _ c.probe-one.ensures c.probe-other.ensures c.if-one-other.false).1
