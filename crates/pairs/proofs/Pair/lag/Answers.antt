-- `pairs::Pair::lag` meets its contract: the first start lies below its period. Assumes nothing.
use Rattle.pairs.specs.Steps.{lag-is}
use Rattle.pairs.proofs.Pair.lag.Goals as goal

pub returns-clause-value : goal.returns-clause-value
returns-clause-value c = lag-is _ _ _ c.args.self.now.ordered.begins
