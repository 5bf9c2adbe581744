-- `sums::summed` meets its contract: a block has more bytes than its sums are of. Assumes nothing.
use Rattle.std.proofs.Common.{sym, arith, length-take-le}
use Rattle.sums.proofs.summed.Goals as goal

pub slice_bounds-result-end : goal.slice_bounds-result-end
slice_bounds-result-end c = sym (length-take-le _ c.args.block.now (omega arith))

pub returns-clause-len : goal.returns-clause-len
returns-clause-len c = length-take-le _ c.args.block.now (omega arith)
