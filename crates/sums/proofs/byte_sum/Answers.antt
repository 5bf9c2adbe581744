-- `sums::byte_sum` meets its contract: a block has more bytes than its sums are of. Assumes nothing.
use Rattle.std.proofs.Common.{sym, arith, length-take-le}
use Rattle.sums.proofs.byte_sum.Goals as goal

pub slice_bounds-total-end : goal.slice_bounds-total-end
slice_bounds-total-end c = sym (length-take-le _ c.args.block.now (omega arith))
