-- `writing::write` meets its contract: the blocks that are stored are the book. Assumes nothing.
use Rattle.std.proofs.Common.{refl, arith}
use Rattle.sheets.specs.Layout.{first_edition}
use Rattle.volumes.proofs.WriteLaws.{writes_as, done-writes}
use Rattle.writing.proofs.write.Goals as goal

pub returns : goal.returns
returns c =
    let Ts = c.args.periods.now in
    let ps = c.args.lengths.now in
    let ss = c.args.starts.now in
    let o = c.args.out.now in
    writes_as first_edition Ts ps ss o _
    (done-writes Ts ps ss o _ _ _ (omega arith) (omega arith) (omega arith) c.blocks_of-blocks.ensures (omega arith) refl c.put_blocks.ensures)
