-- `blocks::put_blocks` meets its contract: b blocks are stored, one after another. Assumes nothing.
use Rattle.std.proofs.Common.{◌+◌, ◌*◌, refl, zero-add, arith}
use Rattle.sheets.specs.Layout.{first_edition}
use Rattle.sheets.specs.Runs.{run_from, run_store}
use Rattle.sheets.specs.Filling.{block_of}
use Rattle.sheets.proofs.FillingLaws.{length-block, part-stored}
use Rattle.blocks.proofs.put_blocks.Goals as goal

pub loop-b-init : goal.loop-b-init
unfolding run_from
loop-b-init c = refl

pub loop-b-preserved : goal.loop-b-preserved
loop-b-preserved c =
    let a = c.args in
    let l = c.loop-b in
    let long = length-block a.periods.now a.lengths.now a.starts.now in
    run_store (block_of first_edition a.periods.now a.lengths.now a.starts.now) 512 long a.out.now l.out _ 0 0 l.b (l.b * 512) l.invariant (omega arith)
    (rw (c.put_block.ensures, zero-add l.b)
    (part-stored l.out (block_of first_edition a.periods.now a.lengths.now a.starts.now l.b) (l.b * 512) (l.b * 512 + 512) (omega arith) (omega (arith, long l.b)) (omega arith)))
