-- `records::put_records` meets its contract: j records are stored, one after another. Assumes nothing.
use Rattle.std.proofs.Common.{refl}
use Rattle.sheets.specs.Layout.{head_bytes}
use Rattle.sheets.specs.Runs.{run_from, run_store}
use Rattle.sheets.specs.Records.{record_at}
use Rattle.sheets.specs.RecordLaws.{length-record}
use Rattle.records.proofs.put_records.Goals as goal

pub loop-j-init : goal.loop-j-init
unfolding run_from
loop-j-init c = refl

pub loop-j-preserved : goal.loop-j-preserved
unfolding record_at
loop-j-preserved c =
    let a = c.args in
    let l = c.loop-j in
    run_store (record_at a.periods.now a.lengths.now a.starts.now) 12 (length-record a.periods.now a.lengths.now a.starts.now) a.block.now l.block _ head_bytes a.first l.j _ l.invariant refl
    c.put_record.ensures
