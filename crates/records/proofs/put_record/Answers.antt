-- `records::put_record` meets its contract: three runs of stores, each where the one before ended. Assumes nothing.
use Rattle.sheets.specs.RecordLaws.{record-stored}
use Rattle.records.proofs.put_record.Goals as goal

pub returns : goal.returns
returns c = record-stored _ _ _ _ _ _ _ _ c.put_number.ensures c.put_number-2.ensures c.put_number-3.ensures
