-- `records::put_records` meets its contract: j records are stored, one after another. Assumes nothing.
use Rattle.std.proofs.Common.{◌≡◌}
use Rattle.std.proofs.lemmas.List.Edits.{sets}
use Rattle.sheets.specs.Layout.{head_bytes}
use Rattle.sheets.specs.Runs.{run_from}
use Rattle.sheets.specs.Records.{record_at}
use Rattle.records.proofs.put_records.Given as goal

abbrev pub invariant-loop-j : goal.invariant-loop-j
invariant-loop-j l = l.block ≡ sets l.initial.block head_bytes (run_from (record_at l.periods l.lengths l.starts) l.first l.j)
