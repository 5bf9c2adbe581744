-- `blocks::put_blocks` meets its contract: b blocks are stored, one after another. Assumes nothing.
use Rattle.std.proofs.Common.{◌≡◌}
use Rattle.std.proofs.lemmas.List.Edits.{sets}
use Rattle.sheets.specs.Layout.{first_edition}
use Rattle.sheets.specs.Runs.{run_from}
use Rattle.sheets.specs.Filling.{block_of}
use Rattle.blocks.proofs.put_blocks.Given as goal

abbrev pub invariant-loop-b : goal.invariant-loop-b
invariant-loop-b l = l.out ≡ sets l.initial.out 0 (run_from (block_of first_edition l.periods l.lengths l.starts) 0 l.b)
