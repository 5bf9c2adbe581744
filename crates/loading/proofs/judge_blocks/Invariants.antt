-- `loading::judge_blocks` meets its contract: the blocks below b have no fault. Assumes nothing.
use Rattle.sheets.specs.Layout.{first_edition}
use Rattle.sheets.proofs.BlocksLaws.{Searched}
use Rattle.loading.proofs.judge_blocks.Given as goal

abbrev pub invariant-loop-b : goal.invariant-loop-b
invariant-loop-b l = Searched first_edition l.book l.b
