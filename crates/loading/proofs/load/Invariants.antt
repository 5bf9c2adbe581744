-- `loading::load` meets its contract: the entries below i are those of the records. Assumes nothing.
use Rattle.std.proofs.Common.{◌≡◌, ◌++◌, take, drop}
use Rattle.sheets.specs.Layout.{first_edition}
use Rattle.sheets.specs.Blocks.{column}
use Rattle.loading.specs.Fields.{field_number}
use Rattle.loading.proofs.load.Given as goal

abbrev pub invariant-loop-i : goal.invariant-loop-i
invariant-loop-i l = l.entry-items ≡ column first_edition l.book (field_number l.field) 0 l.i ++ drop l.i (take l.n l.fn.into)
