-- `rows::lowest_row` meets its contract: y is the first row of a sub-bin, and none below it has room. Assumes nothing.
use Rattle.std.specs.Prelude.{◌-◌, length}
use Rattle.rows.specs.Seeking.{Seeking}
use Rattle.rows.proofs.lowest_row.Given as goal

abbrev pub invariant-loop-y : goal.invariant-loop-y
invariant-loop-y l = Seeking l.rows l.h l.p l.w l.y

abbrev pub decreases-loop-y : goal.decreases-loop-y
decreases-loop-y l = length l.rows - l.y
