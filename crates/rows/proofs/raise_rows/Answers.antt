-- `rows::raise_rows` meets its contract: the part that is lent comes back raised, and stands where it stood. Assumes nothing.
use Rattle.std.specs.Prelude.{◌+◌}
use Rattle.std.proofs.Common.{arith}
use Rattle.rows.specs.Lending.{lent_row, lent-raised}
use Rattle.rows.proofs.raise_rows.Goals as goal

pub raise-requires : goal.raise-requires
raise-requires c k h =
    let a = c.args in
    let (there, same) = lent_row _ a.y a.h (omega arith) k h in
    rw same (c.requires.by_index (a.y + k) there)

pub returns : goal.returns
returns c = lent-raised _ c.args.y c.args.h (omega arith) c.args.p _ c.raise.ensures
