-- `judging::verdict` meets its contract: 22 leaves a book that has block b. Assumes nothing.
use Rattle.std.proofs.Common.{sym, ◌∙◌, arith}
use Rattle.sheets.specs.Layout.{first_edition}
use Rattle.sheets.proofs.BlockLaws.{field-tested}
use Rattle.judging.proofs.verdict.Goals as goal

pub used_unused-requires : goal.used_unused-requires
used_unused-requires c =
    let r = field-tested first_edition c.args.n c.args.blocks c.args.b c.args.block.now (sym c.wrong_field.ensures ∙ c.if-wrong_field.false) in
    record { n_le_most_n = r.few; b_bound = omega (arith, r.count) }
