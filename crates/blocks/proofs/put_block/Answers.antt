-- `blocks::put_block` meets its contract: head, records, zeros and sums, one after another. Assumes nothing.
use Rattle.std.proofs.Common.{ap, ◌∙◌, ℕ, ◌+◌, ◌*◌}
use Rattle.sheets.specs.Layout.{head_bytes}
use Rattle.sheets.proofs.FillingLaws.{filled}
use Rattle.blocks.proofs.put_block.Goals as goal

pub returns : goal.returns
returns c =
    let a = c.args in
    let e = c.records_of-k.ensures in
    filled a.periods.now a.lengths.now a.starts.now a.b a.block.now _ _ _ _ _ c.requires.block_len (ap (λ (k : ℕ). head_bytes + k * 12) e) c.put_head.ensures
    (c.put_records.ensures ∙ rw e) c.put_zeros.ensures c.put_sums.ensures
