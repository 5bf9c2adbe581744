-- `packing::plan` meets its promise: first fit over the lent rows. Assumes nothing.
use Rattle.std.specs.Prelude.{◌≡◌, length, take}
use Rattle.std.proofs.Common.{ap, ◌∙◌, arith, length-take-le}
use Rattle.table.specs.declared.Table.{Table}
use Rattle.probes.specs.Table.{rows}
use Rattle.packing.proofs.Judged.{ended_plan}
use Rattle.packing.proofs.plan.Goals as goal

pub returns : goal.returns
returns c =
    let a = c.args in
    let g = c.of-grid.result in
    let high : g.table.rows ≡ rows a.periods.now = rw c.of-grid.ensures at (ap (λ (t : Table). t.rows) g.prepared.table_is) in
    let long : length (take g.table.rows a.fills.now) ≡ rows a.periods.now = length-take-le _ _ (omega (arith, c.in_ok-plan_judged.ensures.ready.long-f)) ∙ high in
    ended_plan _ _ _ _ _ _ _ _ _ _ c.in_ok-plan_judged.ensures.value high long c.clear.ensures (rw c.of-grid.ensures at c.place_all.ensures)
