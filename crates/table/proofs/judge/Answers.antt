-- `table::judge` meets its contract: each way out is a way of crate probes, specs/Ways. Assumes nothing.
use Rattle.std.proofs.Common.{◌≡◌, List, ℕ, arith, ap}
use Rattle.lists.proofs.Searches.{found-at, none-at}
use Rattle.table.specs.declared.Table.{Table}
use Rattle.probes.specs.Table.{shortest, longest, rows}
use Rattle.probes.specs.Verdict.{bad_period, bad_length, unchained}
use Rattle.probes.specs.Ways.{in-range, way-differ, way-many, way-period, way-length, way-chain, way-rows, way-done}
use Rattle.probes.proofs.Folding.{bad-period-at, bad-lengths-at, no-bad-period, no-bad-length}
use Rattle.table.proofs.judge.Goals as goal

shortest-of : (Ts : List ℕ) (t : Table) → t ≡ record { shortest = shortest Ts; longest = longest Ts; rows = rows Ts } → t.shortest ≡ shortest Ts
shortest-of Ts t e = ap (λ (t : Table). t.shortest) e

pub returns-then-periods-lengths : goal.returns-then-periods-lengths
returns-then-periods-lengths c = way-differ _ _ c.if-periods-lengths.true

pub returns-then-periods-gt-PROBES : goal.returns-then-periods-gt-PROBES
returns-then-periods-gt-PROBES c = way-many _ _ (omega arith) (omega arith)

pub returns-in-Some : goal.returns-in-Some
returns-in-Some c =
    let at = found-at (bad_period c.args.periods.now) _ _ _ (bad-period-at _ _ c.bad_period.ensures) c.in-Some.is in
    way-period _ _ (omega arith) (omega arith) _ at.1 at.0

pub returns-in-Some-bad_length : goal.returns-in-Some-bad_length
returns-in-Some-bad_length c =
    let range = no-bad-period _ _ c.bad_period.ensures c.in_default.is in
    let at = found-at (bad_length (shortest c.args.periods.now) c.args.lengths.now) _ _ _ (bad-lengths-at _ _ _ _ (shortest-of _ _ c.of-table.ensures) c.if-periods-lengths.false c.bad_length.ensures) c.in-Some-bad_length.is in
    way-length _ _ (omega arith) (omega arith) range _ at.1 at.0

pub unchained-requires : goal.unchained-requires
unchained-requires c = in-range _ (no-bad-period _ _ c.bad_period.ensures c.in_default.is)

pub returns-in-Some-unchained : goal.returns-in-Some-unchained
returns-in-Some-unchained c =
    let range = no-bad-period _ _ c.bad_period.ensures c.in_default.is in
    let lengths = no-bad-length _ _ _ _ (shortest-of _ _ c.of-table.ensures) c.if-periods-lengths.false c.bad_length.ensures c.in_default-bad_length.is in
    let at = found-at (unchained c.args.periods.now) _ _ _ c.unchained.ensures c.in-Some-unchained.is in
    way-chain _ _ (omega arith) (omega arith) range lengths _ at.1 at.0

pub returns-then-table-gt-ROWS : goal.returns-then-table-gt-ROWS
returns-then-table-gt-ROWS c =
    let range = no-bad-period _ _ c.bad_period.ensures c.in_default.is in
    let lengths = no-bad-length _ _ _ _ (shortest-of _ _ c.of-table.ensures) c.if-periods-lengths.false c.bad_length.ensures c.in_default-bad_length.is in
    let chain = none-at (unchained c.args.periods.now) _ _ c.unchained.ensures c.in_default-unchained.is in
    let h = ap (λ (t : Table). t.rows) c.of-table.ensures in
    way-rows _ _ (omega arith) (omega arith) range lengths chain (omega arith)

pub returns : goal.returns
returns c =
    let range = no-bad-period _ _ c.bad_period.ensures c.in_default.is in
    let lengths = no-bad-length _ _ _ _ (shortest-of _ _ c.of-table.ensures) c.if-periods-lengths.false c.bad_length.ensures c.in_default-bad_length.is in
    let chain = none-at (unchained c.args.periods.now) _ _ c.unchained.ensures c.in_default-unchained.is in
    let h = ap (λ (t : Table). t.rows) c.of-table.ensures in
    way-done _ _ (omega arith) (omega arith) range lengths chain (omega arith)
