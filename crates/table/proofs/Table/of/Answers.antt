-- `table::Table::of` meets its contract: H is the quotient, and 0 where w is 0. Assumes nothing.
use Rattle.std.specs.Prelude.{◌≡◌, ℕ, ◌/◌, ◌<◌, Option, Some, None}
use Rattle.std.specs.Option.{unwrap_or, SomeIff}
use Rattle.std.proofs.Common.{sym, ◌∙◌, arith}
use Rattle.std.proofs.Math.Nat.{div-zero}
use Rattle.table.specs.Three.{three-some}
use Rattle.table.proofs.Table.of.Goals as goal

quotient : (m w : ℕ) (q : Option ℕ) → SomeIff q (0 < w) (m / w) → unwrap_or q 0 ≡ m / w
quotient m w None n =
    let z : w ≡ 0 = omega (arith, n) in
    rw z (sym (div-zero m))
quotient m w (Some x) p = p.1

pub returns : goal.returns
returns c = rw (c.unwrap_or.ensures ∙ quotient _ _ _ c.checked_div.ensures) (three-some _ _ _ c.least-shortest.ensures c.greatest-longest.ensures)
