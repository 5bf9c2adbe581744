-- `rows::raise` meets its contract: the rows below this one are raised by p, the others as they were. Assumes nothing.
use Rattle.std.specs.Prelude.{ℕ, ◌+◌}
use Rattle.rows.specs.Passing.{Passing}
use Rattle.rows.proofs.raise.Given as goal

abbrev pub plus : ℕ → ℕ → ℕ
plus p x = x + p

abbrev pub invariant-loop-fill : goal.invariant-loop-fill
invariant-loop-fill l = Passing (plus l.p) l.initial.fill-items l.fill-items l.fill-index
