-- THE FIRST SHARED TICK. Document 01, number 10: "that pair's first shared tick".
--     FirstShared T q s U r u t   both hold tick t and no earlier tick is held by both              (believe this)
-- Edges: only the shorter one's start must lie below its period; for the bound the other's too. Widths may pass their periods.
-- Not said here: which of two periods is the shorter (CleanTest).
-- Assumes nothing.
use Rattle.std.specs.Prelude.{ℕ, ◌<◌}
use Rattle.wire.specs.Wire.{Holds}

pub record FirstShared (T q s U r u t : ℕ) : Type 0 where
  pub one : Holds T q s t
  pub other : Holds U r u t
  pub none_before : (x : ℕ) → x < t → Holds T q s x → Holds U r u x → ⊥
