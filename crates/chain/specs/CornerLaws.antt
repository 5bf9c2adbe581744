-- STARTS AND CORNERS CONVERT WITHOUT LOSS. Document 01, "Slots and sub-bins": "The way back is exact for every corner that 18 doesn't refuse."
-- Of a harmonic table, and of probe i of it; T is its period.
--     OnGrid Ts T x y           18 doesn't refuse the corner: x below w, y a multiple of h, y below H       (grid-sound, grid-complete)
-- Assumes nothing.
use Rattle.std.specs.Prelude.{List}
use Prim.Native.Nat.{ℕ, ◌<◌, ◌∣◌}
use Rattle.probes.specs.Table.{shortest, rows, height}

pub record OnGrid (Ts : List ℕ) (T x y : ℕ) : Type 0 where
  pub wide : x < shortest Ts
  pub aligned : height Ts T ∣ y
  pub high : y < rows Ts
