-- ONE PROBE INTO THE ROWS. Document 01, "First fit".
--     Ready Ts ps t c ss fs i   what one placing asks: a prepared table, a probe of it with its read and its entry, all H rows, and no fill so large that a sum overflows
--     Tried Ts ps ss fs i r zs gs   what it does: the probe is placed in its lowest sub-bin with room, or nothing changes
-- Assumes nothing.
use Rattle.std.specs.Prelude.{◌≡◌, Bool, true, false, List, ℕ, ◌+◌, ◌*◌, ◌≤◌, ◌<◌, ltb, length, get_or, set}
use Rattle.table.specs.declared.Table.{Table}
use Rattle.probes.specs.Table.{most_period, shortest, rows, height}
use Rattle.flipping.specs.declared.Chain.{Chain}
use Rattle.grid.specs.Prepared.{Prepared}
use Rattle.stack.specs.Stack.{raised, bins}
use Rattle.stack.specs.FirstFit.{bin_of, start_in}

pub record Ready (Ts ps : List ℕ) (t : Table) (c : Chain) (ss fs : List ℕ) (i : ℕ) : Type 0 where
  pub prepared : Prepared Ts t c
  pub probe : i < length Ts
  pub read : i < length ps
  pub entry : i < length ss
  pub some : 0 < get_or ps i 0
  pub short : get_or ps i 0 ≤ shortest Ts
  pub long : length fs ≡ rows Ts
  pub light : (r : ℕ) → r < length fs → get_or fs r 0 + most_period < 4294967296

pub record Tried (Ts ps ss fs : List ℕ) (i : ℕ) (r : Bool) (zs gs : List ℕ) : Type 0 where
  pub verdict : r ≡ ltb (bin_of Ts ps i fs) (bins fs (height Ts (get_or Ts i 0)))
  pub placed : r ≡ true
      → (zs ≡ set ss i (start_in Ts ps i fs (bin_of Ts ps i fs)))
      × (gs ≡ raised fs (bin_of Ts ps i fs * height Ts (get_or Ts i 0)) (height Ts (get_or Ts i 0)) (get_or ps i 0))
  pub stayed : r ≡ false → (zs ≡ ss) × (gs ≡ fs)
