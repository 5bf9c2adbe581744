-- WHAT LATER LAYERS MAY USE OF A TABLE.
-- Assumes nothing.
use Rattle.std.specs.Prelude.{◌≡◌, List, ℕ, ◌≤◌, ◌<◌, get_or}
use Rattle.std.proofs.Math.ListN.{length}
use Rattle.lists.specs.Harmonic.{Harmonic}
use Rattle.probes.specs.Table.{most_probes, most_period, most_rows, shortest, rows}

pub record Soundness (Ts ps : List ℕ) : Type 0 where
  pub same : length Ts ≡ length ps
  pub few : length Ts ≤ most_probes
  pub least : (i : ℕ) → i < length Ts → 0 < get_or Ts i 0
  pub most : (i : ℕ) → i < length Ts → get_or Ts i 0 ≤ most_period
  pub reads : (i : ℕ) → i < length Ts → 0 < get_or ps i 0
  pub short : (i : ℕ) → i < length Ts → get_or ps i 0 ≤ shortest Ts
  pub harmonic : Harmonic Ts
  pub low : rows Ts ≤ most_rows
