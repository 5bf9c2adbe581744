-- PERIODS THAT DIVIDE ONE ANOTHER. Document 01, number 5; document 000, "harmonic periods".
--     Harmonic Ts       every period is at least 1, and of two the smaller divides the larger
--     Positive qs n     each of the first n widths is at least 1
-- Assumes nothing.
use Rattle.std.specs.Prelude.{List, ℕ, ◌≤◌, ◌<◌, length, get_or}
use Rattle.std.specs.Int.{◌∣◌}

pub record Harmonic (Ts : List ℕ) : Type 0 where
  pub positive : (i : ℕ) → i < length Ts → 0 < get_or Ts i 0
  pub divides : (i j : ℕ) → i < length Ts → j < length Ts → get_or Ts i 0 ≤ get_or Ts j 0 → get_or Ts i 0 ∣ get_or Ts j 0

abbrev pub Positive : List ℕ → ℕ → Type 0
Positive qs n = (i : ℕ) → i < n → 0 < get_or qs i 0
