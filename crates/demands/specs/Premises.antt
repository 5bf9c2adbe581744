-- THE PREMISES OF THE DEMANDS, each met by a case and failed by one that lies just outside.
--     Premises              a sound table; a list that passes; starts below their periods; columns that are long enough; corners on the grid; Room
-- Assumes nothing.
use Rattle.std.specs.Prelude.{[], ◌∷◌, ℕ, ◌≤◌, ◌<◌, length, get_or}
use Rattle.words.specs.Answers.{done}
use Rattle.probes.specs.Table.{Sound, rows}
use Rattle.chain.specs.Corners.{OffGrid}
use Rattle.stack.specs.Room.{Room}
use Rattle.meetings.specs.Check.{Checks}

pub record Premises : Type 0 where
  -- a read as long as the shortest period, and one that is a tick longer
  pub sound : Sound (10 ∷ 20 ∷ []) (10 ∷ 1 ∷ []) × (Sound (10 ∷ 20 ∷ []) (11 ∷ 1 ∷ []) → ⊥)
  -- a read that begins where the other has ended, and one that begins a tick before
  pub passing : Checks (10 ∷ 10 ∷ []) (5 ∷ 5 ∷ []) (0 ∷ 5 ∷ []) done × (Checks (10 ∷ 10 ∷ []) (5 ∷ 5 ∷ []) (0 ∷ 4 ∷ []) done → ⊥)
  -- the last start of a period, and the one behind it
  pub below : ((i : ℕ) → i < 1 → get_or (9 ∷ []) i 0 < get_or (10 ∷ []) i 0)
  pub not-below : ((i : ℕ) → i < 1 → get_or (10 ∷ []) i 0 < get_or (10 ∷ []) i 0) → ⊥
  -- two rows fit two entries, and not one
  pub long : rows (10 ∷ 20 ∷ []) ≤ length {A = ℕ} (0 ∷ 0 ∷ [])
  pub not-long : rows (10 ∷ 20 ∷ []) ≤ length {A = ℕ} (0 ∷ []) → ⊥
  -- the last place of a row; one past it; and a row in the middle of a sub-bin
  pub on-grid : OffGrid (10 ∷ 20 ∷ []) 20 9 1 → ⊥
  pub off-width : OffGrid (10 ∷ 20 ∷ []) 20 10 1
  pub off-bin : OffGrid (10 ∷ 20 ∷ []) 10 0 1
  -- half of the ticks busy, and a tick more
  pub room : Room (10 ∷ []) (5 ∷ []) × (Room (10 ∷ []) (6 ∷ []) → ⊥)
