-- ROOM. Demand 3, second sentence: "no probe is left without a place if the table's busy ticks in one longest period, plus the longest read once for each shortest period in it, come
-- to at most the longest period."
--     busy_ticks Ts qs       the busy ticks in one longest period: each probe's width as often as its period goes into M
--     longest_read qs        the longest of the widths; 0 for the empty table
--     Room Ts qs            the premise of the sentence; M holds H shortest periods
-- Assumes nothing.
use Rattle.std.specs.Prelude.{List, [], ◌∷◌, ℕ, ◌+◌, ◌*◌, ◌≤◌, max}
use Rattle.probes.specs.Table.{longest, rows, height}

-- q times M/T, over the probes
unfoldable pub busy_of : List ℕ → List ℕ → List ℕ → ℕ
busy_of Ts [] qs = 0
busy_of Ts (U ∷ Us) [] = 0
busy_of Ts (U ∷ Us) (q ∷ qs) = q * height Ts U + busy_of Ts Us qs

unfoldable pub busy_ticks : List ℕ → List ℕ → ℕ
busy_ticks Ts qs = busy_of Ts Ts qs

unfoldable pub longest_read : List ℕ → ℕ
longest_read [] = 0
longest_read (q ∷ qs) = max q (longest_read qs)

abbrev pub Room : List ℕ → List ℕ → Type 0
Room Ts qs = busy_ticks Ts qs + rows Ts * longest_read qs ≤ longest Ts
