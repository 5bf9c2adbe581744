-- STARTS AND RECTANGLES. Document 01, "Slots and sub-bins": "x is the remainder of s by w, v = s/w rounded down, y = h times the flip of v. The rectangle covers x to x + p - 1
-- in rows y to y + h - 1." Number 18: "a corner has x >= w, y not a multiple of h, or y >= H".
--     corner_x Ts s          x of start s
--     corner_y Ts T s        y of start s, of a probe of period T
--     start_of Ts T x y      the start of the corner x, y: the way back
--     OffGrid Ts T x y      number 18 refuses the corner
-- Assumes nothing.
use Rattle.std.specs.Prelude.{◌⊎◌, List, ℕ, ◌+◌, ◌*◌, ◌/◌, ◌%◌, ◌≤◌}
use Rattle.std.specs.Int.{◌∣◌}
use Rattle.probes.specs.Table.{shortest, rows, height}
use Rattle.chain.specs.Flip.{flip, unflip}
use Rattle.chain.specs.Ratios.{ratios}

unfoldable pub corner_x : List ℕ → ℕ → ℕ
corner_x Ts s = s % shortest Ts

unfoldable pub corner_y : List ℕ → ℕ → ℕ → ℕ
corner_y Ts T s = height Ts T * flip (ratios Ts) (T / shortest Ts) (s / shortest Ts)

unfoldable pub start_of : List ℕ → ℕ → ℕ → ℕ → ℕ
start_of Ts T x y = x + shortest Ts * unflip (ratios Ts) (T / shortest Ts) (y / height Ts T)

abbrev pub OffGrid : List ℕ → ℕ → ℕ → ℕ → Type 0
OffGrid Ts T x y = (shortest Ts ≤ x) ⊎ ((height Ts T ∣ y → ⊥) ⊎ (rows Ts ≤ y))
