-- THE PACKING VERDICT. Document 01, "Meeting on the wire": "let o be the start of the first probe in planning order, replace each s by the remainder of s - o by T, and convert.
-- All x + p <= w and no two rectangles overlapping holds exactly when the list is clean; an empty table holds."
--     Covers x y q h c r    the rectangle of corner x, y, width q and height h covers the cell at c in row r
--     CoversAt Ts qs ss i c r   the rectangle of probe i covers it
--     Inside Ts qs ss       "All x + p <= w"
--     NoOverlap Ts qs ss    "no two rectangles overlapping": no cell is covered by two
--     origin Ts ps ss       o
--     Packs Ts ps qs ss     the verdict: both, of the list moved to o
-- Edges: the empty table packs.
-- Assumes nothing.
use Rattle.std.specs.Prelude.{◌≡◌, List, ℕ, ◌+◌, ◌≤◌, ◌<◌, length, get_or}
use Rattle.wire.specs.Meeting.{moved}
use Rattle.probes.specs.Table.{shortest, height}
use Rattle.chain.specs.Corners.{corner_x, corner_y}
use Rattle.order.specs.Order.{first}

abbrev pub Covers : ℕ → ℕ → ℕ → ℕ → ℕ → ℕ → Type 0
Covers x y q h c r = (x ≤ c) × (c < x + q) × (y ≤ r) × (r < y + h)

module _ (Ts qs ss : List ℕ) where
  abbrev pub CoversAt : ℕ → ℕ → ℕ → Type 0
  CoversAt i c r =
      Covers (corner_x Ts (get_or ss i 0)) (corner_y Ts (get_or Ts i 0) (get_or ss i 0)) (get_or qs i 0) (height Ts (get_or Ts i 0)) c r

  abbrev pub Inside : Type 0
  Inside = (i : ℕ) → i < length Ts → corner_x Ts (get_or ss i 0) + get_or qs i 0 ≤ shortest Ts

  abbrev pub NoOverlap : Type 0
  NoOverlap = (i j c r : ℕ) → i < length Ts → j < length Ts → CoversAt i c r → CoversAt j c r → i ≡ j

unfoldable pub origin : List ℕ → List ℕ → List ℕ → ℕ
origin Ts ps ss = get_or ss (first Ts ps) 0

abbrev pub Packs : List ℕ → List ℕ → List ℕ → List ℕ → Type 0
Packs Ts ps qs ss = Inside Ts qs (moved (origin Ts ps ss) Ts ss) × NoOverlap Ts qs (moved (origin Ts ps ss) Ts ss)
