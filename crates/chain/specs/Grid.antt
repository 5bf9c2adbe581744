-- CORNERS AND STARTS OF A WHOLE COLUMN. Document 01, "Slots and sub-bins" and number 18: "a corner has x >= w, y not a multiple of h, or y >= H".
--     x_at, y_at              the corner of probe i's start
--     start_at               the start of probe i's corner
--     OffGridAt             number 18 refuses the corner of probe i
--     off_grid               the same as a test
--     off-grid-tells        the test tells it
-- Assumes nothing.
use Rattle.std.specs.Prelude.{Bool, not, List, ℕ, ◌%◌, leb, eqb, get_or}
use Rattle.lists.specs.Pick.{Tells, either}
use Rattle.lists.specs.Telling.{tells-either, tells-not, tells-le, tells-divides}
use Rattle.probes.specs.Table.{shortest, rows, height}
use Rattle.chain.specs.Corners.{corner_x, corner_y, start_of, OffGrid}

module _ (Ts ss : List ℕ) where
  abbrev pub x_at : ℕ → ℕ
  x_at i = corner_x Ts (get_or ss i 0)

  abbrev pub y_at : ℕ → ℕ
  y_at i = corner_y Ts (get_or Ts i 0) (get_or ss i 0)

module _ (Ts xs ys : List ℕ) where
  abbrev pub start_at : ℕ → ℕ
  start_at i = start_of Ts (get_or Ts i 0) (get_or xs i 0) (get_or ys i 0)

  abbrev pub OffGridAt : ℕ → Type 0
  OffGridAt i = OffGrid Ts (get_or Ts i 0) (get_or xs i 0) (get_or ys i 0)

  unfoldable pub off_grid : ℕ → Bool
  off_grid i =
      either (leb (shortest Ts) (get_or xs i 0))
      (either (not (eqb (get_or ys i 0 % height Ts (get_or Ts i 0)) 0)) (leb (rows Ts) (get_or ys i 0)))

pub off-grid-tells : (Ts xs ys : List ℕ) (i : ℕ) → Tells (off_grid Ts xs ys i) (OffGridAt Ts xs ys i)
unfolding off_grid
off-grid-tells Ts xs ys i =
    tells-either (leb (shortest Ts) (get_or xs i 0)) _ (tells-le (shortest Ts) (get_or xs i 0))
    (tells-either (not (eqb (get_or ys i 0 % height Ts (get_or Ts i 0)) 0)) (leb (rows Ts) (get_or ys i 0))
    (tells-not (eqb (get_or ys i 0 % height Ts (get_or Ts i 0)) 0) (tells-divides (height Ts (get_or Ts i 0)) (get_or ys i 0))) (tells-le (rows Ts) (get_or ys i 0)))
