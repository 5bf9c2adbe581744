-- THE TABLE. Document 01, "The line and its words" and "Numbers the master shows", numbers 1 to 6 and 9.
-- A table is two columns, periods Ts and lengths ps; probe i has period get_or Ts i 0 and length get_or ps i 0; n is length Ts.
--     shortest Ts       w, "the least period in the table"; 0 for the empty table
--     longest Ts        M, "the longest"; 0 for the empty table
--     rows Ts           H = M/w, "the number of rows"; 0 for the empty table
--     height Ts T       h = M/T, "the height of a probe" of period T
--     widths g ps       the ticks that each read takes where the wire needs g ticks to be free again; in the base g is 0
--     lines Ts ps D     the lines 1 to 6 of 01's table, in order, each with its exact condition; D says that the call's columns differ in length
--     Sound Ts ps       "A table is sound when none of 1 to 6 applies."                                 (believe this)
--     late_line Ts ss    line 9: "a start is T or more"
--     Below Ts ss       every start lies below its period: 9 does not apply
--     list_lines Ts ps ss    the lines 1 to 6 and 9 of a call that takes a list: periods, lengths and starts
-- The conditions of 3, 4, 5 and 9 at a place, w and M stand in specs/Columns and specs/Chained.
-- Edges: the empty table is sound.
-- Assumes nothing.
use Rattle.std.specs.Prelude.{◌⊎◌, ◌≢◌, List, [], ◌∷◌, ◌++◌, map, ℕ, ◌+◌, ◌/◌, ◌<◌, length}
use Rattle.lists.specs.Refusals.{Line, line, whole, Silent, Silents}
pub use Rattle.words.specs.Ticks.{most_period}
pub use Rattle.probes.specs.Columns.{BadPeriod, BadLength, Late}
unfoldable pub use Rattle.probes.specs.Columns.{least_of, greatest_of, shortest, longest}
pub use Rattle.probes.specs.Chained.{Unchained}

-- "probes: 0 to 256"; "rows: at most 4,096"
abbrev pub most_probes : ℕ
most_probes = 256

abbrev pub most_rows : ℕ
most_rows = 4096

unfoldable pub rows : List ℕ → ℕ
rows Ts = longest Ts / shortest Ts

unfoldable pub height : List ℕ → ℕ → ℕ
height Ts T = longest Ts / T

unfoldable pub widths : ℕ → List ℕ → List ℕ
widths g ps = map (λ (p : ℕ). p + g) ps

module _ (Ts ps : List ℕ) where
  abbrev pub lines : Type 0 → List Line
  lines Differ =
      whole 1 Differ
      ∷ whole 2 (most_probes < length Ts)
      ∷ line 3 (length Ts) (BadPeriod Ts ps)
      ∷ line 4 (length Ts) (BadLength Ts ps)
      ∷ line 5 (length Ts) (Unchained Ts ps)
      ∷ whole 6 (most_rows < rows Ts)
      ∷ []

  -- 1 of a call that takes the two columns alone: "columns differ in length"
  abbrev pub Differ : Type 0
  Differ = length Ts ≢ length ps

  abbrev pub Sound : Type 0
  Sound = Silents (lines Differ)

module _ (Ts ss : List ℕ) where
  abbrev pub late_line : Line
  late_line = line 9 (length Ts) (Late Ts ss)

  abbrev pub Below : Type 0
  Below = Silent late_line

module _ (Ts ps ss : List ℕ) where
  -- 1 of a call that takes three columns
  abbrev pub DifferThree : Type 0
  DifferThree = (length Ts ≢ length ss) ⊎ (length Ts ≢ length ps)

  abbrev pub list_lines : List Line
  list_lines = lines Ts ps DifferThree ++ (late_line Ts ss ∷ [])
