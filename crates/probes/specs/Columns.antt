-- COLUMNS OF A TABLE, each by itself. Document 01, "The line and its words" and "Numbers the master shows", numbers 3, 4 and 9.
--     shortest Ts           w, "the least period in the table"; 0 for the empty table
--     longest Ts            M, "the longest"; 0 for the empty table
--     BadPeriod Ts ps i     3 at place i: "a period is out of range"
--     BadLength Ts ps i     4 at place i: "a length is 0 or above w"
--     Late Ts ss i          9 at place i: "a start is T or more"
--     bad_period, bad_length, late     the same as tests
-- Edges: w is the least period of the whole table.
-- Assumes nothing.
use Rattle.std.specs.Prelude.{◌≡◌, ◌⊎◌, Bool, List, [], ◌∷◌, ℕ, ◌≤◌, ◌<◌, min, max, leb, ltb, eqb, get_or}
use Rattle.lists.specs.Pick.{either}
use Rattle.words.specs.Ticks.{most_period}

-- the least of m and a list, and the greatest
unfoldable pub least_of : ℕ → List ℕ → ℕ
least_of m [] = m
least_of m (x ∷ xs) = least_of (min m x) xs

unfoldable pub greatest_of : ℕ → List ℕ → ℕ
greatest_of m [] = m
greatest_of m (x ∷ xs) = greatest_of (max m x) xs

unfoldable pub shortest : List ℕ → ℕ
shortest [] = 0
shortest (T ∷ Ts) = least_of T Ts

unfoldable pub longest : List ℕ → ℕ
longest Ts = greatest_of 0 Ts

module _ (Ts ps : List ℕ) where
  abbrev pub BadPeriod : ℕ → Type 0
  BadPeriod i = (get_or Ts i 0 < 1) ⊎ (most_period < get_or Ts i 0)

  abbrev pub BadLength : ℕ → Type 0
  BadLength i = (get_or ps i 0 ≡ 0) ⊎ (shortest Ts < get_or ps i 0)

abbrev pub Late : List ℕ → List ℕ → ℕ → Type 0
Late Ts ss i = get_or Ts i 0 ≤ get_or ss i 0

unfoldable pub bad_period : List ℕ → ℕ → Bool
bad_period Ts i = either (ltb (get_or Ts i 0) 1) (ltb most_period (get_or Ts i 0))

unfoldable pub bad_length : ℕ → List ℕ → ℕ → Bool
bad_length w ps i = either (eqb (get_or ps i 0) 0) (ltb w (get_or ps i 0))

unfoldable pub late : List ℕ → List ℕ → ℕ → Bool
late Ts ss i = leb (get_or Ts i 0) (get_or ss i 0)
