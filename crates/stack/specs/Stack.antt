-- THE STACK. Document 01, "First fit": "All H rows begin with fill 0 .. The probe gets x = that fill, y = j*h .. Then the part of the row column from y for h rows is raised by p,
-- and no other row."
-- The rows are a list of fills, of any number; a probe takes its sub-bin j, of h rows from row j*h on, and q of their width.
--     raised rows y h q     the rows with those from y for h raised by q
--     Fits rows h q w j     sub-bin j has room: "fill of row j*h plus p at most w"
--     fits                  the same as a test
--     bins rows h           how many sub-bins of h rows there are
--     lowest_bin rows h q w  "the lowest sub-bin j, from 0" with room; the number of sub-bins where there is none
-- Assumes nothing.
use Rattle.std.specs.Prelude.{Bool, List, ◌++◌, map, ℕ, ◌+◌, ◌*◌, ◌/◌, ◌≤◌, leb, length, get_or, take, drop}
use Rattle.lists.specs.Lowest.{lowest}

abbrev pub raise : ℕ → List ℕ → List ℕ
raise q rows = map (λ (x : ℕ). x + q) rows

unfoldable pub raised : List ℕ → ℕ → ℕ → ℕ → List ℕ
raised rows y h q = take y rows ++ (raise q (take h (drop y rows)) ++ drop (y + h) rows)

abbrev pub Fits : List ℕ → ℕ → ℕ → ℕ → ℕ → Type 0
Fits rows h q w j = get_or rows (j * h) 0 + q ≤ w

unfoldable pub fits : List ℕ → ℕ → ℕ → ℕ → ℕ → Bool
fits rows h q w j = leb (get_or rows (j * h) 0 + q) w

unfoldable pub bins : List ℕ → ℕ → ℕ
bins rows h = length rows / h

unfoldable pub lowest_bin : List ℕ → ℕ → ℕ → ℕ → ℕ
lowest_bin rows h q w = lowest (fits rows h q w) (bins rows h)
