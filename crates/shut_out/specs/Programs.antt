-- WRONG PROGRAMS, WHATEVER ELSE THEY DO. Document 01, "What the inspector asks of each promise": "Demand 2 shuts out: a planner that always refuses .., one that returns the same starts, one
-- that leaves the columns untouched and says 0, one that places the first probe and only marks later ones, a checker with one verdict for all lists .. and a made-up shared tick".
--     Planner, Checker          a program that meets the promise on every input
-- Assumes nothing.
use Rattle.std.specs.Prelude.{ℕ}
use mathlib.Core.List.{List}
use Rattle.words.specs.declared.Answer.{Answer}
use Rattle.stack.specs.FirstFit.{Outcome}
use Rattle.rectangles.specs.Plan.{Plans}
use Rattle.meetings.specs.Check.{Checks}

abbrev pub Planner : (List ℕ → List ℕ → List ℕ → List ℕ → Outcome) → Type 0
Planner f = (Ts ps ss fs : List ℕ) → Plans Ts ps ss fs (f Ts ps ss fs)

abbrev pub Checker : (List ℕ → List ℕ → List ℕ → Answer) → Type 0
Checker f = (Ts ps ss : List ℕ) → Checks Ts ps ss (f Ts ps ss)
