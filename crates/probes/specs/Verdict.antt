-- WHAT VALIDATION COMPUTES. The lines of specs/Table as tests, in the same order.
--     bad_period, bad_length, unchained, late     the conditions of 3, 4, 5 and 9 at a place, as tests
--     findings d Ts ps                          what each of the six checks finds; d is the test of number 1
--     verdict Ts ps                             the answer of the first that finds something, else done
--     list_findings Ts ps ss                     what the seven checks of a list find
--     Validates Ts ps a                         the promise: a is the refusal of the first line that applies, and done where none does
-- Assumes nothing.
use Rattle.std.specs.Prelude.{◌≡◌, Bool, not, List, [], ◌∷◌, ◌++◌, ℕ, ltb, eqb, length}
use Rattle.lists.specs.Pick.{either}
use Rattle.lists.specs.Lowest.{lowest}
use Rattle.lists.specs.Refusals.{First}
use Rattle.lists.specs.Answering.{Found, found, tested, first_of}
use Rattle.words.specs.declared.Answer.{Answer}
use Rattle.words.specs.Answers.{refused, done}
use Rattle.probes.specs.Table.{most_probes, most_rows, shortest, rows, lines, Differ}
unfoldable pub use Rattle.probes.specs.Columns.{bad_period, bad_length, late}
unfoldable pub use Rattle.probes.specs.Chained.{divides, chained, unchained}

unfoldable pub findings : Bool → List ℕ → List ℕ → List Found
findings differ Ts ps =
    tested 1 differ
    ∷ tested 2 (ltb most_probes (length Ts))
    ∷ found 3 (length Ts) (lowest (bad_period Ts) (length Ts))
    ∷ found 4 (length Ts) (lowest (bad_length (shortest Ts) ps) (length Ts))
    ∷ found 5 (length Ts) (lowest (unchained Ts) (length Ts))
    ∷ tested 6 (ltb most_rows (rows Ts))
    ∷ []

unfoldable pub verdict : List ℕ → List ℕ → Answer
verdict Ts ps = first_of (findings (not (eqb (length Ts) (length ps))) Ts ps) refused done

unfoldable pub list_findings : List ℕ → List ℕ → List ℕ → List Found
list_findings Ts ps ss =
    findings (either (not (eqb (length Ts) (length ss))) (not (eqb (length Ts) (length ps)))) Ts ps
    ++ (found 9 (length Ts) (lowest (late Ts ss) (length Ts)) ∷ [])

unfoldable pub Validates : List ℕ → List ℕ → Answer → Type 0
Validates Ts ps a = First (lines Ts ps (Differ Ts ps)) refused (λ r. r ≡ done) a
