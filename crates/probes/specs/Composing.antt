-- COMPOSING JUDGES. A call that asks the judge first, and goes on only where the answer is 0, answers the first of all the lines.
--     Numbered fs           no check gives number 0
--     list_verdict Ts ps ss  numbers 1 to 6 and 9 of a list, computed
-- Assumes nothing.
use Rattle.std.specs.Prelude.{ℕ, ◌<◌}
use mathlib.Core.List.{List, [], ◌∷◌}
use Rattle.lists.specs.Answering.{Found, first_of}
use Rattle.words.specs.declared.Answer.{Answer}
use Rattle.words.specs.Answers.{refused, done}
use Rattle.probes.specs.Verdict.{list_findings}

unfoldable pub Numbered : List Found → Type 0
Numbered [] = Unit {0}
Numbered (f ∷ fs) = (0 < f.number) × Numbered fs

unfoldable pub list_verdict : List ℕ → List ℕ → List ℕ → Answer
list_verdict Ts ps ss = first_of (list_findings Ts ps ss) refused done
