-- A PAGE PUT INTO LENT BYTES: "a result slice is too short" is 7, and nothing is written; else the whole page, and the bytes past it stay.
--     most_plan, most_check   room for the longest page: 257 lines of 44 bytes, or one of 54
--     most_input             3,585: as much of its input a program reads at most
--     Paper                 the answer, and the lent bytes afterwards
--     print_of room page out     what is left in the lent bytes, computed
--     PlanPrints bs out o   the promise of `plan_page`: done with the page's length as its index
--     CheckPrints bs out o  the promise of `check_page`
-- Assumes nothing.
use Rattle.std.specs.Prelude.{◌≡◌, List, [], ◌∷◌, ◌++◌, ℕ, suc, ◌*◌, ◌<◌, ltb, length, drop}
use Rattle.lists.specs.Pick.{pick}
use Rattle.lists.specs.Refusals.{Line, whole, First}
use Rattle.words.specs.declared.Answer.{Answer}
use Rattle.words.specs.Answers.{refused}
use Rattle.sheets.specs.Layout.{first_edition, block_bytes}
use Rattle.lines.specs.Laws.{most_check}
use Rattle.paper.specs.Printed.{plan_page, check_page}

abbrev pub most_plan : ℕ
most_plan = 11308

-- one byte more than the longest book
abbrev pub most_input : ℕ
most_input = suc (first_edition.most_blocks * block_bytes)

pub record Paper : Type 0 where
  pub answer : Answer
  pub bytes : List ℕ

abbrev pub paper : Answer → List ℕ → Paper
paper a bs = record { answer = a; bytes = bs }

module _ (room : ℕ) (page out : List ℕ) where
  abbrev pub paper_lines : List Line
  paper_lines = whole 7 (length out < room) ∷ []

  abbrev pub refused_paper : ℕ → ℕ → Paper
  refused_paper k i = paper (refused k i) out

  abbrev pub done_paper : Paper
  done_paper = paper (refused 0 (length page)) (page ++ drop (length page) out)

  unfoldable pub Prints : Paper → Type 0
  Prints o = First paper_lines refused_paper (λ r. r ≡ done_paper) o

  -- the same, computed
  unfoldable pub print_of : Paper
  print_of = pick (ltb (length out) room) (refused_paper 7 0) done_paper

abbrev pub PlanPrints : List ℕ → List ℕ → Paper → Type 0
PlanPrints bs out o = Prints most_plan (plan_page bs) out o

abbrev pub CheckPrints : List ℕ → List ℕ → Paper → Type 0
CheckPrints bs out o = Prints most_check (check_page bs) out o
