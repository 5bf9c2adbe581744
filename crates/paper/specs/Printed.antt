-- WHAT `plan` AND `check` PRINT. Document 01, "The book": "Program `plan` reads a book from standard input and ignores its starts. It prints number, n, H; then per probe its number,
-- period, length, start, with `-` for the mark. For any refusal but 8 it prints only number and index. Program `check` prints number, both indexes and tick."
--     plan_text Ts ps o      of a planned table: number, n, H, and a line for each probe; of a refusal the one line
--     planned_in Ts ps       the table planned into columns of 256 starts and 4,096 fills
--     plan_page bs           the page of `plan` for the bytes of any book
--     check_page bs          the page of `check` for the bytes of any book
-- Edges: `plan` never judges the starts; on 8 it prints all n lines; the empty book prints `0 0 0`.
-- Assumes nothing.
use Rattle.std.specs.Prelude.{Bool, List, ◌++◌, ℕ, eqb, length, replicate}
use Rattle.lists.specs.Pick.{pick, either}
use Rattle.probes.specs.Table.{most_probes, most_rows, rows}
use Rattle.stack.specs.FirstFit.{Outcome, planned}
use Rattle.questions.specs.declared.Question.TheVariants.{IsClean}
use Rattle.questions.specs.Replies.{periods_in, lengths_in, read_in, reply_of}
use Rattle.lines.specs.Lines.{answer_line, check_line, head_line, probe_lines}

-- the planner ran: it answered 0 or 8
unfoldable pub ran : ℕ → Bool
ran k = either (eqb k 0) (eqb k 8)

unfoldable pub plan_text : List ℕ → List ℕ → Outcome → List ℕ
plan_text Ts ps o =
    pick (ran o.answer.number) (head_line o.answer.number (length Ts) (rows Ts) ++ probe_lines Ts ps o.starts 0 (length Ts)) (answer_line o.answer)

unfoldable pub planned_in : List ℕ → List ℕ → Outcome
planned_in Ts ps = planned Ts ps (replicate most_probes 0) (replicate most_rows 0)

unfoldable pub plan_page : List ℕ → List ℕ
plan_page bs =
    pick (eqb (read_in bs).answer.number 0) (plan_text (periods_in bs) (lengths_in bs) (planned_in (periods_in bs) (lengths_in bs))) (answer_line (read_in bs).answer)

unfoldable pub check_page : List ℕ → List ℕ
check_page bs = check_line (reply_of IsClean bs)
