-- LAWS OF THE PAGES.
--     ran-true                  the planner ran: it answered 0 or 8
--     plan-same                 and then the table's columns are of one length
--     planned-is                what the planner promises is what the page prints
--     plan-refused, plan-lines  the two texts of a planned table
--     page-refused, page-planned    the two pages of a book
--     check-page-is             the page of an answer of the book
--     prints-short, prints-whole    the two results
--     prints-done               a page that was put is the whole page
--     prints-within             the page's end lies within the lent bytes
-- Assumes nothing.
use Rattle.std.specs.Prelude.{◌≡◌, refl, ◌⊎◌, true, false, ℕ, ◌+◌, ◌≤◌, ◌<◌, eqb, take, drop, replicate}
use Rattle.std.proofs.Common.{sym, ◌∙◌}
use Rattle.std.proofs.Math.Path.{ap}
use Rattle.std.proofs.Math.Logic.{inl, inr}
use mathlib.Core.List.{List, ◌++◌}
use Rattle.std.proofs.Math.Nat.{zero-add}
use Rattle.std.proofs.Math.Decide.{ℕ_discrete}
use native.Mathlib.Omega.{arith}
use Rattle.std.proofs.Math.ListN.{length, length-append}
use borrow.Author.Tests.{eq-eqb, ne_eqb}
use Rattle.lists.specs.Pick.{either}
use Rattle.lists.specs.Telling.{true-or-false}
use Rattle.lists.specs.Refusals.{First}
use Rattle.words.specs.declared.Answer.{Answer}
use Rattle.words.specs.Answers.{refused}
use Rattle.probes.specs.Table.{most_probes, most_rows, rows}
use Rattle.probes.proofs.Laws.{sound-gives}
use Rattle.stack.specs.FirstFit.{Outcome}
use Rattle.rectangles.specs.Plan.{Plans}
use Rattle.rectangles.specs.Checks.{planned-meets}
use Rattle.rectangles.specs.Ends.{silent-plan}
use Rattle.rectangles.proofs.Promises.{plan-unique}
use Rattle.sheets.specs.Layout.{first_edition, most_n}
use Rattle.volumes.specs.Reading.{Columns, columns, Reads}
use Rattle.volumes.specs.ReadLaws.{read_meets}
use Rattle.volumes.proofs.Promises.{read-unique}
use Rattle.questions.specs.declared.Question.TheVariants.{IsClean}
use Rattle.questions.specs.Replies.{Answers, read_in, reply_of}
use Rattle.questions.proofs.Asking.{opened-periods, opened-lengths, answers-unique, reply-meets}
use Rattle.text.specs.Putting.{Put, put-page}
use Rattle.lines.specs.Lines.{answer_line, check_line, head_line, probe_lines}
use Rattle.paper.specs.Printed.{ran, plan_text, planned_in, plan_page, check_page}
use Rattle.paper.specs.Paper.{Paper, paper, done_paper, Prints}

pub ran-true : (k : ℕ) → ran k ≡ true → (k ≡ 0) ⊎ (k ≡ 8)
unfolding ran
ran-true k e = by (ℕ_discrete k 0) (ℕ_discrete k 8)
  where
    by : Dec (k ≡ 0) → Dec (k ≡ 8) → (k ≡ 0) ⊎ (k ≡ 8)
    by (yes z) d = inl z
    by (no n) (yes z) = inr z
    by (no n) (no m) = absurd (true-or-false (either (eqb k 0) (eqb k 8)) e (rw (ne_eqb _ _ n, ne_eqb _ _ m)))

module _ (Ts ps : List ℕ) (o : Outcome) (is : Plans Ts ps (replicate most_probes 0) (replicate most_rows 0) o) where
  pub planned-is : o ≡ planned_in Ts ps
  unfolding planned_in
  planned-is = plan-unique Ts ps (replicate most_probes 0) (replicate most_rows 0) o _ is (planned-meets Ts ps (replicate most_probes 0) (replicate most_rows 0))

  -- it ran only over a sound table, whose columns are of one length
  pub plan-same : ran o.answer.number ≡ true → length Ts ≡ length ps
  plan-same e = (sound-gives Ts ps (silent-plan Ts ps (replicate most_probes 0) (replicate most_rows 0) o is (ran-true o.answer.number e)).1.sound).same

  pub plan-refused : ran o.answer.number ≡ false → answer_line o.answer ≡ plan_text Ts ps (planned_in Ts ps)
  unfolding plan_text
  plan-refused e = rw (← planned-is, e)

  pub plan-lines : ran o.answer.number ≡ true → head_line o.answer.number (length Ts) (rows Ts) ++ probe_lines Ts ps o.starts 0 (length Ts) ≡ plan_text Ts ps (planned_in Ts ps)
  unfolding plan_text
  plan-lines e = rw (← planned-is, e)

module _ (bs : List ℕ) (a : Answer) (Ts ps ss : List ℕ) (r : Reads first_edition bs (replicate most_n 0) (replicate most_n 0) (replicate most_n 0) (columns a Ts ps ss)) where
  read_is : columns a Ts ps ss ≡ read_in bs
  unfolding read_in
  read_is = read-unique first_edition bs (replicate most_n 0) (replicate most_n 0) (replicate most_n 0) _ _ r (read_meets first_edition bs (replicate most_n 0) (replicate most_n 0) (replicate most_n 0))

  answer-is : (read_in bs).answer ≡ a
  answer-is = ap (λ (c : Columns). c.answer) (sym read_is)

  pub page-refused : (a.number ≡ 0 → ⊥) → answer_line a ≡ plan_page bs
  unfolding plan_page
  page-refused d = rw (answer-is, ne_eqb _ _ d)

  pub page-planned : a.number ≡ 0 → plan_text (take a.index Ts) (take a.index ps) (planned_in (take a.index Ts) (take a.index ps)) ≡ plan_page bs
  unfolding plan_page
  page-planned z = rw (answer-is, eq-eqb _ _ z, opened-periods bs a Ts ps ss r z, opened-lengths bs a Ts ps ss r z)

pub check-page-is : (bs : List ℕ) (a : Answer) → Answers IsClean bs a → check_line a ≡ check_page bs
unfolding check_page
check-page-is bs a p = ap check_line (answers-unique IsClean bs a (reply_of IsClean bs) p (reply-meets IsClean bs))

module _ (room : ℕ) (page out : List ℕ) where
  pub prints-short : length out < room → Prints room page out (paper (refused 7 0) out)
  unfolding Prints First
  prints-short h = inl (0, (omega arith, record { within = omega arith; passed = λ i k. absurd (omega arith); found = λ k. h }), refl)

  pub prints-whole : room ≤ length out → Prints room page out (done_paper room page out)
  unfolding Prints First
  prints-whole long = inr (λ i k w. absurd (omega arith), refl)

  pub prints-done : (text : List ℕ) → text ≡ page → room ≤ length out → (to : ℕ) (new : List ℕ) → Put out 0 text to new → to ≤ room → Prints room page out (paper (refused 0 to) new)
  unfolding Prints First
  prints-done text e long to new p h =
      let at : to ≡ length page = p.place ∙ zero-add (length text) ∙ ap (λ (l : List ℕ). length l) e in
      inr (λ i k w. absurd (omega arith), rw (at, put-page p (omega arith), e))

  -- what was printed lies within the lent bytes, of which none is added or lost
  pub prints-within : (o : Paper) → Prints room page out o → length o.bytes ≡ length out → o.answer.index ≤ length o.bytes
  unfolding Prints First
  prints-within o (inl (i, at, e)) kept = rw e (omega (arith, at.0))
  prints-within o (inr (s, e)) kept =
      let long : length o.bytes ≡ length page + length (drop (length page) out) = ap (λ (p : Paper). length p.bytes) e ∙ length-append page (drop (length page) out) in
      omega (arith, long, ap (λ (p : Paper). p.answer.index) e)
