-- WHAT `pages::plan_page` AND `pages::check_page` PROMISE, in words of specs/ alone: specs/Printed has the text, specs/Paper the promises.
--     print-unique              two results that meet the promise are one: the answer and all lent bytes
--     print-numbers             the numbers that a call can give
--     print-total               every lent bytes have a result
--     plan-page-refused, plan-page-planned    the text of `plan` is made from what the reading and the planner promise
--     check-page-answer         the text of `check` is made from what a book answers
--     plan-page-cut, check-page-cut    of a book that is longer than the longest the first 3,585 bytes give the same page, so a program need not read on
-- Assumes nothing.
use mathlib.Core.Path.{◌≡◌, refl, sym, ap, ◌∙◌}
use mathlib.Core.Logic.{inl, inr, ⊎_elim}
use mathlib.Core.Bool.{Bool, true, false}
use mathlib.Core.List.{List, [], ◌∷◌}
use Prim.Native.Nat.{ℕ, ◌*◌, ◌≤◌, ◌<◌}
use native.Mathlib.Omega.{arith}
use lib.Dec.{ltb}
use lib.ListN.{length, take, replicate}
use lib.Seq.{length-take-le}
use borrow.Author.Tests.{ltb-true, ltb-false}
use Rattle.lists.specs.Pick.{pick, In}
use Rattle.lists.specs.Telling.{tells-true}
use Rattle.lists.specs.Refusals.{first-unique, first-numbers}
use Rattle.words.specs.declared.Answer.{Answer}
use Rattle.words.specs.Answers.{refused}
use Rattle.probes.specs.Table.{most_probes, most_rows}
use Rattle.sheets.specs.Layout.{first_edition, block_bytes, most_n}
use Rattle.volumes.specs.Reading.{bad_size, Columns, Reads}
use Rattle.volumes.specs.ReadLaws.{read-size}
use Rattle.sheets.proofs.BlocksLaws.{bad-size-tells}
use Rattle.stack.specs.FirstFit.{Outcome}
use Rattle.rectangles.specs.Plan.{Plans}
use Rattle.questions.specs.declared.Question.TheVariants.{IsClean}
use Rattle.questions.specs.Replies.{periods_in, lengths_in, Answers, read_in, reply_of}
use Rattle.questions.proofs.Asking.{opened-periods, opened-lengths}
use Rattle.lines.specs.Lines.{answer_line, check_line}
use Rattle.paper.specs.Printed.{plan_text, plan_page, check_page}
use Rattle.paper.specs.Paper.{most_input, Paper, paper_lines, refused_paper, done_paper, Prints, print_of}
use Rattle.paper.specs.Laws.{planned-is, page-refused, page-planned, check-page-is, prints-short, prints-whole}

module _ (room : ℕ) (page out : List ℕ) where
  pub print-unique : (a b : Paper) → Prints room page out a → Prints room page out b → a ≡ b
  unfolding Prints
  print-unique = first-unique (paper_lines room page out) (refused_paper room page out) (λ r. r ≡ done_paper room page out) (λ a b p q. p ∙ sym q)

  pub print-numbers : (o : Paper) → Prints room page out o → In o.answer.number (0 ∷ 7 ∷ [])
  unfolding Prints In
  print-numbers o p =
      ⊎_elim inr (λ e. inl (ap (λ (r : Paper). r.answer.number) e))
      (first-numbers (λ (r : Paper). r.answer.number) (paper_lines room page out) (refused_paper room page out) (λ r. r ≡ done_paper room page out) (λ k i. refl) o p)

  pub print-total : Prints room page out (print_of room page out)
  unfolding print_of
  print-total = by (ltb (length out) room) refl
    where
      by : (b : Bool) → ltb (length out) room ≡ b → Prints room page out (pick b (refused_paper room page out 7 0) (done_paper room page out))
      by true e = prints-short room page out (ltb-true (length out) room e)
      by false e = prints-whole room page out (ltb-false (length out) room e)

-- a book read into columns of 256 entries
module _ (bs : List ℕ) (o : Columns) (r : Reads first_edition bs (replicate most_n 0) (replicate most_n 0) (replicate most_n 0) o) where
  pub plan-page-refused : (o.answer.number ≡ 0 → ⊥) → plan_page bs ≡ answer_line o.answer
  plan-page-refused d = sym (page-refused bs o.answer o.periods o.lengths o.starts r d)

  -- whatever meets the planner's promise of the book's table is what is printed
  pub plan-page-planned : o.answer.number ≡ 0 → (p : Outcome) → Plans (periods_in bs) (lengths_in bs) (replicate most_probes 0) (replicate most_rows 0) p
      → plan_page bs ≡ plan_text (periods_in bs) (lengths_in bs) p
  plan-page-planned z p is =
      let first = opened-periods bs o.answer o.periods o.lengths o.starts r z in
      let second = opened-lengths bs o.answer o.periods o.lengths o.starts r z in
      let page = page-planned bs o.answer o.periods o.lengths o.starts r z in
      sym (rw (first, second) at page) ∙ ap (plan_text (periods_in bs) (lengths_in bs)) (sym (planned-is (periods_in bs) (lengths_in bs) p is))

pub check-page-answer : (bs : List ℕ) (a : Answer) → Answers IsClean bs a → check_page bs ≡ check_line a
check-page-answer bs a p = sym (check-page-is bs a p)

-- every book of more than seven blocks is refused by 20
too_long : (bs : List ℕ) → first_edition.most_blocks * block_bytes < length bs → (read_in bs).answer ≡ refused 20 0
unfolding read_in
too_long bs h =
    ap (λ (c : Columns). c.answer)
    (sym (read-size first_edition bs (replicate most_n 0) (replicate most_n 0) (replicate most_n 0) (tells-true (bad_size first_edition bs) (bad-size-tells first_edition bs) (inr (inr h)))))

cut-long : (bs : List ℕ) → most_input ≤ length bs → first_edition.most_blocks * block_bytes < length (take most_input bs)
cut-long bs h = omega (arith, length-take-le most_input bs h)

pub plan-page-cut : (bs : List ℕ) → most_input ≤ length bs → plan_page (take most_input bs) ≡ plan_page bs
unfolding plan_page
plan-page-cut bs h = rw (too_long bs (omega arith), too_long (take most_input bs) (cut-long bs h)) refl

pub check-page-cut : (bs : List ℕ) → most_input ≤ length bs → check_page (take most_input bs) ≡ check_page bs
unfolding check_page reply_of
check-page-cut bs h = rw (too_long bs (omega arith), too_long (take most_input bs) (cut-long bs h)) refl
