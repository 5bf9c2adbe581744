-- PAGES THAT THE PROMISES OF `plan_page` AND `check_page` SHUT OUT. Document 01, "The book" and "What the inspector asks of each promise".
--     printing bs out right wrong   a book and the lent bytes, the result that the promise has for them, and what a wrong program leaves behind
--     check-page-shuts-out          every claim of the table is settled: the right result meets the promise, and the wrong one does not
--     plan-page-shuts-out           the same of `plan_page`, of books that are refused
-- Not said here: pages of a planned table. The flip is shut here; the bench sheet has 01's printed example whole.
-- Assumes nothing.
use Rattle.std.specs.Prelude.{◌≡◌, refl, Bool, List, [], ◌∷◌, ◌++◌, ℕ, replicate}
use Rattle.lists.specs.Pick.{both, Tells, any_below}
use Rattle.lists.specs.Lowest.{lowest, lowest_from}
use Rattle.lists.specs.Answering.{first_of}
use Rattle.words.specs.Answers.{refused}
use Rattle.wire.specs.Meeting.{lag, apart, shared_tick, apart_at, tick_at}
use Rattle.probes.specs.Table.{least_of, greatest_of, shortest, longest, rows, widths}
use Rattle.probes.specs.Verdict.{divides, chained, bad_period, bad_length, unchained, late, findings, list_findings}
use Rattle.sheets.specs.Bytes.{bytes, value, word, byte_sum, place_sum, all_zero}
use Rattle.sheets.specs.Layout.{first_edition, blocks_of, records_of}
use Rattle.sheets.specs.Runs.{run_from}
use Rattle.sheets.specs.Block.{wrong_sum, wrong_field, unused, used_unused}
use Rattle.sheets.specs.Filling.{record_of, record_at, head_of, body_of, sums_of}
use Rattle.volumes.specs.Reading.{bad_size, block_at, blocks_in, n_of, block_findings, field, column, read_findings, done_read, read_of}
use Rattle.meetings.specs.Check.{partner, opener, meeting_of, checked}
use Rattle.questions.specs.Replies.{replies_of, read_in, reply_of}
use Rattle.text.specs.Text.{letters, digits_then, decimal, spaced, printed_line}
use Rattle.lines.specs.Lines.{answer_line, check_line}
use Rattle.lines.specs.Laws.{most_check}
use Rattle.paper.specs.Printed.{plan_page, check_page}
use Rattle.paper.specs.Paper.{most_plan, Paper, paper, print_of, PlanPrints, CheckPrints}
use Rattle.paper.proofs.Promises.{print-unique, print-total}
use Rattle.shut_out.specs.Claims.{two-tell, Claim, claim, Each, Settled, same_answer, same-answer-tells, same_list, same-list-tells, all_settled}
use Rattle.shut_out.specs.Read.{summed, two}

-- a book and the lent bytes
abbrev pub Lent : Type 0
Lent = List ℕ × List ℕ

abbrev pub CheckMeets : Lent → Paper → Type 0
CheckMeets (bs, out) o = CheckPrints bs out o

abbrev pub PlanMeets : Lent → Paper → Type 0
PlanMeets (bs, out) o = PlanPrints bs out o

abbrev printing : List ℕ → List ℕ → Paper → Paper → Claim Lent Paper
printing bs out right wrong = claim (bs, out) right wrong

abbrev fives : ℕ → List ℕ
fives k = replicate k 5

-- the book of periods 10, 20, lengths 5, 1, starts 8, 1: they meet at tick 21
abbrev meeting : List ℕ
meeting = summed (body_of first_edition (10 ∷ 20 ∷ []) (5 ∷ 1 ∷ []) (8 ∷ 1 ∷ []) 0)

-- the page of that book
abbrev met : Paper → Claim Lent Paper
met wrong = printing meeting (fives 54) (paper (refused 0 10) (letters "10 0 1 21\n" ++ fives 44)) wrong

abbrev pub check_claims : List (Claim Lent Paper)
check_claims =
    -- "a checker with one verdict for all lists"
    met (paper (refused 0 8) (letters "0 0 0 0\n" ++ fives 46))
    -- "prints number, both indexes and tick": number and index alone
    ∷ met (paper (refused 0 5) (letters "10 0\n" ++ fives 49))
    -- no newline
    ∷ met (paper (refused 0 9) (letters "10 0 1 21" ++ fives 45))
    -- numbers with zeros in front
    ∷ met (paper (refused 0 11) (letters "10 0 1 021\n" ++ fives 43))
    -- nothing printed, and 0
    ∷ met (paper (refused 0 0) (fives 54))
    -- the length not told
    ∷ met (paper (refused 0 0) (letters "10 0 1 21\n" ++ fives 44))
    -- bytes past the page cleared
    ∷ met (paper (refused 0 10) (letters "10 0 1 21\n" ++ replicate 44 0))
    -- the checker's number in place of the call's own
    ∷ met (paper (refused 10 10) (letters "10 0 1 21\n" ++ fives 44))
    -- "a result slice is too short": as much as there is room for
    ∷ printing two (fives 53) (paper (refused 7 0) (fives 53)) (paper (refused 0 8) (letters "0 0 0 0\n" ++ fives 45))
    ∷ []

abbrev pub plan_claims : List (Claim Lent Paper)
plan_claims =
    -- "For any refusal but 8 it prints only number and index": number, n and H
    printing [] (fives 11308) (paper (refused 0 5) (letters "20 0\n" ++ fives 11303)) (paper (refused 0 7) (letters "20 0 0\n" ++ fives 11301))
    -- nothing printed of a book that is refused
    ∷ printing (0 ∷ []) (fives 11308) (paper (refused 0 5) (letters "20 0\n" ++ fives 11303)) (paper (refused 0 0) (fives 11308))
    -- too little room, and printed
    ∷ printing [] (fives 5) (paper (refused 7 0) (fives 5)) (paper (refused 0 5) (letters "20 0\n"))
    ∷ []

abbrev same : Paper → Paper → Bool
same a b = both (same_answer a.answer b.answer) (same_list a.bytes b.bytes)

same-tells : (a b : Paper) → Tells (same a b) (a ≡ b)
same-tells = two-tell (λ (r : Paper). r.answer) (λ (r : Paper). r.bytes) paper (λ o. refl) same_answer same-answer-tells same_list same-list-tells

pub check-page-shuts-out : Each (Settled CheckMeets) check_claims
unfolding bytes value word byte_sum place_sum all_zero blocks_of records_of run_from wrong_sum wrong_field unused used_unused record_of record_at head_of body_of sums_of bad_size block_at blocks_in n_of block_findings field column
    read_findings done_read read_of first_of any_below lowest lowest_from least_of greatest_of shortest longest rows widths divides chained bad_period bad_length unchained late findings list_findings lag apart
    shared_tick apart_at tick_at partner opener meeting_of checked replies_of read_in reply_of letters digits_then decimal spaced printed_line check_line check_page print_of
check-page-shuts-out =
    all_settled same same-tells (λ (x : Lent). print_of most_check (check_page x.0) x.1) CheckMeets (λ x. print-total _ _ _) (λ x. print-unique _ _ _) check_claims refl

pub plan-page-shuts-out : Each (Settled PlanMeets) plan_claims
unfolding bad_size block_findings read_findings read_of first_of read_in letters digits_then decimal spaced printed_line answer_line plan_page print_of
plan-page-shuts-out =
    all_settled same same-tells (λ (x : Lent). print_of most_plan (plan_page x.0) x.1) PlanMeets (λ x. print-total _ _ _) (λ x. print-unique _ _ _) plan_claims refl
