-- What follows from the definitions of specs/Check.
--     check-shuts-out             every claim of the table is settled: the right answer meets the promise, and the wrong one does not
--     check-not-one               "a checker with one verdict for all lists": no answer serves them all
-- Assumes nothing.
use Rattle.std.specs.Prelude.{refl, List, ℕ}
use Rattle.std.proofs.Common.{sym, ap, ◌∙◌, arith}
use Rattle.lists.specs.Pick.{any_below}
use Rattle.lists.specs.Lowest.{lowest, lowest_from}
use Rattle.lists.specs.Answering.{first_of}
use Rattle.words.specs.declared.Answer.{Answer}
use Rattle.words.specs.Answers.{done, pair}
use Rattle.wire.specs.Meeting.{lag, apart, shared_tick, apart_at, tick_at}
use Rattle.probes.specs.Table.{least_of, greatest_of, shortest, longest, rows, widths}
use Rattle.probes.specs.Verdict.{divides, chained, bad_period, bad_length, unchained, late, findings, list_findings}
use Rattle.meetings.specs.Check.{partner, opener, meeting_of, Checks, checked}
use Rattle.meetings.proofs.Laws.{checked-meets}
use Rattle.meetings.proofs.Promises.{check-unique}
use Rattle.shut_out.specs.Claims.{Each, Settled, same_answer, same-answer-tells, all_settled}
use Rattle.shut_out.specs.Check.{Lent, Meets, claims}

pub check-shuts-out : Each (Settled Meets) claims
unfolding checked first_of list_findings findings bad_period bad_length unchained chained divides late lowest lowest_from any_below shortest least_of longest greatest_of rows
    meeting_of opener partner apart_at tick_at apart shared_tick lag widths
check-shuts-out =
    all_settled same_answer same-answer-tells (λ (x : Lent). checked x.0 x.1 x.2) Meets (λ x. checked-meets _ _ _) (λ x. check-unique _ _ _) claims refl

pub check-not-one : (a : Answer) → ((Ts ps ss : List ℕ) → Checks Ts ps ss a) → ⊥
check-not-one a all =
    let meets = check-unique _ _ _ a (pair 10 0 1 5) (all _ _ _) check-shuts-out.0.0 in
    let clean = check-unique _ _ _ a done (all _ _ _) check-shuts-out.1.0.0 in
    omega (arith, ap (λ (r : Answer). r.number) (sym meets ∙ clean))
