-- ANSWERS THAT THE TIMETABLE'S PROMISES SHUT OUT. Document 01, "Timetable" and "What the inspector asks of each promise".
--     ask Ts ps ss t right wrong    a list and a tick, the answer that the promise has for them, and what a wrong program says
--     holder-shuts-out              every claim of the holder's table is settled: the right answer meets the promise, and the wrong one does not
--     next-start-shuts-out          and every claim of the next start's
-- Assumes nothing.
use Rattle.std.specs.Prelude.{refl, List, [], ◌∷◌, ℕ, suc}
use Rattle.lists.specs.Pick.{any_below}
use Rattle.lists.specs.Lowest.{lowest, lowest_from}
use Rattle.lists.specs.Answering.{first_of}
use Rattle.words.specs.declared.Answer.{Answer}
use Rattle.words.specs.Answers.{refused, pair, mark}
use Rattle.words.specs.Ticks.{last_tick}
use Rattle.probes.specs.Table.{least_of, greatest_of, shortest, longest, rows, widths}
use Rattle.probes.specs.Verdict.{divides, chained, bad_period, bad_length, unchained, late, findings, list_findings}
use Rattle.hours.specs.Timetable.{ask_findings, phase, holds_test, holder_of, Holder, holder_answer, candidate, next_of, NextFrom, next_answer}
use Rattle.hours.proofs.HolderLaws.{holder-meets}
use Rattle.hours.proofs.NextLaws.{next-meets}
use Rattle.hours.proofs.Promises.{holder-unique, next-start-unique}
use Rattle.shut_out.specs.Claims.{Claim, claim, Each, Settled, same_answer, same-answer-tells, all_settled}

-- periods, lengths, starts and a tick
abbrev pub Lent : Type 0
Lent = List ℕ × List ℕ × List ℕ × ℕ

abbrev pub MeetsHolder : Lent → Answer → Type 0
MeetsHolder (Ts, ps, ss, t) a = Holder Ts ps ss t a

abbrev pub MeetsNext : Lent → Answer → Type 0
MeetsNext (Ts, ps, ss, t) a = NextFrom Ts ps ss t a

abbrev ask : List ℕ → List ℕ → List ℕ → ℕ → Answer → Answer → Claim Lent Answer
ask Ts ps ss t right wrong = claim (Ts, ps, ss, t) right wrong

abbrev pub holder_claims : List (Claim Lent Answer)
holder_claims =
    -- "holds tick t when t >= s": held before the start
    ask (10 ∷ []) (5 ∷ []) (8 ∷ []) 3 (refused 0 mark) (refused 0 0)
    -- "After a read's last tick the wire is free": the last tick counted free
    ∷ ask (10 ∷ []) (5 ∷ []) (8 ∷ []) 12 (refused 0 0) (refused 0 mark)
    -- "After a read's last tick the wire is free": the tick after it counted held
    ∷ ask (10 ∷ []) (5 ∷ []) (8 ∷ []) 13 (refused 0 mark) (refused 0 0)
    -- "the lowest-numbered probe holding tick t": the highest
    ∷ ask (10 ∷ 10 ∷ []) (6 ∷ 5 ∷ []) (0 ∷ 4 ∷ []) 5 (refused 0 0) (refused 0 1)
    -- "fields not named are 0": the start of the read as the tick
    ∷ ask (10 ∷ []) (5 ∷ []) (8 ∷ []) 12 (refused 0 0) (pair 0 0 0 8)
    -- a timetable that always says idle
    ∷ ask (10 ∷ []) (5 ∷ []) (0 ∷ []) 0 (refused 0 0) (refused 0 mark)
    -- "a tick asked about is too late": taken
    ∷ ask (10 ∷ []) (5 ∷ []) (0 ∷ []) (suc last_tick) (refused 11 0) (refused 0 0)
    -- "tick asked about: 0 to 1,099,511,627,776": the last one refused
    ∷ ask (10 ∷ []) (5 ∷ []) (0 ∷ []) last_tick (refused 0 mark) (refused 11 0)
    -- "An empty table answers idle": the first probe named
    ∷ ask [] [] [] 7 (refused 0 mark) (refused 0 0)
    ∷ []

abbrev pub next_claims : List (Claim Lent Answer)
next_claims =
    -- "the least tick from t on": a start strictly after the tick
    ask (10 ∷ []) (5 ∷ []) (8 ∷ []) 18 (pair 0 0 0 18) (pair 0 0 0 28)
    -- "the least tick from t on": the first start, though it is past
    ∷ ask (10 ∷ []) (5 ∷ []) (8 ∷ []) 9 (pair 0 0 0 18) (pair 0 0 0 8)
    -- "with the lowest such probe": the highest
    ∷ ask (10 ∷ 10 ∷ []) (5 ∷ 5 ∷ []) (3 ∷ 3 ∷ []) 0 (pair 0 0 0 3) (pair 0 1 0 3)
    -- "the least tick .. at which some probe starts a read": the lowest probe's, though another starts sooner
    ∷ ask (10 ∷ 10 ∷ []) (5 ∷ 5 ∷ []) (8 ∷ 3 ∷ []) 0 (pair 0 1 0 3) (pair 0 0 0 8)
    -- a timetable that always says no start
    ∷ ask (10 ∷ []) (5 ∷ []) (8 ∷ []) 0 (pair 0 0 0 8) (refused 0 mark)
    -- a start past the last tick that may be asked about refused
    ∷ ask (1048576 ∷ []) (5 ∷ []) (1048575 ∷ []) last_tick (pair 0 0 0 1099512676351) (refused 11 0)
    -- "An empty table answers idle, or no start": the first probe named
    ∷ ask [] [] [] 7 (refused 0 mark) (refused 0 0)
    ∷ []

pub holder-shuts-out : Each (Settled MeetsHolder) holder_claims
unfolding holder_answer first_of ask_findings list_findings findings bad_period bad_length unchained chained divides late lowest lowest_from any_below shortest least_of longest greatest_of rows
    holder_of holds_test phase widths
holder-shuts-out =
    all_settled same_answer same-answer-tells (λ (x : Lent). holder_answer x.0 x.1 x.2 x.3) MeetsHolder (λ x. holder-meets _ _ _ _) (λ x. holder-unique _ _ _ _)
    holder_claims refl

pub next-start-shuts-out : Each (Settled MeetsNext) next_claims
unfolding next_answer first_of ask_findings list_findings findings bad_period bad_length unchained chained divides late lowest lowest_from any_below shortest least_of longest greatest_of rows
    next_of candidate phase
next-start-shuts-out =
    all_settled same_answer same-answer-tells (λ (x : Lent). next_answer x.0 x.1 x.2 x.3) MeetsNext (λ x. next-meets _ _ _ _) (λ x. next-start-unique _ _ _ _)
    next_claims refl
