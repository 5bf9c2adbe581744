-- ANSWERS THAT THE PROMISE OF `validate` SHUTS OUT. Document 01, "The line and its words" and numbers 1 to 6.
--     table Ts ps right wrong     a table, the answer that the promise has for it, and what a wrong program says
--     validate-shuts-out          every claim of the table is settled: the right answer meets the promise, and the wrong one does not
--     validate-not-one            no answer serves all tables
-- Assumes nothing.
use Rattle.std.specs.Prelude.{refl, List, [], ◌∷◌, ℕ, replicate}
use Rattle.std.proofs.Common.{sym, ap, ◌∙◌, arith}
use Rattle.lists.specs.Pick.{any_below}
use Rattle.lists.specs.Lowest.{lowest, lowest_from}
use Rattle.lists.specs.Answering.{first_of}
use Rattle.words.specs.declared.Answer.{Answer}
use Rattle.words.specs.Answers.{refused, done}
use Rattle.probes.specs.Table.{least_of, greatest_of, shortest, longest, rows}
use Rattle.probes.specs.Verdict.{divides, chained, bad_period, bad_length, unchained, findings, verdict, Validates}
use Rattle.probes.proofs.Laws.{verdict-meets}
use Rattle.probes.proofs.Promises.{validate-unique}
use Rattle.shut_out.specs.Claims.{Claim, claim, Each, Settled, same_answer, same-answer-tells, all_settled}

-- periods and lengths
abbrev pub Lent : Type 0
Lent = List ℕ × List ℕ

abbrev pub Meets : Lent → Answer → Type 0
Meets (Ts, ps) a = Validates Ts ps a

abbrev table : List ℕ → List ℕ → Answer → Answer → Claim Lent Answer
table Ts ps right wrong = claim (Ts, ps) right wrong

abbrev pub claims : List (Claim Lent Answer)
claims =
    -- a validation that always passes
    table (10 ∷ []) (11 ∷ []) (refused 4 0) done
    -- one that always refuses
    ∷ table (10 ∷ 20 ∷ []) (3 ∷ 4 ∷ []) done (refused 4 0)
    -- "The empty table is sound": refused as a column that is too short
    ∷ table [] [] done (refused 1 0)
    -- "columns differ in length": the missing length taken for 0
    ∷ table (10 ∷ []) [] (refused 1 0) (refused 4 0)
    -- "more than 256 probes": the period of the last one judged first
    ∷ table (replicate 257 0) (replicate 257 1) (refused 2 0) (refused 3 0)
    -- "a period is out of range": 0 taken
    ∷ table (0 ∷ []) (1 ∷ []) (refused 3 0) (refused 4 0)
    -- "period: 1 to 1,048,576": the last one refused
    ∷ table (1048576 ∷ []) (1 ∷ []) done (refused 3 0)
    -- "period: 1 to 1,048,576": one more taken
    ∷ table (1048577 ∷ []) (1 ∷ []) (refused 3 0) done
    -- "a length is 0 or above w": 0 taken
    ∷ table (10 ∷ []) (0 ∷ []) (refused 4 0) done
    -- "a length is 0 or above w": measured by its own period
    ∷ table (10 ∷ 20 ∷ []) (3 ∷ 11 ∷ []) (refused 4 1) done
    -- w as the first period of the table
    ∷ table (20 ∷ 10 ∷ []) (11 ∷ 3 ∷ []) (refused 4 0) done
    -- "that of some earlier probe": the neighbour's alone
    ∷ table (4 ∷ 12 ∷ 6 ∷ []) (1 ∷ 1 ∷ 1 ∷ []) (refused 5 2) done
    -- "neither divides nor is divided by": a shorter period behind a longer one refused
    ∷ table (20 ∷ 10 ∷ []) (3 ∷ 3 ∷ []) done (refused 5 1)
    -- number 5 with the earlier probe as the index
    ∷ table (4 ∷ 6 ∷ []) (1 ∷ 1 ∷ []) (refused 5 1) (refused 5 0)
    -- "each over the whole table": the lowest bad probe, whatever is wrong with it
    ∷ table (10 ∷ 1048577 ∷ []) (0 ∷ 1 ∷ []) (refused 3 1) (refused 4 0)
    -- "and report the lowest place": the highest one
    ∷ table (10 ∷ 10 ∷ []) (11 ∷ 11 ∷ []) (refused 4 0) (refused 4 1)
    -- "rows: at most 4,096": 4,096 refused
    ∷ table (1 ∷ 4096 ∷ []) (1 ∷ 1 ∷ []) done (refused 6 0)
    -- "H is above 4,096": taken
    ∷ table (1 ∷ 8192 ∷ []) (1 ∷ 1 ∷ []) (refused 6 0) done
    -- "H is above 4,096", which has no index: the probe of the longest period named
    ∷ table (1 ∷ 8192 ∷ []) (1 ∷ 1 ∷ []) (refused 6 0) (refused 6 1)
    ∷ []

pub validate-shuts-out : Each (Settled Meets) claims
unfolding verdict first_of findings bad_period bad_length unchained chained divides lowest lowest_from any_below shortest least_of longest greatest_of rows
validate-shuts-out =
    all_settled same_answer same-answer-tells (λ (x : Lent). verdict x.0 x.1) Meets (λ x. verdict-meets _ _) (λ x. validate-unique _ _) claims refl

pub validate-not-one : (a : Answer) → ((Ts ps : List ℕ) → Validates Ts ps a) → ⊥
validate-not-one a all =
    let bad = validate-unique _ _ a (refused 4 0) (all _ _) validate-shuts-out.0.0 in
    let good = validate-unique _ _ a done (all _ _) validate-shuts-out.1.0.0 in
    omega (arith, ap (λ (r : Answer). r.number) (sym bad ∙ good))
