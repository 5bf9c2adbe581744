-- ANSWERS THAT THE CHECKER'S PROMISE SHUTS OUT. Document 01, "What the inspector asks of each promise" and "Shortcuts that look right".
--     list Ts ps ss right wrong   a list, the answer that the promise has for it, and what a wrong program says
-- Assumes nothing.
use Rattle.std.specs.Prelude.{List, [], ◌∷◌, ℕ}
use Rattle.words.specs.declared.Answer.{Answer}
use Rattle.words.specs.Answers.{refused, done, pair, mark}
use Rattle.meetings.specs.Check.{Checks}
use Rattle.shut_out.specs.Claims.{Claim, claim}

-- periods, lengths and starts
abbrev pub Lent : Type 0
Lent = List ℕ × List ℕ × List ℕ

abbrev pub Meets : Lent → Answer → Type 0
Meets (Ts, ps, ss) a = Checks Ts ps ss a

abbrev list : List ℕ → List ℕ → List ℕ → Answer → Answer → Claim Lent Answer
list Ts ps ss right wrong = claim (Ts, ps, ss) right wrong

abbrev pub claims : List (Claim Lent Answer)
claims =
    -- "a checker with one verdict for all lists": 0
    list (10 ∷ 10 ∷ []) (6 ∷ 5 ∷ []) (0 ∷ 5 ∷ []) (pair 10 0 1 5) done
    -- "a checker with one verdict for all lists": 10
    ∷ list (10 ∷ 10 ∷ []) (6 ∷ 4 ∷ []) (0 ∷ 6 ∷ []) done (pair 10 0 1 0)
    -- "Taking a longer probe's first read as the meeting: above, tick 1 is not shared."
    ∷ list (10 ∷ 20 ∷ []) (5 ∷ 1 ∷ []) (8 ∷ 1 ∷ []) (pair 10 0 1 21) (pair 10 0 1 1)
    -- "Comparing only within the first longest period, which misses that tick 21."
    ∷ list (10 ∷ 20 ∷ []) (5 ∷ 1 ∷ []) (8 ∷ 1 ∷ []) (pair 10 0 1 21) done
    -- "Judging a foreign list by rectangles without moving it to o": specs/Unmoved has the sentence itself
    ∷ list (10 ∷ []) (5 ∷ []) (8 ∷ []) done (refused 10 0)
    -- d with the wrong sign
    ∷ list (10 ∷ 10 ∷ []) (3 ∷ 5 ∷ []) (0 ∷ 4 ∷ []) done (pair 10 0 1 8)
    -- d by the longer period
    ∷ list (20 ∷ 10 ∷ []) (1 ∷ 5 ∷ []) (1 ∷ 8 ∷ []) (pair 10 0 1 21) done
    -- "the pair with least first number": the shorter period first
    ∷ list (20 ∷ 10 ∷ []) (1 ∷ 5 ∷ []) (1 ∷ 8 ∷ []) (pair 10 0 1 21) (pair 10 1 0 21)
    -- "It need not be the earliest of all meetings": that one named
    ∷ list (10 ∷ 10 ∷ 10 ∷ []) (2 ∷ 2 ∷ 5 ∷ []) (8 ∷ 4 ∷ 5 ∷ []) (pair 10 0 2 8) (pair 10 1 2 5)
    -- off by one at p = d
    ∷ list (10 ∷ 10 ∷ []) (4 ∷ 3 ∷ []) (0 ∷ 4 ∷ []) done (pair 10 0 1 4)
    -- off by one at d = T - p
    ∷ list (10 ∷ 10 ∷ []) (4 ∷ 3 ∷ []) (0 ∷ 7 ∷ []) done (pair 10 0 1 10)
    -- "a made-up shared tick or fill": a tick that is not shared
    ∷ list (10 ∷ 10 ∷ []) (6 ∷ 5 ∷ []) (0 ∷ 5 ∷ []) (pair 10 0 1 5) (pair 10 0 1 7)
    -- "that pair's first shared tick": a later one
    ∷ list (10 ∷ 10 ∷ []) (6 ∷ 5 ∷ []) (0 ∷ 5 ∷ []) (pair 10 0 1 5) (pair 10 0 1 15)
    -- "handed back in a list it is refused as 9": the mark taken for a start
    ∷ list (10 ∷ 10 ∷ []) (6 ∷ 5 ∷ []) (0 ∷ mark ∷ []) (refused 9 1) (pair 10 0 1 5)
    -- starts that are missing taken for 0
    ∷ list (10 ∷ []) (5 ∷ []) [] (refused 1 0) done
    -- a sixth probe that meets the third
    ∷ list (10 ∷ 20 ∷ 20 ∷ 60 ∷ 60 ∷ 60 ∷ []) (3 ∷ 4 ∷ 5 ∷ 2 ∷ 3 ∷ 3 ∷ []) (0 ∷ 13 ∷ 3 ∷ 8 ∷ 17 ∷ 47 ∷ []) (pair 10 2 5 47) done
    ∷ []
