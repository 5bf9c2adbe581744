-- OUTCOMES THAT THE PLANNER'S PROMISE SHUTS OUT. Document 01, "What the inspector asks of each promise" and "Shortcuts that look right".
--     claim Ts ps ss fs a gs wrong   a table with its lent columns, the answer and the fills that the promise has for it, and what a shortcut leaves behind
--     Settled c                      each outcome that meets the promise has that answer and those fills, and the wrong outcome does not meet it
-- Assumes nothing.
use Rattle.std.specs.Prelude.{◌≡◌, List, [], ◌∷◌, ℕ}
use Rattle.words.specs.declared.Answer.{Answer}
use Rattle.words.specs.Answers.{refused, done, mark}
use Rattle.stack.specs.FirstFit.{Outcome, outcome}
use Rattle.rectangles.specs.Plan.{Plans}

pub record Claim : Type 0 where
  pub periods : List ℕ
  pub lengths : List ℕ
  pub starts : List ℕ
  pub fills : List ℕ
  pub answer : Answer
  pub filled : List ℕ
  pub wrong : Outcome

abbrev claim : List ℕ → List ℕ → List ℕ → List ℕ → Answer → List ℕ → Outcome → Claim
claim Ts ps ss fs a gs wrong = record { periods = Ts; lengths = ps; starts = ss; fills = fs; answer = a; filled = gs; wrong = wrong }

-- 10, 20, 20, 60, 60 with 3, 4, 5, 2, 3: it fits, with six rows
abbrev pub five : Outcome → Claim
five wrong =
    claim (10 ∷ 20 ∷ 20 ∷ 60 ∷ 60 ∷ []) (3 ∷ 4 ∷ 5 ∷ 2 ∷ 3 ∷ []) (7777 ∷ 7777 ∷ 7777 ∷ 7777 ∷ 7777 ∷ []) (7777 ∷ 7777 ∷ 7777 ∷ 7777 ∷ 7777 ∷ 7777 ∷ [])
    done (10 ∷ 8 ∷ 8 ∷ 10 ∷ 7 ∷ 7 ∷ []) wrong

-- 10, 10 with 6, 5: the second is stuck
abbrev pub full : Outcome → Claim
full wrong = claim (10 ∷ 10 ∷ []) (6 ∷ 5 ∷ []) (7777 ∷ 7777 ∷ []) (7777 ∷ []) (refused 8 1) (6 ∷ []) wrong

-- 10, 10 with 6, 4: both fit; one entry too many is lent in each column
abbrev pub even : Outcome → Claim
even wrong = claim (10 ∷ 10 ∷ []) (6 ∷ 4 ∷ []) (7777 ∷ 7777 ∷ 7777 ∷ []) (7777 ∷ 7777 ∷ []) done (10 ∷ 7777 ∷ []) wrong

-- 8, 16, 16, 32 four times with 2, 2, 2, 4 four times: probe 5 is stuck
abbrev pub seven : Outcome → Claim
seven wrong =
    claim (8 ∷ 16 ∷ 16 ∷ 32 ∷ 32 ∷ 32 ∷ 32 ∷ []) (2 ∷ 2 ∷ 2 ∷ 4 ∷ 4 ∷ 4 ∷ 4 ∷ []) (7777 ∷ 7777 ∷ 7777 ∷ 7777 ∷ 7777 ∷ 7777 ∷ 7777 ∷ []) (7777 ∷ 7777 ∷ 7777 ∷ 7777 ∷ [])
    (refused 8 5) (6 ∷ 6 ∷ 6 ∷ 6 ∷ []) wrong

-- the five with a sixth probe, 60 and 3: it fits
abbrev pub six : List ℕ
six = 10 ∷ 20 ∷ 20 ∷ 60 ∷ 60 ∷ 60 ∷ []

abbrev pub reads : List ℕ
reads = 3 ∷ 4 ∷ 5 ∷ 2 ∷ 3 ∷ 3 ∷ []

abbrev pub lent : List ℕ
lent = 7777 ∷ 7777 ∷ 7777 ∷ 7777 ∷ 7777 ∷ 7777 ∷ []

-- sub-bins 3 and 4 taken for slots 3 and 4: 37 and 47 in place of 17 and 37
abbrev pub sub_bins : Outcome
sub_bins = outcome done (0 ∷ 13 ∷ 3 ∷ 8 ∷ 37 ∷ 47 ∷ []) (10 ∷ 8 ∷ 8 ∷ 10 ∷ 10 ∷ 7 ∷ [])

abbrev pub claims : List Claim
claims =
    -- "a planner that always refuses (8 has an exact condition)"
    five (outcome (refused 8 0) (mark ∷ mark ∷ mark ∷ mark ∷ mark ∷ []) (0 ∷ 0 ∷ 0 ∷ 0 ∷ 0 ∷ 0 ∷ []))
    -- "one that returns the same starts": those that it was lent, with the right answer and the right fills
    ∷ five (outcome done (7777 ∷ 7777 ∷ 7777 ∷ 7777 ∷ 7777 ∷ []) (10 ∷ 8 ∷ 8 ∷ 10 ∷ 7 ∷ 7 ∷ []))
    -- "one that leaves the columns untouched and says 0"
    ∷ five (outcome done (7777 ∷ 7777 ∷ 7777 ∷ 7777 ∷ 7777 ∷ []) (7777 ∷ 7777 ∷ 7777 ∷ 7777 ∷ 7777 ∷ 7777 ∷ []))
    -- "one that places the first probe and only marks later ones", and says 0
    ∷ five (outcome done (0 ∷ mark ∷ mark ∷ mark ∷ mark ∷ []) (3 ∷ 3 ∷ 3 ∷ 3 ∷ 3 ∷ 3 ∷ []))
    -- "one that places the first probe and only marks later ones", with 8 and the next in planning order
    ∷ five (outcome (refused 8 2) (0 ∷ mark ∷ mark ∷ mark ∷ mark ∷ []) (3 ∷ 3 ∷ 3 ∷ 3 ∷ 3 ∷ 3 ∷ []))
    -- "one that places the first probe and only marks later ones", with the right answer and the right fills
    ∷ seven (outcome (refused 8 5) (0 ∷ mark ∷ mark ∷ mark ∷ mark ∷ mark ∷ mark ∷ []) (6 ∷ 6 ∷ 6 ∷ 6 ∷ []))
    -- "a made-up shared tick or fill": a fill
    ∷ five (outcome done (0 ∷ 13 ∷ 3 ∷ 8 ∷ 17 ∷ []) (10 ∷ 8 ∷ 8 ∷ 10 ∷ 7 ∷ 8 ∷ []))
    -- "Undoing fills on number 8": empty rows
    ∷ full (outcome (refused 8 1) (0 ∷ mark ∷ []) (0 ∷ []))
    -- "Undoing fills on number 8": the fills as they were lent
    ∷ full (outcome (refused 8 1) (0 ∷ mark ∷ []) (7777 ∷ []))
    -- the stuck probe raised all the same
    ∷ full (outcome (refused 8 1) (0 ∷ mark ∷ []) (11 ∷ []))
    -- "it and all later ones in planning order get the mark": the stuck probe does not
    ∷ full (outcome (refused 8 1) (0 ∷ 7777 ∷ []) (6 ∷ []))
    -- number 8 has "that probe" as its index: none named
    ∷ full (outcome (refused 8 0) (0 ∷ mark ∷ []) (6 ∷ []))
    -- "fill of row j*h plus p at most w": a row that is exactly full refused
    ∷ even (outcome (refused 8 1) (0 ∷ mark ∷ 7777 ∷ []) (6 ∷ 7777 ∷ []))
    -- "Entries past the table's n probes or H rows are never written": a start is
    ∷ even (outcome done (0 ∷ 6 ∷ mark ∷ []) (10 ∷ 7777 ∷ []))
    -- "Entries past the table's n probes or H rows are never written": a fill is
    ∷ even (outcome done (0 ∷ 6 ∷ 7777 ∷ []) (10 ∷ 0 ∷ []))
    -- "then longer read": the shorter one first
    ∷ even (outcome done (4 ∷ 0 ∷ 7777 ∷ []) (10 ∷ 7777 ∷ []))
    -- the place in planning order named in place of the probe
    ∷ claim (10 ∷ 10 ∷ []) (5 ∷ 6 ∷ []) (7777 ∷ 7777 ∷ []) (7777 ∷ []) (refused 8 0) (6 ∷ []) (outcome (refused 8 1) (mark ∷ 0 ∷ []) (6 ∷ []))
    -- "a result slice is too short": planned all the same
    ∷ claim (10 ∷ 10 ∷ []) (6 ∷ 4 ∷ []) (7777 ∷ []) (7777 ∷ []) (refused 7 0) (7777 ∷ []) (outcome done (0 ∷ []) (10 ∷ []))
    -- "Numbers 1 to 7, 9, 18 and 11 write nothing": the fills cleared
    ∷ claim (10 ∷ []) (11 ∷ []) (7777 ∷ []) (7777 ∷ []) (refused 4 0) (7777 ∷ []) (outcome (refused 4 0) (7777 ∷ []) (0 ∷ []))
    -- "Using the sub-bin number as the slot number", with the right answer and the right fills
    ∷ claim six reads lent lent done (10 ∷ 8 ∷ 8 ∷ 10 ∷ 10 ∷ 7 ∷ []) sub_bins
    ∷ []

abbrev pub Meets : Claim → Outcome → Type 0
Meets c o = Plans c.periods c.lengths c.starts c.fills o

abbrev pub Settled : Claim → Type 0
Settled c = ((o : Outcome) → Meets c o → (o.answer ≡ c.answer) × (o.fills ≡ c.filled)) × (Meets c c.wrong → ⊥)
