-- FIRST FIT. Document 01, "First fit": "For each probe take the lowest sub-bin j, from 0, with fill of row j*h plus p at most w. The probe gets x = that fill, y = j*h, and its start."
-- "Number 8 stops at the first probe with no such j: starts of probes already placed are written, it and all later ones in planning order get the mark 4,294,967,295, and the H
-- fills are as they then stand."
--     Outcome               an answer, and the two lent columns afterwards: starts and fills
--     marked is ss          the starts with the mark at each probe of is
--     fitted Ts qs is ss rows   the probes is, in planning order, put one after another into the rows
--     plan_lines Ts ps ss fs     the lines 1 to 7 of the planner: n starts and H fills must fit the lent columns
--     planned Ts ps ss fs   what the planner does to any table and any lent columns
-- Edges: entries of the columns past n and past H stay; a refusal by 1 to 7 changes nothing; the empty table is done at once.
-- Assumes nothing.
use Rattle.std.specs.Prelude.{◌⊎◌, not, List, [], ◌∷◌, ◌++◌, ℕ, ◌+◌, ◌*◌, ◌<◌, ltb, eqb, length, get_or, set, drop, replicate}
use Rattle.lists.specs.Pick.{pick, either}
use Rattle.lists.specs.Refusals.{Line, whole}
use Rattle.lists.specs.Answering.{Found, tested, first_of}
use Rattle.words.specs.declared.Answer.{Answer}
use Rattle.words.specs.Answers.{refused, done, mark}
use Rattle.probes.specs.Table.{shortest, rows, height, widths, lines, Differ}
use Rattle.probes.specs.Verdict.{findings}
use Rattle.chain.specs.Corners.{start_of}
use Rattle.order.specs.Order.{order}
use Rattle.stack.specs.Stack.{raised, bins, lowest_bin}

pub record Outcome : Type 0 where
  pub answer : Answer
  pub starts : List ℕ
  pub fills : List ℕ

abbrev pub outcome : Answer → List ℕ → List ℕ → Outcome
outcome a ss fs = record { answer = a; starts = ss; fills = fs }

unfoldable pub marked : List ℕ → List ℕ → List ℕ
marked [] ss = ss
marked (i ∷ is) ss = marked is (set ss i mark)

module _ (Ts qs : List ℕ) where
  -- the sub-bin of probe i, and of its start in sub-bin j
  unfoldable pub bin_of : ℕ → List ℕ → ℕ
  bin_of i fs = lowest_bin fs (height Ts (get_or Ts i 0)) (get_or qs i 0) (shortest Ts)

  unfoldable pub start_in : ℕ → List ℕ → ℕ → ℕ
  start_in i fs j = start_of Ts (get_or Ts i 0) (get_or fs (j * height Ts (get_or Ts i 0)) 0) (j * height Ts (get_or Ts i 0))

  unfoldable pub fitted : List ℕ → List ℕ → List ℕ → Outcome
  fitted [] ss fs = outcome done ss fs
  fitted (i ∷ is) ss fs =
      pick (ltb (bin_of i fs) (bins fs (height Ts (get_or Ts i 0))))
      (fitted is (set ss i (start_in i fs (bin_of i fs))) (raised fs (bin_of i fs * height Ts (get_or Ts i 0)) (height Ts (get_or Ts i 0)) (get_or qs i 0)))
      (outcome (refused 8 i) (marked (i ∷ is) ss) fs)

module _ (Ts ps ss fs : List ℕ) where
  -- 7: "a result slice is too short"
  abbrev pub TooShort : Type 0
  TooShort = (length ss < length Ts) ⊎ (length fs < rows Ts)

  abbrev pub plan_lines : List Line
  plan_lines = lines Ts ps (Differ Ts ps) ++ (whole 7 TooShort ∷ [])

  unfoldable pub plan_findings : List Found
  plan_findings =
      findings (not (eqb (length Ts) (length ps))) Ts ps
      ++ (tested 7 (either (ltb (length ss) (length Ts)) (ltb (length fs) (rows Ts))) ∷ [])

  -- a refusal leaves both columns as they were
  abbrev pub refused_plan : ℕ → ℕ → Outcome
  refused_plan k i = outcome (refused k i) ss fs

  -- the probes in planning order, over H empty rows; the fills past H stay
  unfoldable pub placed : Outcome
  placed =
      let o : Outcome = fitted Ts (widths 0 ps) (order Ts ps) ss (replicate (rows Ts) 0) in
      outcome o.answer o.starts (o.fills ++ drop (rows Ts) fs)

  unfoldable pub planned : Outcome
  planned = first_of plan_findings refused_plan placed
