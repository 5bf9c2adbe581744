-- THE CHECKER. Document 01, "Meeting on the wire": "Number 10 names the pair with least first number, then least second, and that pair's first shared tick."
--     Meets Ts qs ss i j t     probes i < j meet, tick t is their first shared tick, and no pair that comes before meets at all   (believe this)
--     Judged Ts qs ss a        of a sound list: 0 where it is clean over every tick there is, else 10 with the pair and the tick  (believe this)
--     Checks Ts ps ss a        the promise: 1 to 6 and 9 in order, and where none applies, Judged
--     partner, opener          the pair as the code finds it: the least second number of i, the least first number that has one
--     meeting_of Ts qs ss       the answer of a sound list, computed by the published condition
--     checked Ts ps ss         the answer of any list, computed
-- Edges: the first shared tick need not be the earliest of all meetings; index is below second index, whatever the periods.
-- Assumes nothing.
use Rattle.std.specs.Prelude.{◌≡◌, ◌⊎◌, Bool, not, List, ℕ, ◌<◌, ltb, length}
use Rattle.lists.specs.Pick.{pick, both}
use Rattle.lists.specs.Lowest.{lowest}
use Rattle.lists.specs.Refusals.{First}
use Rattle.lists.specs.Answering.{first_of}
use Rattle.words.specs.declared.Answer.{Answer}
use Rattle.words.specs.Answers.{refused, done, pair}
use Rattle.wire.specs.Wire.{Clean}
use Rattle.wire.specs.Meeting.{apart_at, tick_at}
use Rattle.wire.specs.CleanTest.{NeverMeetAt, FirstSharedAt}
use Rattle.probes.specs.Table.{widths, list_lines}
use Rattle.probes.specs.Verdict.{list_findings}

module _ (Ts qs ss : List ℕ) where
  pub record Meets (i j t : ℕ) : Type 0 where
    pub ordered : i < j
    pub probes : j < length Ts
    pub shared : FirstSharedAt Ts qs ss i j t
    pub before : (k l : ℕ) → k < l → l < length Ts → (k < i) ⊎ ((k ≡ i) × (l < j)) → NeverMeetAt Ts qs ss k l

  unfoldable pub Judged : Answer → Type 0
  Judged a = (Clean Ts qs ss × (a ≡ done)) ⊎ ((i : ℕ) × (j : ℕ) × (t : ℕ) × Meets i j t × (a ≡ pair 10 i j t))

  -- probe j is above i, and i meets it
  abbrev pub meets_above : ℕ → ℕ → Bool
  meets_above i j = both (ltb i j) (not (apart_at Ts qs ss i j))

  -- the least probe above i that i meets; the number of probes where there is none
  unfoldable pub partner : ℕ → ℕ
  partner i = lowest (λ j. both (ltb i j) (not (apart_at Ts qs ss i j))) (length Ts)

  unfoldable pub opener : ℕ
  opener = lowest (λ i. ltb (partner i) (length Ts)) (length Ts)

  unfoldable pub meeting_of : Answer
  meeting_of = pick (ltb opener (length Ts)) (pair 10 opener (partner opener) (tick_at Ts qs ss opener (partner opener))) done

unfoldable pub Checks : List ℕ → List ℕ → List ℕ → Answer → Type 0
Checks Ts ps ss a = First (list_lines Ts ps ss) refused (Judged Ts (widths 0 ps) ss) a

unfoldable pub checked : List ℕ → List ℕ → List ℕ → Answer
checked Ts ps ss = first_of (list_findings Ts ps ss) refused (meeting_of Ts (widths 0 ps) ss)
