-- THE VERDICT OF AN UNMOVED LIST. Document 01, "Shortcuts that look right": "Judging a foreign list by rectangles without moving it to o: period 10, length 5, start 8 alone is clean,
-- though its rectangle pokes out."
--     Unmoved                   the sentence of the shortcut: the rectangles of the list as it stands, all inside the width and none overlapping, exactly when the list is clean
--     unmoved-shut-out          it is false
--     pokes-out                 the list of 01 is clean, and its rectangle is not inside
-- Assumes nothing.
use Rattle.std.specs.Prelude.{refl, ◌↔◌, List, [], ◌∷◌, ℕ, ◌≤◌, ◌<◌}
use Rattle.std.proofs.Common.{arith}
use Rattle.lists.specs.Pick.{any_below}
use Rattle.lists.specs.Lowest.{lowest, lowest_from}
use Rattle.lists.specs.Answering.{first_of}
use Rattle.wire.specs.Wire.{Clean}
use Rattle.probes.specs.Table.{least_of, greatest_of, shortest, longest, rows}
use Rattle.probes.specs.Verdict.{divides, chained, bad_period, bad_length, unchained, late, findings, list_findings}
use Rattle.probes.specs.Composing.{list_verdict}
use Rattle.chain.specs.Corners.{corner_x}
use Rattle.stack.specs.Packing.{Inside, NoOverlap}
use Rattle.meetings.specs.Passing.{Passes, zero-passes}

abbrev pub Unmoved : Type 0
Unmoved = (Ts ps ss : List ℕ) → Passes Ts ps ss → (Inside Ts ps ss × NoOverlap Ts ps ss) ↔ Clean Ts ps ss

-- one probe alone is clean
pub pokes-out : Passes (10 ∷ []) (5 ∷ []) (8 ∷ []) × Clean (10 ∷ []) (5 ∷ []) (8 ∷ []) × (Inside (10 ∷ []) (5 ∷ []) (8 ∷ []) → ⊥)
unfolding any_below lowest lowest_from first_of least_of greatest_of shortest longest rows divides chained bad_period bad_length unchained late findings list_findings list_verdict corner_x
pokes-out = (
  zero-passes (10 ∷ []) (5 ∷ []) (8 ∷ []) (list_verdict (10 ∷ []) (5 ∷ []) (8 ∷ [])) refl refl,
  (λ t i j hi hj a b. omega arith),
  λ inside.
      let first : 0 < 1 = omega arith in
      let over : 13 ≤ 10 = inside 0 first in
      omega arith,
)

pub unmoved-shut-out : Unmoved → ⊥
unmoved-shut-out u =
    let (passes, clean, out) = pokes-out in
    out ((u (10 ∷ []) (5 ∷ []) (8 ∷ []) passes).1 clean).0
