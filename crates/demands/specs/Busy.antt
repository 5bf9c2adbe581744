-- BUSY TICKS, COUNTED. The customer's demand 3, second sentence: what its busy ticks of one longest period are.
--     busy-counted          whatever the starts, of any M ticks in a row from all of them on, the probes' ticks add up to busy_ticks
-- Edges: a tick that two probes hold counts twice; in a clean list there is none.
-- Assumes nothing.
use Rattle.std.specs.Prelude.{◌≡◌, List, ℕ, ◌*◌, ◌≤◌, ◌<◌, length, get_or}
use Rattle.std.proofs.Common.{sym, ap, ◌∙◌, mul_comm, arith}
use Rattle.lists.specs.Sums.{sum_below, sum_below-same}
use Rattle.wire.specs.Window.{held_in}
use Rattle.wire.proofs.Windows.{windows}
use Rattle.probes.specs.Table.{Sound, longest, height}
use Rattle.probes.proofs.Laws.{sound-gives}
use Rattle.probes.specs.Extremes.{shortest-least}
use Rattle.probes.specs.Heights.{height-times}
use Rattle.stack.specs.Room.{busy_ticks}
use Rattle.stack.specs.Planning.{busy-sum}

pub busy-counted : (Ts ps ss : List ℕ) → Sound Ts ps → (a : ℕ) → ((i : ℕ) → i < length Ts → get_or ss i 0 ≤ a)
    → sum_below (λ i. held_in (get_or Ts i 0) (get_or ps i 0) (get_or ss i 0) a (longest Ts)) (length Ts) ≡ busy_ticks Ts ps
busy-counted Ts ps ss sound a from = sum_below-same _ _ (length Ts) each ∙ sym (busy-sum Ts ps (sound-gives Ts ps sound).same)
  where
    each : (i : ℕ) → i < length Ts → held_in (get_or Ts i 0) (get_or ps i 0) (get_or ss i 0) a (longest Ts) ≡ get_or ps i 0 * height Ts (get_or Ts i 0)
    each i h =
        let s = sound-gives Ts ps sound in
        let short : get_or ps i 0 ≤ get_or Ts i 0 = omega (arith, s.short i h, shortest-least Ts i h) in
        ap (held_in (get_or Ts i 0) (get_or ps i 0) (get_or ss i 0) a) (sym (height-times Ts s.harmonic i h) ∙ mul_comm (height Ts (get_or Ts i 0)) (get_or Ts i 0))
        ∙ windows _ _ _ short (height Ts (get_or Ts i 0)) a (from i h)
