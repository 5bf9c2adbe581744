-- ONE PROBE OF A LIST THAT PASSES 1 TO 6 AND 9.
--     InRange Ts ps ss i        what passing says of probe i
--     Listed Ts ps ss           what it says of the columns, and so of each probe
-- Assumes nothing.
use Rattle.std.specs.Prelude.{◌≡◌, List, ℕ, ◌≤◌, ◌<◌, length, get_or}
use Rattle.std.proofs.Common.{arith}
use Rattle.probes.specs.Table.{most_probes, most_period}
use Rattle.probes.proofs.Laws.{sound-gives}
use Rattle.probes.specs.Extremes.{shortest-least}
use Rattle.probes.specs.Passed.{Passes}
use Rattle.probes.proofs.Passed.{below_of}

module _ (Ts ps ss : List ℕ) where
  pub record InRange (i : ℕ) : Type 0 where
    pub least : 0 < get_or Ts i 0
    pub most : get_or Ts i 0 ≤ most_period
    pub reads : 0 < get_or ps i 0
    pub short : get_or ps i 0 ≤ get_or Ts i 0
    pub begins : get_or ss i 0 < get_or Ts i 0

  pub passes-gives : Passes Ts ps ss → (i : ℕ) → i < length Ts → InRange i
  passes-gives p i h =
      let s = sound-gives Ts ps p.sound in
      record {
        least = s.least i h;
        most = s.most i h;
        reads = s.reads i h;
        short = omega (arith, s.short i h, shortest-least Ts i h);
        begins = below_of Ts ss p.below i h;
      }

  pub record Listed : Type 0 where
    pub few : length Ts ≤ most_probes
    pub lengths : length Ts ≡ length ps
    pub starts : length Ts ≡ length ss
    pub each : (i : ℕ) → i < length Ts → InRange i

  pub passes-listed : Passes Ts ps ss → Listed
  passes-listed p =
      let s = sound-gives Ts ps p.sound in
      record { few = s.few; lengths = s.same; starts = p.same; each = passes-gives p }
