-- What follows from the definitions of specs/Meeting.
--     clean-published           a list over a sound table is clean exactly when it is so
--     answer-clean              where each start lies below its period, the checker's answer is 0 exactly when the list is clean
-- Assumes nothing.
use Rattle.std.specs.Prelude.{◌≡◌, ◌↔◌, ◌≢◌, List, ℕ, ◌-◌, ◌≤◌, ◌<◌, length, get_or}
use Rattle.std.proofs.Common.{sym, arith}
use Rattle.std.proofs.Math.Decide.{dec_le, ℕ_discrete}
use Rattle.words.specs.declared.Answer.{Answer}
use Rattle.words.specs.Answers.{done}
use Rattle.wire.specs.Wire.{Clean}
use Rattle.wire.specs.Meeting.{Apart}
use Rattle.wire.proofs.Apartness.{apart-sound, apart-complete, apart-as-printed}
use Rattle.probes.specs.Table.{Sound}
use Rattle.probes.specs.Laws.{Soundness}
use Rattle.probes.proofs.Laws.{sound-gives}
use Rattle.probes.specs.Extremes.{shortest-least}
use Rattle.meetings.specs.Check.{Checks}
use Rattle.meetings.specs.Passing.{Passes}
use Rattle.meetings.proofs.Promises.{check_sound, check-complete}
use Rattle.demands.specs.Meeting.{Published}

module _ (Ts ps ss : List ℕ) where
  module _ (sound : Sound Ts ps) where
    gives : Soundness Ts ps
    gives = sound-gives Ts ps sound

    -- a read of any probe fits a period of any other
    short : (i j : ℕ) → i < length Ts → j < length Ts → get_or ps j 0 ≤ get_or Ts i 0
    short i j hi hj = omega (arith, gives.short j hj, shortest-least Ts i hi)

    clean-then : Clean Ts ps ss → Published Ts ps ss
    clean-then c i j hi hj n l =
        (apart-as-printed _ _ _ (get_or Ts j 0) _ _ (short i j hi hj)).0
        (apart-complete _ _ _ _ _ _ (gives.harmonic.divides i j hi hj l) (gives.least j hj) (gives.reads i hi) (gives.reads j hj) (λ t a b. n (c t i j hi hj a b)))

    then-clean : Published Ts ps ss → Clean Ts ps ss
    then-clean p t i j hi hj a b = by (ℕ_discrete i j)
      where
        meet : (i j : ℕ) → i < length Ts → j < length Ts → i ≢ j → get_or Ts i 0 ≤ get_or Ts j 0 → Apart (get_or Ts i 0) (get_or ps i 0) (get_or ss i 0) (get_or Ts j 0) (get_or ps j 0) (get_or ss j 0)
        meet i j hi hj n l = (apart-as-printed _ _ _ (get_or Ts j 0) _ _ (short i j hi hj)).1 (p i j hi hj n l)

        by_order : i ≢ j → Dec (get_or Ts i 0 ≤ get_or Ts j 0) → i ≡ j
        by_order n (yes l) = absurd (apart-sound _ _ _ _ _ _ (gives.harmonic.divides i j hi hj l) (gives.least j hj) (meet i j hi hj n l) t a b)
        by_order n (no l) =
            let m : get_or Ts j 0 ≤ get_or Ts i 0 = omega arith in
            absurd (apart-sound _ _ _ _ _ _ (gives.harmonic.divides j i hj hi m) (gives.least i hi) (meet j i hj hi (λ e. n (sym e)) m) t b a)

        by : Dec (i ≡ j) → i ≡ j
        by (yes e) = e
        by (no n) = by_order n (dec_le (get_or Ts i 0) (get_or Ts j 0))

    pub clean-published : Clean Ts ps ss ↔ Published Ts ps ss
    clean-published = (clean-then, then-clean)

    module _ (same : length Ts ≡ length ss) (below : (i : ℕ) → i < length Ts → get_or ss i 0 < get_or Ts i 0) where
      passes : Passes Ts ps ss
      passes = record { sound = sound; below = λ i h l. absurd (omega (arith, below i h)); same = same }

      pub answer-clean : (a : Answer) → Checks Ts ps ss a → (a ≡ done) ↔ Clean Ts ps ss
      answer-clean a c = (λ e. (check_sound Ts ps ss (rw e at c)).1, λ k. check-complete Ts ps ss a passes k c)
