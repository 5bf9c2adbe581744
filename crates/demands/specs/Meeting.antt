-- PASSING IS BEING CLEAN, AND BEING CLEAN IS THE PUBLISHED CONDITION. Document 01, "Meeting on the wire"; document 004, Lemma 1.
--     Published Ts ps ss        of any two probes, i the one of the shorter period: "p_i <= d <= T_i - p_j", where d is "the remainder of s_j - s_i by T_i"
-- Assumes nothing.
use Rattle.std.specs.Prelude.{◌≢◌, List, ℕ, ◌-◌, ◌≤◌, ◌<◌, length, get_or}
use Rattle.wire.specs.Meeting.{lag}

module _ (Ts ps ss : List ℕ) where
  abbrev pub Published : Type 0
  Published =
      (i j : ℕ) → i < length Ts → j < length Ts → i ≢ j → get_or Ts i 0 ≤ get_or Ts j 0
      → (get_or ps i 0 ≤ lag (get_or Ts i 0) (get_or ss i 0) (get_or ss j 0)) × (lag (get_or Ts i 0) (get_or ss i 0) (get_or ss j 0) ≤ get_or Ts i 0 - get_or ps j 0)
