-- THE TEST OF A LINE SAYS WHETHER IT IS CLEAN. Document 01, "The line and its words" (clean), "Meeting on the wire" and number 10.
--     NeverMeetAt Ts qs ss i j   probes i and j of the line share no tick
--     FirstSharedAt .. i j t     t is the first tick that they share
-- Edges: the empty line is clean and passes. The test asks nothing of the starts; only the tick asks that they lie below their periods.
-- Assumes nothing.
use Rattle.std.specs.Prelude.{List, get_or}
use Prim.Native.Nat.{ℕ}
use Rattle.wire.specs.Wire.{NeverMeet}
use Rattle.wire.specs.FirstShared.{FirstShared}

abbrev pub NeverMeetAt : List ℕ → List ℕ → List ℕ → ℕ → ℕ → Type 0
NeverMeetAt Ts qs ss i j = NeverMeet (get_or Ts i 0) (get_or qs i 0) (get_or ss i 0) (get_or Ts j 0) (get_or qs j 0) (get_or ss j 0)

abbrev pub FirstSharedAt : List ℕ → List ℕ → List ℕ → ℕ → ℕ → ℕ → Type 0
FirstSharedAt Ts qs ss i j t = FirstShared (get_or Ts i 0) (get_or qs i 0) (get_or ss i 0) (get_or Ts j 0) (get_or qs j 0) (get_or ss j 0) t
