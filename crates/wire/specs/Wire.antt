-- WHO HOLDS THE WIRE. Document 01, "The line and its words".
--     Holds T q s t            a probe of period T and start s, whose read takes q ticks, holds tick t: "t >= s and the remainder of t - s by T is below" q
--     HoldsAt Ts qs ss i t     probe i of the line holds tick t
--     Busy Ts qs ss t          some probe holds tick t
--     NeverMeet T q s U r u    no tick is held by both of two probes
--     Clean Ts qs ss           "no tick is held by two probes": whoever holds a tick is alone, at every tick there is     (believe this)
--     CleanAmong C Ts qs ss    the same of the probes that C chooses
-- The columns are periods, widths and starts; a read's width is the ticks that it takes on the wire, in the base its length.
-- Edges: a probe holds nothing before its start; s + q may pass T; the empty list is clean.
-- Not said here: that a start lies below its period (probes, specs/Table).
-- Assumes nothing.
use Rattle.std.specs.Prelude.{◌≡◌, List, ℕ, ◌-◌, ◌%◌, ◌≤◌, ◌<◌, length, get_or}

abbrev pub Holds : ℕ → ℕ → ℕ → ℕ → Type 0
Holds T q s t = (s ≤ t) × ((t - s) % T < q)

abbrev pub NeverMeet : ℕ → ℕ → ℕ → ℕ → ℕ → ℕ → Type 0
NeverMeet T q s U r u = (t : ℕ) → Holds T q s t → Holds U r u t → ⊥

abbrev pub HoldsAt : List ℕ → List ℕ → List ℕ → ℕ → ℕ → Type 0
HoldsAt Ts qs ss i t = Holds (get_or Ts i 0) (get_or qs i 0) (get_or ss i 0) t

abbrev pub Busy : List ℕ → List ℕ → List ℕ → ℕ → Type 0
Busy Ts qs ss t = (i : ℕ) × (i < length Ts) × HoldsAt Ts qs ss i t

abbrev pub CleanAmong : (ℕ → Type 0) → List ℕ → List ℕ → List ℕ → Type 0
CleanAmong C Ts qs ss =
    (t i j : ℕ) → i < length Ts → j < length Ts → C i → C j → HoldsAt Ts qs ss i t → HoldsAt Ts qs ss j t → i ≡ j

abbrev pub Clean : List ℕ → List ℕ → List ℕ → Type 0
Clean Ts qs ss = (t i j : ℕ) → i < length Ts → j < length Ts → HoldsAt Ts qs ss i t → HoldsAt Ts qs ss j t → i ≡ j
