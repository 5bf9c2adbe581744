-- ONE PROBE OF A LIST, as the code carries it.
--     probe_at Ts qs ss i    period, width and start of probe i
--     Ordered a b           what the code asks of two probes: the first has the shorter period, or both have one; each start lies below its period
--     apart_of, tick_of a b   the published condition and the first shared tick of two probes
--     range-ordered         two probes in range are ordered by their periods
--     passes-ordered        two probes of a list that passes 1 to 6 and 9 are ordered by their periods
-- Assumes nothing.
use Rattle.std.specs.Prelude.{◌≡◌, Bool, List, ℕ, ◌≤◌, ◌<◌, length, get_or}
use Rattle.wire.specs.Meeting.{apart, shared_tick}
use Rattle.probes.specs.Table.{most_period}
use Rattle.probes.specs.Passed.{Passes}
use Rattle.pairs.specs.declared.Probe.{Probe}
use Rattle.pairs.specs.Range.{InRange, passes-gives}

abbrev pub probe_at : List ℕ → List ℕ → List ℕ → ℕ → Probe
probe_at Ts qs ss i = record { period = get_or Ts i 0; width = get_or qs i 0; start = get_or ss i 0 }

pub record Ordered (a b : Probe) : Type 0 where
  pub begins : a.start < a.period
  pub shorter : a.period ≤ b.period
  pub most : b.period ≤ most_period
  pub short : b.width ≤ b.period
  pub later : b.start < b.period

abbrev pub apart_of : Probe → Probe → Bool
apart_of a b = apart a.period a.width a.start b.period b.width b.start

abbrev pub tick_of : Probe → Probe → ℕ
tick_of a b = shared_tick a.period a.width a.start b.period b.width b.start

pub range-ordered : (Ts ps ss : List ℕ) (i j : ℕ) (a b : Probe) → a ≡ probe_at Ts ps ss i → b ≡ probe_at Ts ps ss j → InRange Ts ps ss i → InRange Ts ps ss j
    → a.period ≤ b.period → Ordered a b
range-ordered Ts ps ss i j a b e f x y l = rw (e, f) (record { begins = x.begins; shorter = rw (e, f) at l; most = y.most; short = y.short; later = y.begins })

pub passes-ordered : (Ts ps ss : List ℕ) (i j : ℕ) (a b : Probe) → a ≡ probe_at Ts ps ss i → b ≡ probe_at Ts ps ss j → Passes Ts ps ss
    → i < length Ts → j < length Ts → a.period ≤ b.period → Ordered a b
passes-ordered Ts ps ss i j a b e f p h k l = range-ordered Ts ps ss i j a b e f (passes-gives Ts ps ss p i h) (passes-gives Ts ps ss p j k) l
