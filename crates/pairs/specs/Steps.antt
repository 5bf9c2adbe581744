-- THE STEPS OF A PAIR: what the code's numbers are.
--     lag-is, apart-is, tick-inside ..   d, the condition and the first shared tick, as the code writes them
--     by_first, by-second   of the pair i, j the one with the shorter period goes first
-- Assumes nothing.
use Rattle.std.specs.Prelude.{◌≡◌, false, List, ℕ, ◌+◌, ◌-◌, ◌%◌, ◌≤◌, ◌<◌, leb, get_or}
use Rattle.std.proofs.Common.{sym, mod-eq_of_lt}
use borrow.Author.Tests.{le-leb, lt-leb, lt-ltb, le-ltb}
use Rattle.wire.specs.Meeting.{lag, apart, shared_tick, apart_at, tick_at}
use Rattle.wire.proofs.CleanTest.{at-by-first, at-by-second}
use Rattle.pairs.specs.declared.Probe.{Probe}
use Rattle.pairs.specs.Probes.{probe_at, apart_of, tick_of}

pub lag-is : (T o s : ℕ) → o < T → (s + (T - o)) % T ≡ lag T o s
unfolding lag
lag-is T o s h = rw (mod-eq_of_lt h)

-- the published condition of d, and the four cases of the first shared tick
module _ (a b : Probe) where
  module _ (d : ℕ) (e : d ≡ lag a.period a.start b.start) where
    pub apart-early : d < a.width → false ≡ apart_of a b
    unfolding apart
    apart-early h = rw (← e, lt-leb a.width d h)

    pub apart-is : a.width ≤ d → leb (d + b.width) a.period ≡ apart_of a b
    unfolding apart
    apart-is h = rw (← e, le-leb a.width d h)

    pub tick-inside : a.start ≤ b.start → d < a.width → b.start ≡ tick_of a b
    unfolding shared_tick
    tick-inside l h = rw (← e, le-leb a.start b.start l, lt-ltb d a.width h)

    pub tick-overrun : a.start ≤ b.start → a.width ≤ d → b.start + (a.period - d) ≡ tick_of a b
    unfolding shared_tick
    tick-overrun l h = rw (← e, le-leb a.start b.start l, le-ltb d a.width h)

  pub tick-shorter : b.start < a.start → a.start < b.start + b.width → a.start ≡ tick_of a b
  unfolding shared_tick
  tick-shorter l h = rw (lt-leb a.start b.start l, lt-ltb a.start (b.start + b.width) h)

  pub tick-second : b.start < a.start → b.start + b.width ≤ a.start → b.start + b.period ≡ tick_of a b
  unfolding shared_tick
  tick-second l h = rw (lt-leb a.start b.start l, le-ltb a.start (b.start + b.width) h)

-- the pair i, j of a list by the shorter period
module _ (Ts qs ss : List ℕ) (i j : ℕ) (a b : Probe) (e : a ≡ probe_at Ts qs ss i) (f : b ≡ probe_at Ts qs ss j) where
  pub by_first : a.period ≤ b.period → (apart_of a b ≡ apart_at Ts qs ss i j) × (tick_of a b ≡ tick_at Ts qs ss i j)
  by_first l =
      let m : get_or Ts i 0 ≤ get_or Ts j 0 = rw (e, f) at l in
      let w = at-by-first Ts qs ss i j m in
      (rw (e, f) (sym w.0), rw (e, f) (sym w.1))

  pub by-second : b.period < a.period → (apart_of b a ≡ apart_at Ts qs ss i j) × (tick_of b a ≡ tick_at Ts qs ss i j)
  by-second l =
      let m : get_or Ts j 0 < get_or Ts i 0 = rw (e, f) at l in
      let w = at-by-second Ts qs ss i j m in
      (rw (e, f) (sym w.0), rw (e, f) (sym w.1))
