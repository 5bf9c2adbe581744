-- What follows from the definitions of specs/CleanTest.
--     clean-pairs                clean is: no two probes i < j ever meet
--     apart_by, tick_by .. i j     the test and the tick with d taken by the period of i; at-by-first, at-by-second: the shorter period's are the pair's
--     apart-at-tells             the test of a pair says whether the two never meet
--     clean-tells                the test of every pair says whether the line is clean
--     tick-at-first              of a pair that fails the test, tick_at is the first shared tick
--     tick-at-bound              with the longer period and the longer read it is at most their sum less 2
--     clean-among-every          clean among all is clean
--     clean-among-less           a clean line is clean among any of its probes
-- Assumes nothing.
use Rattle.std.specs.Prelude.{◌≡◌, ◌↔◌, Bool, false, List, length, get_or}
use Prim.Native.Nat.{ℕ, zero, suc, ◌+◌, ◌≤◌, ◌<◌, max}
use Rattle.std.proofs.Common.{le_of_lt, arith}
use Rattle.std.proofs.Math.Decide.{dec_le, dec_lt}
use borrow.Author.Tests.{le-leb, lt-leb}
use Rattle.lists.specs.Pick.{Tells}
use Rattle.lists.specs.Harmonic.{Harmonic, Positive}
use Rattle.lists.specs.Telling.{tells_as, tells_both, tells-yes}
use Rattle.wire.specs.Wire.{Clean, CleanAmong}
use Rattle.wire.specs.Meeting.{apart, shared_tick, apart_at, tick_at, apart_below, clean_below, clean}
use Rattle.wire.proofs.Apartness.{apart-tells, meet-tells, never-meet-swap}
use Rattle.wire.proofs.FirstShared.{first-shared-swap, shared-tick-first, shared-tick-bound}
use Rattle.wire.specs.CleanTest.{NeverMeetAt, FirstSharedAt}

-- below n, and at n
one_more : (P : ℕ → Type 0) (n : ℕ) → P n → ((k : ℕ) → k < n → P k) → (k : ℕ) → k < suc n → P k
one_more P n p f k h = by (dec_lt k n)
  where
    by : Dec (k < n) → P k
    by (yes l) = f k l
    by (no l) =
        let same : k ≡ n = omega arith in
        rw same p

module _ (Ts qs ss : List ℕ) where
  pub clean-pairs : Clean Ts qs ss ↔ ((i j : ℕ) → i < j → j < length Ts → NeverMeetAt Ts qs ss i j)
  clean-pairs = (apart_of, alone)
    where
      apart_of : Clean Ts qs ss → (i j : ℕ) → i < j → j < length Ts → NeverMeetAt Ts qs ss i j
      apart_of c i j l h t a b =
          let e = c t i j (omega arith) h a b in
          omega arith

      alone : ((i j : ℕ) → i < j → j < length Ts → NeverMeetAt Ts qs ss i j) → Clean Ts qs ss
      alone n t i j hi hj a b = by (dec_lt i j) (dec_lt j i)
        where
          by : Dec (i < j) → Dec (j < i) → i ≡ j
          by (yes l) m = absurd (n i j l hj t a b)
          by (no l) (yes m) = absurd (n j i m hi t b a)
          by (no l) (no m) = omega arith

  pub clean-among-every : CleanAmong (λ i. Unit {0}) Ts qs ss ↔ Clean Ts qs ss
  clean-among-every = (λ c t i j hi hj a b. c t i j hi hj tt tt a b, λ c t i j hi hj x y a b. c t i j hi hj a b)

  pub clean-among-less : (C : ℕ → Type 0) → Clean Ts qs ss → CleanAmong C Ts qs ss
  clean-among-less C c t i j hi hj x y a b = c t i j hi hj a b

  abbrev pub apart_by : ℕ → ℕ → Bool
  apart_by i j = apart (get_or Ts i 0) (get_or qs i 0) (get_or ss i 0) (get_or Ts j 0) (get_or qs j 0) (get_or ss j 0)

  abbrev pub tick_by : ℕ → ℕ → ℕ
  tick_by i j = shared_tick (get_or Ts i 0) (get_or qs i 0) (get_or ss i 0) (get_or Ts j 0) (get_or qs j 0) (get_or ss j 0)

  pub at-by-first : (i j : ℕ) → get_or Ts i 0 ≤ get_or Ts j 0 → (apart_at Ts qs ss i j ≡ apart_by i j) × (tick_at Ts qs ss i j ≡ tick_by i j)
  unfolding apart_at tick_at
  at-by-first i j l =
      let e = le-leb (get_or Ts i 0) (get_or Ts j 0) l in
      (rw e, rw e)

  pub at-by-second : (i j : ℕ) → get_or Ts j 0 < get_or Ts i 0 → (apart_at Ts qs ss i j ≡ apart_by j i) × (tick_at Ts qs ss i j ≡ tick_by j i)
  unfolding apart_at tick_at
  at-by-second i j l =
      let e = lt-leb (get_or Ts i 0) (get_or Ts j 0) l in
      (rw e, rw e)

  -- what holds of both orders holds of the pair
  ordered : (P : Bool → ℕ → Type 0) (i j : ℕ)
      → (get_or Ts i 0 ≤ get_or Ts j 0 → P (apart_by i j) (tick_by i j))
      → (get_or Ts j 0 ≤ get_or Ts i 0 → P (apart_by j i) (tick_by j i))
      → P (apart_at Ts qs ss i j) (tick_at Ts qs ss i j)
  ordered P i j f g = by (dec_le (get_or Ts i 0) (get_or Ts j 0))
    where
      by : Dec (get_or Ts i 0 ≤ get_or Ts j 0) → P (apart_at Ts qs ss i j) (tick_at Ts qs ss i j)
      by (yes l) = rw ((at-by-first i j l).0, (at-by-first i j l).1) (f l)
      by (no l) =
          let m : get_or Ts j 0 < get_or Ts i 0 = omega arith in
          rw ((at-by-second i j m).0, (at-by-second i j m).1) (g (le_of_lt m))

  module _ (har : Harmonic Ts) (pos : Positive qs (length Ts)) where
    by_tells : (i j : ℕ) → i < length Ts → j < length Ts → get_or Ts i 0 ≤ get_or Ts j 0 → Tells (apart_by i j) (NeverMeetAt Ts qs ss i j)
    by_tells i j hi hj l = meet-tells _ _ _ _ _ _ (har.divides i j hi hj l) (har.positive j hj) (pos i hi) (pos j hj)

    pub apart-at-tells : (i j : ℕ) → i < length Ts → j < length Ts → Tells (apart_at Ts qs ss i j) (NeverMeetAt Ts qs ss i j)
    apart-at-tells i j hi hj =
        ordered (λ b t. Tells b (NeverMeetAt Ts qs ss i j)) i j
        (by_tells i j hi hj)
        (λ l. tells_as (apart_by j i) (by_tells j i hj hi l) (never-meet-swap _ _ _ _ _ _) (never-meet-swap _ _ _ _ _ _))

    below-tells : (j i : ℕ) → i ≤ j → j < length Ts → Tells (apart_below Ts qs ss j i) ((k : ℕ) → k < i → NeverMeetAt Ts qs ss k j)
    unfolding apart_below
    below-tells j zero l h = tells-yes (λ k z. absurd (omega arith))
    below-tells j (suc i) l h =
        tells_as _ (tells_both _ _ (apart-at-tells i j (omega arith) h) (below-tells j i (omega arith) h))
        (λ n. one_more (λ k. NeverMeetAt Ts qs ss k j) i n.0 n.1)
        (λ n. (n i (omega arith), λ k z. n k (omega arith)))

    pairs-tell : (n : ℕ) → n ≤ length Ts → Tells (clean_below Ts qs ss n) ((i j : ℕ) → i < j → j < n → NeverMeetAt Ts qs ss i j)
    unfolding clean_below
    pairs-tell zero l = tells-yes (λ i j k z. absurd (omega arith))
    pairs-tell (suc m) l =
        tells_as _ (tells_both _ _ (below-tells m _ (omega arith) l) (pairs-tell m (omega arith)))
        (λ n i j k z. one_more (λ x. (y : ℕ) → y < x → NeverMeetAt Ts qs ss y x) m (λ y b. n.0 y (omega arith)) (λ x a y b. n.1 y x b a) j z i k)
        (λ n. (λ k z. n k m z (omega arith), λ i j k z. n i j k (omega arith)))

    pub clean-tells : Tells (clean Ts qs ss) (Clean Ts qs ss)
    unfolding clean
    clean-tells = tells_as _ (pairs-tell (length Ts) (omega arith)) clean-pairs.1 clean-pairs.0

    -- the tick of two probes, i the one of the shorter period
    module _ (i j : ℕ) (hi : i < length Ts) (hj : j < length Ts) (li : get_or ss i 0 < get_or Ts i 0) (lj : get_or ss j 0 < get_or Ts j 0) where
      tick-first : get_or Ts i 0 ≤ get_or Ts j 0 → apart_by i j ≡ false → FirstSharedAt Ts qs ss i j (tick_by i j)
      tick-first l e =
          shared-tick-first _ _ _ _ _ _ (har.divides i j hi hj l) (har.positive j hj) li (pos i hi) ((apart-tells _ _ _ _ _ _).no e) (pos j hj)

      tick-bound : get_or Ts i 0 ≤ get_or Ts j 0 → apart_by i j ≡ false → tick_by i j + 2 ≤ get_or Ts j 0 + max (get_or qs i 0) (get_or qs j 0)
      tick-bound l e =
          shared-tick-bound _ _ _ _ _ _ (har.divides i j hi hj l) (har.positive j hj) li (pos i hi) ((apart-tells _ _ _ _ _ _).no e) lj

    module _ (i j : ℕ) (hi : i < length Ts) (hj : j < length Ts) (li : get_or ss i 0 < get_or Ts i 0) (lj : get_or ss j 0 < get_or Ts j 0) where
      pub tick-at-first : apart_at Ts qs ss i j ≡ false → FirstSharedAt Ts qs ss i j (tick_at Ts qs ss i j)
      tick-at-first =
          ordered (λ b t. b ≡ false → FirstSharedAt Ts qs ss i j t) i j
          (tick-first i j hi hj li lj)
          (λ l e. first-shared-swap _ _ _ _ _ _ _ (tick-first j i hj hi lj li l e))

      pub tick-at-bound : apart_at Ts qs ss i j ≡ false
          → tick_at Ts qs ss i j + 2 ≤ max (get_or Ts i 0) (get_or Ts j 0) + max (get_or qs i 0) (get_or qs j 0)
      tick-at-bound =
          ordered (λ b t. b ≡ false → t + 2 ≤ max (get_or Ts i 0) (get_or Ts j 0) + max (get_or qs i 0) (get_or qs j 0)) i j
          (λ l e. omega (arith, tick-bound i j hi hj li lj l e))
          (λ l e. omega (arith, tick-bound j i hj hi lj li l e))
