-- THE PUBLISHED CONDITION IS THE MEANING OVER TICKS. Document 01, "Meeting on the wire"; document 004, Lemma 1.
--     apart-sound        the condition gives: no tick is held by both
--     apart-complete     no tick is held by both gives the condition
--     apart-tells        the test says whether the condition holds
--     meet-tells         so the test says whether the two never meet
--     apart-as-printed   the condition in the words of the document, d <= T_i - p_j
--     never-meet-swap    which of the two is named first does not matter
-- Edges: starts may be any numbers, also at or past their periods, and widths may pass their periods. A probe of width 0 holds nothing, so only
-- completeness asks for widths of at least 1.
-- Assumes nothing.
use Rattle.std.specs.Prelude.{◌≡◌, ◌↔◌, ℕ, ◌+◌, ◌-◌, ◌*◌, ◌%◌, ◌≤◌, ◌<◌}
use Rattle.std.proofs.Common.{ap, ◌∙◌, add-zero, le-mul_of_pos_right, mod-eq_of_lt, arith}
use Rattle.std.specs.Int.{◌∣◌}
use Rattle.std.proofs.Math.Nat.{add-sub_cancel_left, le_of_dvd, mod_self, mul-add-mod_self_right, pos_of_dvd_of_pos}
use Rattle.std.proofs.Math.Decide.{dec_le}
use Rattle.lists.specs.Pick.{Tells}
use Rattle.lists.specs.Telling.{tells_as, tells_both, tells-le}
use Rattle.wire.specs.Wire.{NeverMeet}
use Rattle.wire.specs.Meeting.{lag, Apart, apart}
use Rattle.wire.proofs.Lag.{lag-lt, seen}

pub never-meet-swap : (T q s U r u : ℕ) → NeverMeet T q s U r u → NeverMeet U r u T q s
never-meet-swap T q s U r u n t a b = n t b a

pub apart-as-printed : (T q s U r u : ℕ) → r ≤ T → Apart T q s U r u ↔ ((q ≤ lag T s u) × (lag T s u ≤ T - r))
apart-as-printed T q s U r u h = (λ a. omega arith, λ a. omega arith)

pub apart-tells : (T q s U r u : ℕ) → Tells (apart T q s U r u) (Apart T q s U r u)
unfolding apart
apart-tells T q s U r u = tells_both _ _ (tells-le q (lag T s u)) (tells-le (lag T s u + r) T)

module _ (T q s U r u : ℕ) (d : T ∣ U) (h : 0 < U) where
  pub apart-sound : Apart T q s U r u → NeverMeet T q s U r u
  apart-sound (a, b) t (l, k) (m, j) =
      let e = seen T s U u t d (pos_of_dvd_of_pos d h) (omega arith) (omega arith) in
      let f : (lag T s u + (t - u) % U) % T ≡ lag T s u + (t - u) % U = mod-eq_of_lt (omega arith) in
      omega arith

  -- e ticks into a read of the longer one, so late that the shorter one has begun
  late : (e : ℕ) → e < U → (u + (s * U + e) - u) % U ≡ e
  late e k = ap (λ (y : ℕ). y % U) (add-sub_cancel_left u (s * U + e)) ∙ mul-add-mod_self_right s U e ∙ mod-eq_of_lt k

  -- a tick of that read which the shorter one sees in a read of its own is shared
  met : (e : ℕ) → e < U → e < r → (lag T s u + e) % T < q → NeverMeet T q s U r u → ⊥
  met e k i j n =
      let w = le-mul_of_pos_right s h in
      let l : s ≤ u + (s * U + e) = omega arith in
      let m : u ≤ u + (s * U + e) = omega arith in
      n (u + (s * U + e)) (l, rw (seen T s U u (u + (s * U + e)) d (pos_of_dvd_of_pos d h) l m, late e k) j) (m, rw (late e k) i)

  pub apart-complete : 0 < q → 0 < r → NeverMeet T q s U r u → Apart T q s U r u
  apart-complete hq hr n = (first (dec_le q (lag T s u)), second (dec_le (lag T s u + r) T))
    where
      below : lag T s u < T
      below = lag-lt T s u (pos_of_dvd_of_pos d h)

      -- else the longer one's read begins inside a read
      first : Dec (q ≤ lag T s u) → q ≤ lag T s u
      first (yes a) = a
      first (no a) = absurd (met 0 h hr (rw (add-zero, mod-eq_of_lt below) (omega arith)) n)

      -- else it runs into the next one, which begins T - d ticks on
      second : Dec (lag T s u + r ≤ T) → lag T s u + r ≤ T
      second (yes a) = a
      second (no a) =
          let p = first (dec_le q (lag T s u)) in
          let turn : lag T s u + (T - lag T s u) ≡ T = omega (arith, below) in
          absurd (met (T - lag T s u) (omega (arith, le_of_dvd h d)) (omega (arith, below)) (rw (turn, mod_self) hq) n)

  pub meet-tells : 0 < q → 0 < r → Tells (apart T q s U r u) (NeverMeet T q s U r u)
  meet-tells hq hr = tells_as (apart T q s U r u) (apart-tells T q s U r u) apart-sound (apart-complete hq hr)
