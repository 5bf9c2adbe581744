-- SLOTS ON THE WIRE. Two probes whose reads stay inside their slots meet exactly when the longer one's slot falls on the shorter one's and their places in it meet.
-- A start is x + w*v: place x in slot v; the shorter period has m slots of w ticks, and c is how far the longer one's slot v' lies behind v around them.
--     far_apart             where c is not 0, they never meet
--     near_apart            where c is 0, they never meet exactly when their places are apart
-- Document 000, Lemma 1. Assumes nothing.
use Rattle.std.specs.Prelude.{◌≡◌, ℕ, ◌+◌, ◌-◌, ◌*◌, ◌/◌, ◌%◌, ◌≤◌, ◌<◌}
use Rattle.std.proofs.Common.{sym, ap, ◌∙◌, mul_comm, mod-eq_of_lt, mul-le-mul_left, zero-add, arith}
use Rattle.std.proofs.Math.Nat.{add-mul-div_left, add-mul-mod_self_left, div-eq_of_lt, add-mod_right}
use Rattle.std.proofs.Math.Decide.{dec_le}
use Rattle.std.proofs.Math.Arith.{mod-mul}
use Rattle.wire.specs.Meeting.{lag, Apart}
use Rattle.wire.proofs.Lag.{lag-unique, lag-back, lag-lt}

-- a number by its place in a slot and its slot, modulo m slots
pub slot-mod : (w m x a : ℕ) → x < w → 0 < m → (x + w * a) % (w * m) ≡ x + w * (a % m)
slot-mod w m x a hx hm =
    ap (λ (y : ℕ). (x + w * a) % y) (mul_comm w m)
    ∙ mod-mul (x + w * a) hm (omega arith)
    ∙ rw (quotient, rest) (omega arith)
  where
    quotient : (x + w * a) / w ≡ a
    quotient = add-mul-div_left x a (omega arith) ∙ rw (div-eq_of_lt hx) (zero-add a)

    rest : (x + w * a) % w ≡ x
    rest = add-mul-mod_self_left x w a ∙ mod-eq_of_lt hx

module _ (w m x v x' v' : ℕ) (hx : x < w) (hx' : x' < w) (hv : v < m) where
  many : 0 < m
  many = omega arith

  behind : (lag m v v' + v) % m ≡ v' % m
  behind = lag-back m v v' many

  lag-far : 0 < lag m v v' → lag (w * m) (x + w * v) (x' + w * v') ≡ w * lag m v v' + x' - x
  lag-far h = sym (lag-unique (w * m) (x + w * v) (x' + w * v') (w * lag m v v' + x' - x) below turn)
    where
      c : ℕ
      c = lag m v v'

      step : w ≤ w * c
      step = omega (arith, mul-le-mul_left w h)

      room : w * c + w ≤ w * m
      room = omega (arith, mul-le-mul_left w (lag-lt m v v' many))

      below : w * c + x' - x < w * m
      below = omega (arith, room)

      joined : w * c + x' - x + (x + w * v) ≡ x' + w * (c + v)
      joined = omega (arith, step)

      turn : (w * c + x' - x + (x + w * v)) % (w * m) ≡ (x' + w * v') % (w * m)
      turn =
          ap (λ (y : ℕ). y % (w * m)) joined
          ∙ slot-mod w m x' (c + v) hx' many
          ∙ ap (λ (y : ℕ). x' + w * y) behind
          ∙ sym (slot-mod w m x' v' hx' many)

  pub far_apart : (q r : ℕ) → x + q ≤ w → x' + r ≤ w → 0 < lag m v v' → Apart (w * m) q (x + w * v) (w * m) r (x' + w * v')
  far_apart q r fq fr h =
      rw (lag-far h)
      (omega (arith, mul-le-mul_left w h), omega (arith, mul-le-mul_left w h, mul-le-mul_left w (lag-lt m v v' many)))

  module _ (zero-lag : lag m v v' ≡ 0) where
    pub same-slot : v' % m ≡ v
    same-slot =
        let e : (0 + v) % m ≡ v' % m = rw zero-lag at behind in
        sym e ∙ ap (λ (y : ℕ). y % m) (zero-add v) ∙ mod-eq_of_lt hv

    there : (x' + w * v') % (w * m) ≡ x' + w * v
    there = slot-mod w m x' v' hx' many ∙ ap (λ (y : ℕ). x' + w * y) same-slot

    wide : w ≤ w * m
    wide = omega (arith, mul-le-mul_left w many)

    fits_in : x' + w * v < w * m
    fits_in = omega (arith, mul-le-mul_left w hv)

    lag-up : x ≤ x' → lag (w * m) (x + w * v) (x' + w * v') ≡ x' - x
    lag-up h = sym (lag-unique (w * m) (x + w * v) (x' + w * v') (x' - x) (omega (arith, wide)) (ap (λ (y : ℕ). y % (w * m)) joined ∙ mod-eq_of_lt fits_in ∙ sym there))
      where
        joined : x' - x + (x + w * v) ≡ x' + w * v
        joined = omega arith

    lag-down : x' < x → lag (w * m) (x + w * v) (x' + w * v') ≡ w * m - (x - x')
    lag-down h =
        sym (lag-unique (w * m) (x + w * v) (x' + w * v') (w * m - (x - x')) (omega (arith, wide))
        (ap (λ (y : ℕ). y % (w * m)) joined ∙ add-mod_right (x' + w * v) (w * m) ∙ mod-eq_of_lt fits_in ∙ sym there))
      where
        joined : w * m - (x - x') + (x + w * v) ≡ x' + w * v + w * m
        joined = omega (arith, wide)

    -- their places in the slot are apart
    pub near_apart : (q r : ℕ) → 0 < r → x + q ≤ w → x' + r ≤ w
        → ((x + q ≤ x') → Apart (w * m) q (x + w * v) (w * m) r (x' + w * v'))
        × ((x' + r ≤ x) → Apart (w * m) q (x + w * v) (w * m) r (x' + w * v'))
    near_apart q r hr fq fr = (first, second (dec_le x x'))
      where
        first : x + q ≤ x' → Apart (w * m) q (x + w * v) (w * m) r (x' + w * v')
        first h =
            let up : x ≤ x' = omega arith in
            rw (lag-up up) (omega arith, omega (arith, wide))

        second : Dec (x ≤ x') → x' + r ≤ x → Apart (w * m) q (x + w * v) (w * m) r (x' + w * v')
        second (yes up) h = absurd (omega arith)
        second (no down) h =
            let less : x' < x = omega arith in
            rw (lag-down less) (omega (arith, wide), omega (arith, wide))

    pub near-meet : (q r : ℕ) → x < x' + r → x' < x + q → x + q ≤ w → x' + r ≤ w → Apart (w * m) q (x + w * v) (w * m) r (x' + w * v') → ⊥
    near-meet q r a b fq fr ap₀ = by (dec_le x x')
      where
        by : Dec (x ≤ x') → ⊥
        by (yes up) = omega (arith, rw (lag-up up) at ap₀.0)
        by (no down) =
            let less : x' < x = omega arith in
            let d = rw (lag-down less) at ap₀.1 in
            omega (arith, wide)
