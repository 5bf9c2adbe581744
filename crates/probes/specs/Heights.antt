-- HEIGHTS AND SLOTS OF A HARMONIC TABLE. Document 01, "The line and its words": "H = M/w", "the height of a probe is h = M/T"; "Slots and sub-bins": "there are T/w slots".
-- T is the period of a probe of the table.
--     shortest-positive         w is at least 1
--     shortest-divides          w divides T
--     divides-longest           T divides M
--     slots-times, height-times w times the slots is T; h times T is M
--     height-positive           h is at least 1
--     rows-slots                H is h times the slots
-- Assumes nothing.
use Rattle.std.specs.Prelude.{◌≡◌, List, ℕ, zero, suc, ◌*◌, ◌/◌, ◌<◌, length, get_or}
use Rattle.std.proofs.Common.{sym, ◌∙◌, zero-mul}
use Rattle.std.proofs.Math.Path.{ap}
use Rattle.std.specs.Int.{◌∣◌}
use Rattle.std.proofs.Math.Nat.{mul-div_cancel', div-mul_cancel, div-eq_of_eq-mul_left}
use native.Mathlib.Omega.{arith}
use Rattle.lists.specs.Harmonic.{Harmonic}
use Rattle.probes.specs.Table.{shortest, longest, rows, height}
use Rattle.probes.specs.Extremes.{shortest-least, shortest-is, longest-greatest, longest-is}

module _ (Ts : List ℕ) (ha : Harmonic Ts) where
  pub shortest-positive : 0 < length Ts → 0 < shortest Ts
  shortest-positive h =
      let (i, l, e) = shortest-is Ts h in
      rw e at (ha.positive i l)

  module _ (i : ℕ) (h : i < length Ts) where
    some-probe : 0 < length Ts
    some-probe = omega arith

    pub shortest-divides : shortest Ts ∣ get_or Ts i 0
    shortest-divides =
        let (j, l, e) = shortest-is Ts some-probe in
        rw e at (ha.divides j i l h (rw e (shortest-least Ts i h)))

    pub divides-longest : get_or Ts i 0 ∣ longest Ts
    divides-longest =
        let (j, l, e) = longest-is Ts some-probe in
        rw e at (ha.divides i j h l (rw e (longest-greatest Ts i h)))

    pub slots-times : shortest Ts * (get_or Ts i 0 / shortest Ts) ≡ get_or Ts i 0
    slots-times = mul-div_cancel' (shortest Ts) shortest-divides

    pub height-times : height Ts (get_or Ts i 0) * get_or Ts i 0 ≡ longest Ts
    unfolding height
    height-times = div-mul_cancel (get_or Ts i 0) divides-longest

    pub height-positive : 0 < height Ts (get_or Ts i 0)
    height-positive = go (height Ts (get_or Ts i 0)) height-times
      where
        go : (k : ℕ) → k * get_or Ts i 0 ≡ longest Ts → 0 < k
        go zero e = absurd (omega (arith, zero-mul (get_or Ts i 0), longest-greatest Ts i h, ha.positive i h))
        go (suc k) e = omega arith

    pub rows-slots : rows Ts ≡ height Ts (get_or Ts i 0) * (get_or Ts i 0 / shortest Ts)
    unfolding rows
    rows-slots = div-eq_of_eq-mul_left (shortest-positive some-probe) (sym height-times ∙ ap (λ (T : ℕ). height Ts (get_or Ts i 0) * T) (sym slots-times) ∙ swap (height Ts (get_or Ts i 0)) (shortest Ts) (get_or Ts i 0 / shortest Ts))
      where
        swap : (a b c : ℕ) → a * (b * c) ≡ a * c * b
        swap a b c = omega arith
