-- What follows from the definitions of specs/CornerLaws.
--     corner-on-grid            the corner of a start below T is on the grid
--     start-of-corner           and the way back gives the start
--     start-below               the start of a corner on the grid is below T
--     corner-of-start           and its corner is that corner
-- Assumes nothing.
use Rattle.std.specs.Prelude.{◌≡◌, List, length, get_or}
use Rattle.std.proofs.Common.{◌∙◌, inl, inr, mul_comm, div-lt_iff_lt-mul, zero-add, arith}
use Prim.Native.Nat.{ℕ, ◌+◌, ◌*◌, ◌/◌, ◌%◌, ◌≤◌, ◌<◌, ◌∣◌}
use Rattle.std.proofs.Math.Nat.{mod-lt, mod-add-div, mod-eq_of_lt, div-eq_of_lt, mul-div_cancel', mul-div_cancel_left, mul-lt-mul_of_pos_left, lt_of_mul-lt-mul_left, dvd-mul_right, add-mul-mod_self_left, add-mul-div_left, dvd_of_mod-eq-zero, mod-eq-zero_of_dvd}
use Rattle.std.proofs.Math.Decide.{dec_lt, ℕ_discrete}
use Rattle.std.proofs.Math.Arith.{digits_lt}
use Rattle.lists.specs.Harmonic.{Harmonic}
use Rattle.probes.specs.Table.{shortest, rows, height}
use Rattle.probes.specs.Heights.{shortest-positive, slots-times, height-positive, rows-slots}
use Rattle.chain.specs.Products.{Level}
use Rattle.chain.specs.Digits.{AllPositive}
use Rattle.chain.specs.Flip.{flip, unflip}
use Rattle.chain.proofs.FlipLaws.{flip-below, unflip-below, unflip-flip, flip-unflip}
use Rattle.chain.specs.Ratios.{ratios}
use Rattle.chain.proofs.RatioLaws.{ratios-level, ratios-positive}
use Rattle.chain.specs.Corners.{corner_x, corner_y, start_of, OffGrid}
use Rattle.chain.specs.CornerLaws.{OnGrid}

pub grid-sound : (Ts : List ℕ) (T x y : ℕ) → OnGrid Ts T x y → OffGrid Ts T x y → ⊥
grid-sound Ts T x y g (inl h) = omega (arith, g.wide)
grid-sound Ts T x y g (inr (inl n)) = n g.aligned
grid-sound Ts T x y g (inr (inr h)) = omega (arith, g.high)

pub grid-complete : (Ts : List ℕ) (T x y : ℕ) → (OffGrid Ts T x y → ⊥) → OnGrid Ts T x y
grid-complete Ts T x y k = record {
  wide = low x (shortest Ts) (λ h. k (inl h)) (dec_lt x (shortest Ts));
  aligned = even (ℕ_discrete (y % height Ts T) 0);
  high = low y (rows Ts) (λ h. k (inr (inr h))) (dec_lt y (rows Ts));
}
  where
    low : (a b : ℕ) → (b ≤ a → ⊥) → Dec (a < b) → a < b
    low a b n (yes h) = h
    low a b n (no h) = absurd (n (omega arith))

    even : Dec (y % height Ts T ≡ 0) → height Ts T ∣ y
    even (yes e) = dvd_of_mod-eq-zero (height Ts T) e
    even (no n) = absurd (k (inr (inl (λ d. n (mod-eq-zero_of_dvd (height Ts T) d)))))

module _ (Ts : List ℕ) (ha : Harmonic Ts) (i : ℕ) (h : i < length Ts) where
  -- w, the slots and the ratios of the probe
  abbrev w : ℕ
  w = shortest Ts

  abbrev slots : ℕ
  slots = get_or Ts i 0 / shortest Ts

  abbrev tall : ℕ
  tall = height Ts (get_or Ts i 0)

  w-positive : 0 < shortest Ts
  w-positive = shortest-positive Ts ha (omega arith)

  level : Level (ratios Ts) slots
  level = ratios-level Ts ha i h

  positive : AllPositive (ratios Ts)
  positive = ratios-positive Ts ha

  slot-below : (s : ℕ) → s < get_or Ts i 0 → s / w < slots
  slot-below s l = (div-lt_iff_lt-mul w-positive).1 (rw (mul_comm slots w, slots-times Ts ha i h) l)

  pub corner-on-grid : (s : ℕ) → s < get_or Ts i 0 → OnGrid Ts (get_or Ts i 0) (corner_x Ts s) (corner_y Ts (get_or Ts i 0) s)
  unfolding corner_x corner_y
  corner-on-grid s l = record {
    wide = mod-lt s w-positive;
    aligned = dvd-mul_right tall (flip (ratios Ts) slots (s / w));
    high = rw (rows-slots Ts ha i h) (mul-lt-mul_of_pos_left (flip-below (ratios Ts) slots positive level (s / w)) (height-positive Ts ha i h));
  }

  pub start-of-corner : (s : ℕ) → s < get_or Ts i 0 → start_of Ts (get_or Ts i 0) (corner_x Ts s) (corner_y Ts (get_or Ts i 0) s) ≡ s
  unfolding corner_x corner_y start_of
  start-of-corner s l =
      let back : tall * flip (ratios Ts) slots (s / w) / tall ≡ flip (ratios Ts) slots (s / w) =
      mul-div_cancel_left (flip (ratios Ts) slots (s / w)) (height-positive Ts ha i h) in
      rw (back, unflip-flip (ratios Ts) slots positive level (s / w) (slot-below s l)) (mod-add-div s w)

  module _ (x y : ℕ) (g : OnGrid Ts (get_or Ts i 0) x y) where
    -- the sub-bin of the corner
    bin-times : tall * (y / tall) ≡ y
    bin-times = mul-div_cancel' tall g.aligned

    bin-below : y / tall < slots
    bin-below = lt_of_mul-lt-mul_left tall (rw bin-times (rw (rows-slots Ts ha i h) at g.high))

    pub start-below : start_of Ts (get_or Ts i 0) x y < get_or Ts i 0
    unfolding start_of
    start-below =
        let u : ℕ = unflip (ratios Ts) slots (y / tall) in
        let b : u * w + x < slots * w = digits_lt (unflip-below (ratios Ts) slots positive level (y / tall)) g.wide in
        omega (arith, slots-times Ts ha i h)

    pub corner-of-start : (corner_x Ts (start_of Ts (get_or Ts i 0) x y) ≡ x) × (corner_y Ts (get_or Ts i 0) (start_of Ts (get_or Ts i 0) x y) ≡ y)
    unfolding corner_x corner_y start_of
    corner-of-start =
        let u : ℕ = unflip (ratios Ts) slots (y / tall) in
        let q : (x + w * u) / w ≡ u = add-mul-div_left x u w-positive ∙ rw (div-eq_of_lt g.wide) (zero-add u) in (
          add-mul-mod_self_left x w u ∙ mod-eq_of_lt g.wide,
          rw (q, flip-unflip (ratios Ts) slots positive level (y / tall) bin-below) bin-times,
        )
