-- RECTANGLES AND THE WIRE. Two reads that stay inside the width never meet exactly when their rectangles share no cell. Document 000, Lemma 1 and Theorem 1.
--     heights-times         the taller height is the lower one times n/m, where the longer period has n slots and the shorter m
--     same_row              rows of the two rectangles meet: the longer one's slot falls on the shorter one's
--     row_shared            and the other way round, in the lower one's first row
--     cells-apart           no cell in common: never meeting, by the published condition
--     apart-cells           never meeting: no cell in common
-- The flip is known by its bound, its inverse and the prefix law alone.
-- Assumes nothing.
use Rattle.std.specs.Prelude.{◌≡◌, List, ℕ, zero, suc, ◌+◌, ◌-◌, ◌*◌, ◌/◌, ◌%◌, ◌≤◌, ◌<◌, max, length, get_or}
use Rattle.std.proofs.Math.Path.{sym, ap}
use Rattle.std.proofs.Common.{◌∙◌, mod-lt, mod-eq_of_lt, div-lt_iff_lt-mul, zero-add, add-mul, one-mul}
use Rattle.std.specs.Int.{◌∣◌}
use Rattle.std.proofs.Math.Nat.{mul_comm, mod-add-div, div-div-eq-div-mul, div-eq_of_lt-le, mul-div_cancel', dvd_of_mul-dvd-mul_left, eq_of_mul-eq-mul_right, div-mul-le_self, lt-div-mul-add, mul-div_cancel_left, le_of_dvd}
use Rattle.std.proofs.Math.Decide.{dec_le, ℕ_discrete}
use native.Mathlib.Omega.{arith}
use Rattle.lists.specs.Harmonic.{Harmonic}
use Rattle.wire.specs.Meeting.{lag, Apart}
use Rattle.wire.proofs.Lag.{lag-unique}
use Rattle.probes.specs.Table.{shortest, height}
use Rattle.probes.specs.Heights.{shortest-positive, slots-times, height-positive, rows-slots}
use Rattle.chain.specs.Digits.{AllPositive}
use Rattle.chain.specs.Flip.{flip}
use Rattle.chain.specs.Products.{Level}
use Rattle.chain.proofs.FlipLaws.{flip-injective, flip-prefix}
use Rattle.chain.specs.Ratios.{ratios}
use Rattle.chain.proofs.RatioLaws.{ratios-level, ratios-positive}
use Rattle.chain.specs.Corners.{corner_x, corner_y}
use Rattle.stack.specs.Packing.{Covers}
use Rattle.stack.specs.Slots.{far_apart, near_apart, near-meet, same-slot}

-- a row of the F-th run of h rows
run_of : (h F r : ℕ) → h * F ≤ r → r < h * F + h → r / h ≡ F
run_of h F r lo hi = div-eq_of_lt-le h (omega (arith, mul_comm h F)) (omega (arith, add-mul F 1 h, one-mul h, mul_comm h F))

module _ (Ts : List ℕ) (ha : Harmonic Ts) (i j : ℕ) (hi : i < length Ts) (hj : j < length Ts) (le : get_or Ts i 0 ≤ get_or Ts j 0) where
  abbrev w : ℕ
  w = shortest Ts

  abbrev m : ℕ
  m = get_or Ts i 0 / shortest Ts

  abbrev n : ℕ
  n = get_or Ts j 0 / shortest Ts

  abbrev tall : ℕ
  tall = height Ts (get_or Ts i 0)

  abbrev low : ℕ
  low = height Ts (get_or Ts j 0)

  w-positive : 0 < shortest Ts
  w-positive = shortest-positive Ts ha (omega arith)

  positive : AllPositive (ratios Ts)
  positive = ratios-positive Ts ha

  level-i : Level (ratios Ts) m
  level-i = ratios-level Ts ha i hi

  level-j : Level (ratios Ts) n
  level-j = ratios-level Ts ha j hj

  slots-i : w * m ≡ get_or Ts i 0
  slots-i = slots-times Ts ha i hi

  slots-j : w * n ≡ get_or Ts j 0
  slots-j = slots-times Ts ha j hj

  m-divides : m ∣ n
  m-divides = dvd_of_mul-dvd-mul_left {k = w} m w-positive (rw (slots-i, slots-j) (ha.divides i j hi hj le))

  n-positive : 0 < n
  n-positive = go n slots-j
    where
      go : (k : ℕ) → w * k ≡ get_or Ts j 0 → 0 < k
      go zero e = absurd (omega (arith, ha.positive j hj))
      go (suc k) e = omega arith

  m-positive : 0 < m
  m-positive = go m slots-i
    where
      go : (k : ℕ) → w * k ≡ get_or Ts i 0 → 0 < k
      go zero e = absurd (omega (arith, ha.positive i hi))
      go (suc k) e = omega arith

  m-least : m ≤ n
  m-least = le_of_dvd n-positive m-divides

  share-times : m * (n / m) ≡ n
  share-times = mul-div_cancel' m m-divides

  pub heights-times : tall ≡ low * (n / m)
  heights-times = eq_of_mul-eq-mul_right m m-positive tall (low * (n / m)) (sym (rows-slots Ts ha i hi) ∙ rows-slots Ts ha j hj ∙ ap (λ (x : ℕ). low * x) (sym share-times) ∙ regroup low m (n / m))
    where
      regroup : (a b c : ℕ) → a * (b * c) ≡ a * c * b
      regroup a b c = omega arith

  slot-below : (s : ℕ) → s < get_or Ts i 0 → s / w < m
  slot-below s l = (div-lt_iff_lt-mul w-positive).1 (rw (mul_comm m w, slots-i) l)

  module _ (s u : ℕ) (hs : s < get_or Ts i 0) where
    abbrev F : ℕ
    F = flip (ratios Ts) m (s / w)

    abbrev G : ℕ
    G = flip (ratios Ts) n (u / w)

    prefix : G / (n / m) ≡ flip (ratios Ts) m (u / w % m)
    prefix = flip-prefix (ratios Ts) m n positive level-i level-j m-least (u / w)

    -- the longer one's row, seen from the shorter one's runs
    through : (r : ℕ) → r / tall ≡ r / low / (n / m)
    through r = ap (λ (h : ℕ). r / h) heights-times ∙ sym (div-div-eq-div-mul r low (n / m))

    pub same_row : (r : ℕ) → corner_y Ts (get_or Ts i 0) s ≤ r → r < corner_y Ts (get_or Ts i 0) s + tall
        → corner_y Ts (get_or Ts j 0) u ≤ r → r < corner_y Ts (get_or Ts j 0) u + low → u / w % m ≡ s / w
    unfolding corner_y
    same_row r a b c d =
        let e : r / tall ≡ F = run_of tall F r a b in
        let f : r / low ≡ G = run_of low G r c d in
        flip-injective (ratios Ts) m positive level-i (u / w % m) (s / w) (mod-lt (u / w) m-positive) (slot-below s hs)
        (sym prefix ∙ ap (λ (x : ℕ). x / (n / m)) (sym f) ∙ sym (through r) ∙ e)

    pub row_shared : u / w % m ≡ s / w
        → (corner_y Ts (get_or Ts i 0) s ≤ corner_y Ts (get_or Ts j 0) u) × (corner_y Ts (get_or Ts j 0) u < corner_y Ts (get_or Ts i 0) s + tall)
    unfolding corner_y
    row_shared e =
        let here : low * G / low ≡ G = mul-div_cancel_left G (height-positive Ts ha j hj) in
        let run : low * G / tall ≡ F = through (low * G) ∙ ap (λ (x : ℕ). x / (n / m)) here ∙ prefix ∙ ap (flip (ratios Ts) m) e in
        let same : low * G / tall * tall ≡ tall * F = ap (λ (x : ℕ). x * tall) run ∙ mul_comm F tall in
        (omega (arith, div-mul-le_self (low * G) tall), omega (arith, lt-div-mul-add {a = low * G} {b = tall} (height-positive Ts ha i hi)))

    module _ (q r : ℕ) (hq : 0 < q) (hr : 0 < r) (fq : corner_x Ts s + q ≤ w) (fr : corner_x Ts u + r ≤ w) where
      -- the published condition over starts, from the one over slots
      whole : Apart (w * m) q (s % w + w * (s / w)) (w * m) r (u % w + w * (u / w)) → Apart (get_or Ts i 0) q s (get_or Ts j 0) r u
      whole a = rw (slots-i, mod-add-div s w, mod-add-div u w) at a

      parts : Apart (get_or Ts i 0) q s (get_or Ts j 0) r u → Apart (w * m) q (s % w + w * (s / w)) (w * m) r (u % w + w * (u / w))
      parts a = rw (slots-i, mod-add-div s w, mod-add-div u w) a

      lag-none : u / w % m ≡ s / w → lag m (s / w) (u / w) ≡ 0
      lag-none e = sym (lag-unique m (s / w) (u / w) 0 m-positive (ap (λ (x : ℕ). x % m) (zero-add (s / w)) ∙ mod-eq_of_lt (slot-below s hs) ∙ sym e))

      hx : s % w < w
      hx = mod-lt s w-positive

      hx' : u % w < w
      hx' = mod-lt u w-positive

      pub cells-apart : ((c y : ℕ) → Covers (corner_x Ts s) (corner_y Ts (get_or Ts i 0) s) q tall c y → Covers (corner_x Ts u) (corner_y Ts (get_or Ts j 0) u) r low c y → ⊥)
          → Apart (get_or Ts i 0) q s (get_or Ts j 0) r u
      unfolding corner_x
      cells-apart none = whole (by (ℕ_discrete (lag m (s / w) (u / w)) 0))
        where
          meeting : u / w % m ≡ s / w → s % w < u % w + r → u % w < s % w + q → ⊥
          meeting e a b =
              let y = row_shared e in
              none (max (s % w) (u % w)) (corner_y Ts (get_or Ts j 0) u)
              (omega arith, omega arith, y.0, y.1)
              (omega arith, omega arith, omega arith, omega (arith, height-positive Ts ha j hj))

          side : (z : lag m (s / w) (u / w) ≡ 0) → Dec (s % w + q ≤ u % w) → Dec (u % w + r ≤ s % w)
              → Apart (w * m) q (s % w + w * (s / w)) (w * m) r (u % w + w * (u / w))
          side z (yes a) d = (near_apart w m (s % w) (s / w) (u % w) (u / w) hx hx' (slot-below s hs) z q r hr fq fr).0 a
          side z (no a) (yes b) = (near_apart w m (s % w) (s / w) (u % w) (u / w) hx hx' (slot-below s hs) z q r hr fq fr).1 b
          side z (no a) (no b) = absurd (meeting (same-slot w m (s % w) (s / w) (u % w) (u / w) hx hx' (slot-below s hs) z) (omega arith) (omega arith))

          by : Dec (lag m (s / w) (u / w) ≡ 0) → Apart (w * m) q (s % w + w * (s / w)) (w * m) r (u % w + w * (u / w))
          by (yes z) = side z (dec_le (s % w + q) (u % w)) (dec_le (u % w + r) (s % w))
          by (no z) = far_apart w m (s % w) (s / w) (u % w) (u / w) hx hx' (slot-below s hs) q r fq fr (omega arith)

      pub apart-cells : Apart (get_or Ts i 0) q s (get_or Ts j 0) r u
          → (c y : ℕ) → Covers (corner_x Ts s) (corner_y Ts (get_or Ts i 0) s) q tall c y → Covers (corner_x Ts u) (corner_y Ts (get_or Ts j 0) u) r low c y → ⊥
      unfolding corner_x
      apart-cells a c y (x₁, x₂, y₁, y₂) (z₁, z₂, t₁, t₂) =
          near-meet w m (s % w) (s / w) (u % w) (u / w) hx hx' (slot-below s hs) (lag-none (same_row y y₁ y₂ t₁ t₂)) q r (omega arith) (omega arith) fq fr (parts a)
