-- LAWS OF THE CONVERSIONS, for the code that computes them.
--     Prepared gives ..     w and the heights are at least 1, slots and rows are in range
-- Assumes nothing.
use Rattle.std.specs.Prelude.{◌≡◌, true, false, List, ℕ, ◌+◌, ◌*◌, ◌/◌, ◌%◌, ◌≤◌, ◌<◌, length}
use Rattle.std.proofs.Math.Path.{ap}
use Rattle.std.proofs.Common.{inl, inr, mul_comm, div-lt_iff_lt-mul, arith}
use Rattle.std.proofs.Math.Nat.{mul-lt-mul_of_pos_left, mul-div_cancel', lt_of_mul-lt-mul_left, mod-eq-zero_of_dvd, dvd_of_mod-eq-zero}
use Rattle.std.proofs.Math.ListN.{get_or}
use Rattle.lists.specs.Telling.{tells-true, tells-false}
use Rattle.table.specs.declared.Table.{Table}
use Rattle.probes.specs.Table.{shortest, longest, rows, height, Sound}
use Rattle.probes.proofs.Laws.{sound-gives}
use Rattle.probes.specs.Heights.{shortest-positive, height-positive, rows-slots, slots-times}
use Rattle.flipping.specs.declared.Chain.{Chain}
use Rattle.chain.specs.Flip.{flip, unflip}
use Rattle.chain.proofs.FlipLaws.{flip-below}
use Rattle.chain.specs.Ratios.{ratios}
use Rattle.chain.proofs.RatioLaws.{ratios-level, ratios-positive}
use Rattle.chain.specs.Slotted.{Slotted}
use Rattle.chain.proofs.Slotted.{chain-slotted, chain-flip, chain-unflip}
use Rattle.chain.specs.Corners.{corner_y, start_of}
use Rattle.chain.specs.CornerLaws.{OnGrid}
use Rattle.chain.proofs.CornerLaws.{start-below}
use Rattle.grid.specs.Prepared.{table_of, chain_of, Prepared}
use Rattle.chain.specs.Grid.{OffGridAt, off_grid, off-grid-tells}

module _ (Ts : List ℕ) (t : Table) (c : Chain) (p : Prepared Ts t c) where
  pub shortest-is : t.shortest ≡ shortest Ts
  shortest-is = ap (λ (x : Table). x.shortest) p.table_is

  pub longest-is : t.longest ≡ longest Ts
  longest-is = ap (λ (x : Table). x.longest) p.table_is

  module _ (i : ℕ) (h : i < length Ts) where
    pub w-positive : 0 < t.shortest
    w-positive = rw shortest-is (shortest-positive Ts p.harmonic (omega arith))

    pub period-positive : 0 < get_or Ts i 0
    period-positive = p.harmonic.positive i h

    pub tall-is : t.longest / get_or Ts i 0 ≡ height Ts (get_or Ts i 0)
    unfolding height
    tall-is = ap (λ (x : ℕ). x / get_or Ts i 0) longest-is

    pub tall-positive : 0 < t.longest / get_or Ts i 0
    tall-positive = rw tall-is (height-positive Ts p.harmonic i h)

    pub slots-is : get_or Ts i 0 / t.shortest ≡ get_or Ts i 0 / shortest Ts
    slots-is = ap (λ (x : ℕ). get_or Ts i 0 / x) shortest-is

    pub slotted : Slotted c.ratios c.rows (get_or Ts i 0 / t.shortest)
    slotted =
        rw (slots-is, p.chain-is) (chain-slotted Ts p.harmonic p.low i h)

    pub slot-below : (s : ℕ) → s < get_or Ts i 0 → s / t.shortest < get_or Ts i 0 / t.shortest
    slot-below s l = (div-lt_iff_lt-mul w-positive).1 (rw (shortest-is, mul_comm (get_or Ts i 0 / shortest Ts) (shortest Ts), slots-times Ts p.harmonic i h) l)

    -- the corner's row, as the code makes it
    pub row_is : (s j : ℕ) → j ≡ flip c.ratios (get_or Ts i 0 / t.shortest) (s / t.shortest)
        → t.longest / get_or Ts i 0 * j ≡ corner_y Ts (get_or Ts i 0) s
    unfolding corner_y
    row_is s j e =
        rw (tall-is, e, p.chain-is, slots-is, shortest-is) (ap (λ (x : ℕ). height Ts (get_or Ts i 0) * x) (chain-flip Ts p.harmonic i h (s / shortest Ts)))

    pub row_small : (s j : ℕ) → j ≡ flip c.ratios (get_or Ts i 0 / t.shortest) (s / t.shortest) → t.longest / get_or Ts i 0 * j < rows Ts
    unfolding corner_y
    row_small s j e =
        rw (row_is s j e, rows-slots Ts p.harmonic i h)
        (mul-lt-mul_of_pos_left (flip-below (ratios Ts) (get_or Ts i 0 / shortest Ts) (ratios-positive Ts p.harmonic) (ratios-level Ts p.harmonic i h) (s / shortest Ts)) (height-positive Ts p.harmonic i h))

    module _ (x y : ℕ) (g : OnGrid Ts (get_or Ts i 0) x y) where
      pub bin-below : y / (t.longest / get_or Ts i 0) < get_or Ts i 0 / t.shortest
      bin-below =
          rw (tall-is, slots-is)
          (lt_of_mul-lt-mul_left (height Ts (get_or Ts i 0)) (rw (mul-div_cancel' (height Ts (get_or Ts i 0)) g.aligned, ← rows-slots Ts p.harmonic i h) g.high))

      pub start_is : (v : ℕ) → v ≡ unflip c.ratios (get_or Ts i 0 / t.shortest) (y / (t.longest / get_or Ts i 0))
          → x + t.shortest * v ≡ start_of Ts (get_or Ts i 0) x y
      unfolding start_of
      start_is v e =
          rw (e, p.chain-is, tall-is, slots-is, shortest-is) (ap (λ (u : ℕ). x + shortest Ts * u) (chain-unflip Ts p.harmonic i h (y / height Ts (get_or Ts i 0))))

      pub start_small : (v : ℕ) → v ≡ unflip c.ratios (get_or Ts i 0 / t.shortest) (y / (t.longest / get_or Ts i 0)) → x + t.shortest * v < get_or Ts i 0
      start_small v e = rw (start_is v e) (start-below Ts p.harmonic i h x y g)

-- what the three tests of the code tell of a corner
module _ (Ts : List ℕ) (t : Table) (c : Chain) (p : Prepared Ts t c) (xs ys : List ℕ) (i : ℕ) (h : i < length Ts) where
  chain-rows-is : c.rows ≡ rows Ts
  chain-rows-is = ap (λ (x : Chain). x.rows) p.chain-is

  pub off-x : t.shortest ≤ get_or xs i 0 → off_grid Ts xs ys i ≡ true
  off-x l = tells-true (off_grid Ts xs ys i) (off-grid-tells Ts xs ys i) (inl (rw (shortest-is Ts t c p) at l))

  pub off-y : (get_or ys i 0 % (t.longest / get_or Ts i 0) ≡ 0 → ⊥) → off_grid Ts xs ys i ≡ true
  off-y n =
      tells-true (off_grid Ts xs ys i) (off-grid-tells Ts xs ys i)
      (inr (inl (λ d. n (rw (tall-is Ts t c p i h) (mod-eq-zero_of_dvd (height Ts (get_or Ts i 0)) d)))))

  pub off-row : c.rows ≤ get_or ys i 0 → off_grid Ts xs ys i ≡ true
  off-row l = tells-true (off_grid Ts xs ys i) (off-grid-tells Ts xs ys i) (inr (inr (rw chain-rows-is at l)))

  pub on-all : get_or xs i 0 < t.shortest → get_or ys i 0 % (t.longest / get_or Ts i 0) ≡ 0 → get_or ys i 0 < c.rows → off_grid Ts xs ys i ≡ false
  on-all a b d = tells-false (off_grid Ts xs ys i) (off-grid-tells Ts xs ys i) none
    where
      none : OffGridAt Ts xs ys i → ⊥
      none (inl l) = omega (arith, shortest-is Ts t c p)
      none (inr (inl n)) = n (dvd_of_mod-eq-zero (height Ts (get_or Ts i 0)) (rw (tall-is Ts t c p i h) at b))
      none (inr (inr l)) = omega (arith, chain-rows-is)

-- a sound table with its w, M, H and chain
pub prepared-of : (Ts ps : List ℕ) (t : Table) (c : Chain) → Sound Ts ps → t ≡ table_of Ts → c ≡ chain_of Ts → Prepared Ts t c
prepared-of Ts ps t c s e f =
    let g = sound-gives Ts ps s in
    record { harmonic = g.harmonic; most = g.most; low = g.low; table_is = e; chain-is = f }
