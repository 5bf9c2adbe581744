-- THE STACK, STEP BY STEP. What holds after some probes were put into the rows, each into a sub-bin that had room, heights falling.
--     Placing Ts qs ds ss fs    the probes ds stand in the rows: fills at most w, level, no two with a cell in common, and the fills add up to what was placed
--     placing-start             of no probe and empty rows
--     placing-step              one probe more, of a height that divides those before, in any sub-bin with room
--     placing-inside, -apart    the placed ones are inside the width and never meet
-- Assumes nothing.
use Rattle.std.specs.Prelude.{◌≡◌, refl, ◌⊎◌, ◌≢◌, List, [], ◌∷◌, ℕ, ◌+◌, ◌-◌, ◌*◌, ◌/◌, ◌≤◌, ◌<◌, set, replicate}
use Rattle.std.proofs.Common.{sym, ap, ◌∙◌, inl, inr, arith, get_or-set_other}
use Rattle.std.specs.Int.{◌∣◌}
use native.Mathlib.Nat.{dvd-mul_left, mul-le-mul_right, div-mul-le_self, mul-div_cancel, div-eq_of_lt-le, add-mul, one-mul}
use Rattle.std.proofs.Math.Decide.{dec_lt, dec_le}
use Rattle.std.proofs.Math.ListN.{length, get_or}
use Rattle.std.proofs.lemmas.List.{length-replicate, get_or-replicate}
use Rattle.std.proofs.Math.Seq.{get_or-set_same}
use Rattle.lists.specs.Pick.{In}
use Rattle.lists.specs.Sums.{sum_of}
use Rattle.lists.specs.Harmonic.{Harmonic, Positive}
use Rattle.probes.specs.Table.{shortest, rows, height}
use Rattle.probes.specs.Heights.{height-positive}
use Rattle.chain.specs.Corners.{corner_x, corner_y, start_of}
use Rattle.chain.specs.CornerLaws.{OnGrid}
use Rattle.chain.proofs.CornerLaws.{start-below, corner-of-start}
use Rattle.stack.specs.Stack.{raised, Fits, bins}
use Rattle.stack.specs.FirstFit.{start_in}
use Rattle.stack.specs.Packing.{CoversAt}
use Rattle.stack.specs.Rows.{sum, length-raised, raised_below, raised-in, raised-above, raised-more, sum-raised, sum-none, LevelRows, level-raised}

-- the ticks of probe i in one longest period
abbrev pub busy_at : List ℕ → List ℕ → ℕ → ℕ
busy_at Ts qs i = get_or qs i 0 * height Ts (get_or Ts i 0)

-- probe i stands in the rows
pub record Stands (Ts qs ss fs : List ℕ) (i : ℕ) : Type 0 where
  pub probe : i < length Ts
  pub below : get_or ss i 0 < get_or Ts i 0
  pub under : (r : ℕ) → corner_y Ts (get_or Ts i 0) (get_or ss i 0) ≤ r → r < corner_y Ts (get_or Ts i 0) (get_or ss i 0) + height Ts (get_or Ts i 0)
      → (r < rows Ts) × (corner_x Ts (get_or ss i 0) + get_or qs i 0 ≤ get_or fs r 0)

pub record Placing (Ts qs ds ss fs : List ℕ) : Type 0 where
  pub long : length fs ≡ rows Ts
  pub low : (r : ℕ) → r < rows Ts → get_or fs r 0 ≤ shortest Ts
  pub level : (h : ℕ) → ((i : ℕ) → In i ds → h ∣ height Ts (get_or Ts i 0)) → LevelRows h fs
  pub stands : (i : ℕ) → In i ds → Stands Ts qs ss fs i
  pub apart : (i j : ℕ) → In i ds → In j ds → i ≢ j → (c r : ℕ) → CoversAt Ts qs ss i c r → CoversAt Ts qs ss j c r → ⊥
  pub count : sum fs ≡ sum_of (busy_at Ts qs) ds

pub placing-start : (Ts qs ss : List ℕ) → Placing Ts qs [] ss (replicate (rows Ts) 0)
unfolding In sum_of
placing-start Ts qs ss = record {
  long = length-replicate {A = ℕ} (rows Ts) 0;
  low = λ r h. rw (get_or-replicate {A = ℕ} (rows Ts) r 0 0 h) (omega arith);
  level = λ h all r s hr hs e.
      get_or-replicate {A = ℕ} (rows Ts) r 0 0 (rw (length-replicate {A = ℕ} (rows Ts) 0) at hr) ∙ sym (get_or-replicate {A = ℕ} (rows Ts) s 0 0 (rw (length-replicate {A = ℕ} (rows Ts) 0) at hs));
  stands = λ i h. absurd h;
  apart = λ i j h. absurd h;
  count = sum-none (rows Ts);
}

module _ (Ts qs ds ss fs : List ℕ) (ha : Harmonic Ts) (pos : Positive qs (length Ts)) (g : Placing Ts qs ds ss fs)
    (i j : ℕ) (hi : i < length Ts) (long : i < length ss) (new : In i ds → ⊥)
    (tall : (k : ℕ) → In k ds → height Ts (get_or Ts i 0) ∣ height Ts (get_or Ts k 0))
    (bin : j < bins fs (height Ts (get_or Ts i 0))) (room : Fits fs (height Ts (get_or Ts i 0)) (get_or qs i 0) (shortest Ts) j) where
  abbrev h : ℕ
  h = height Ts (get_or Ts i 0)

  abbrev q : ℕ
  q = get_or qs i 0

  abbrev y : ℕ
  y = j * height Ts (get_or Ts i 0)

  abbrev x : ℕ
  x = get_or fs (j * height Ts (get_or Ts i 0)) 0

  abbrev after : List ℕ
  after = set ss i (start_in Ts qs i fs j)

  abbrev filled : List ℕ
  filled = raised fs (j * height Ts (get_or Ts i 0)) (height Ts (get_or Ts i 0)) (get_or qs i 0)

  h-positive : 0 < h
  h-positive = height-positive Ts ha i hi

  in_rows : y + h ≤ length fs
  unfolding bins
  in_rows =
      let a : j * h + h ≤ length fs / h * h = omega (arith, mul-le-mul_right h bin, add-mul j 1 h, one-mul h, native.Mathlib.Nat.suc-mul j h) in
      omega (arith, div-mul-le_self (length fs) h)

  -- the rows of the sub-bin have the fill x
  one-fill : (r : ℕ) → y ≤ r → r < y + h → get_or fs r 0 ≡ x
  one-fill r lo hi =
      g.level h tall r y (omega (arith, in_rows)) (omega (arith, in_rows, h-positive))
      (div-eq_of_lt-le h lo (omega (arith, add-mul j 1 h, one-mul h)) ∙ sym (mul-div_cancel j h-positive))

  on-grid : OnGrid Ts (get_or Ts i 0) x y
  on-grid = record { wide = omega (arith, pos i hi); aligned = dvd-mul_left h j; high = omega (arith, in_rows, g.long, h-positive) }

  start_is : get_or after i 0 ≡ start_of Ts (get_or Ts i 0) x y
  unfolding start_in
  start_is = get_or-set_same ss i (start_in Ts qs i fs j) 0 long

  new-x : corner_x Ts (get_or after i 0) ≡ x
  new-x = ap (corner_x Ts) start_is ∙ (corner-of-start Ts ha i hi x y on-grid).0

  new-y : corner_y Ts (get_or Ts i 0) (get_or after i 0) ≡ y
  new-y = ap (corner_y Ts (get_or Ts i 0)) start_is ∙ (corner-of-start Ts ha i hi x y on-grid).1

  old-start : (k : ℕ) → In k ds → get_or after k 0 ≡ get_or ss k 0
  old-start k m = get_or-set_other ss i k (start_in Ts qs i fs j) 0 (λ e. new (rw e at m))

  filled-long : length filled ≡ length fs
  filled-long = length-raised fs y h q in_rows

  new-stands : Stands Ts qs after filled i
  new-stands = record {
    probe = hi;
    below = rw start_is (start-below Ts ha i hi x y on-grid);
    under = λ r lo up.
        let lo' : y ≤ r = rw new-y at lo in
        let up' : r < y + h = rw new-y at up in
        (omega (arith, in_rows, g.long), rw (new-x, raised-in fs y h q in_rows r lo' up', one-fill r lo' up') (omega arith));
  }

  old-stands : (k : ℕ) → In k ds → Stands Ts qs after filled k
  old-stands k m =
      let o = g.stands k m in
      record {
        probe = o.probe;
        below = rw (old-start k m) o.below;
        under = rw (old-start k m) (λ r lo up. ((o.under r lo up).0, omega (arith, (o.under r lo up).1, raised-more fs y h q in_rows r)));
      }

  -- the new one's cells begin where the old ones end
  new_apart : (k c r : ℕ) → In k ds → CoversAt Ts qs after k c r → CoversAt Ts qs after i c r → ⊥
  new_apart k c r m a b =
      let a' : CoversAt Ts qs ss k c r = rw (old-start k m) at a in
      let o = (g.stands k m).under r a'.2 a'.3 in
      let lo : y ≤ r = rw new-y at b.2 in
      let up : r < y + h = rw new-y at b.3 in
      let left : x ≤ c = rw new-x at b.0 in
      let fill = one-fill r lo up in
      omega (arith, a'.1, o.1)

  pub placing-step : Placing Ts qs (i ∷ ds) after filled
  unfolding In sum_of
  placing-step = record {
    long = filled-long ∙ g.long;
    low = λ r hr. lower r hr (dec_le y r) (dec_lt r (y + h));
    level = λ k all. level-raised k h j q fs h-positive (all i (inl refl)) in_rows (g.level k (λ d m. all d (inr m)));
    stands = standing;
    apart = parted;
    count = sum-raised fs y h q in_rows ∙ omega (arith, g.count);
  }
    where
      lower : (r : ℕ) → r < rows Ts → Dec (y ≤ r) → Dec (r < y + h) → get_or filled r 0 ≤ shortest Ts
      lower r hr (yes lo) (yes up) = rw (raised-in fs y h q in_rows r lo up, one-fill r lo up) room
      lower r hr (yes lo) (no up) = rw (raised-above fs y h q in_rows r (omega arith)) (g.low r hr)
      lower r hr (no lo) d = rw (raised_below fs y h q in_rows r (omega arith)) (g.low r hr)

      standing : (k : ℕ) → (k ≡ i) ⊎ In k ds → Stands Ts qs after filled k
      standing k (inl e) = rw e new-stands
      standing k (inr m) = old-stands k m

      parted : (a b : ℕ) → (a ≡ i) ⊎ In a ds → (b ≡ i) ⊎ In b ds → a ≢ b → (c r : ℕ) → CoversAt Ts qs after a c r → CoversAt Ts qs after b c r → ⊥
      parted a b (inl e) (inl f) ne c r p s = ne (e ∙ sym f)
      parted a b (inl e) (inr m) ne c r p s = new_apart b c r m s (rw e at p)
      parted a b (inr m) (inl f) ne c r p s = new_apart a c r m p (rw f at s)
      parted a b (inr m) (inr o) ne c r p s = g.apart a b m o ne c r (rw (old-start a m) at p) (rw (old-start b o) at s)

-- a placed probe is inside the width
pub stands-inside : (Ts qs ss fs : List ℕ) (i : ℕ) → Harmonic Ts → ((r : ℕ) → r < rows Ts → get_or fs r 0 ≤ shortest Ts) → Stands Ts qs ss fs i
    → corner_x Ts (get_or ss i 0) + get_or qs i 0 ≤ shortest Ts
stands-inside Ts qs ss fs i ha low s =
    let u = s.under (corner_y Ts (get_or Ts i 0) (get_or ss i 0)) (omega arith) (omega (arith, height-positive Ts ha i s.probe)) in
    omega (arith, u.1, low (corner_y Ts (get_or Ts i 0) (get_or ss i 0)) u.0)
