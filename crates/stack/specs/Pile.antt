-- THE STACK OVER ANY ROWS. Reads put one after another into rows of any number, each into a sub-bin of its height, heights falling: whatever picks the sub-bins.
--     Read                  a read in the rows: its height h and width q, its first row y, and its place x, the fill that its rows had
--     Piled rs fs           rows of one sub-bin have one fill, each read lies under the fills of its rows, no two have a cell in common, and the fills add up to the reads
--     pile-start, pile-step no read and empty rows; one read more, of a height that divides those before, in any sub-bin
--     pile-low              where the read fits in w, no fill passes w
--     line-never            two reads on the same line of H rows, each inside the width, never meet on the wire: their starts are those of their corners, rows taken within the line
--     lines-meet            and of two lines nothing of the kind: period 10, length 10 twice over two rows have the start 0 each, and meet
-- Assumes nothing.
use Rattle.std.specs.Prelude.{◌≡◌, ℕ, zero, suc, ◌+◌, ◌-◌, ◌*◌, ◌/◌, ◌%◌, ◌≤◌, ◌<◌, get_or, replicate}
use Rattle.std.proofs.Common.{sym, ap, ◌∙◌, arith}
use mathlib.Core.List.{List, [], ◌∷◌}
use Rattle.std.specs.Int.{◌∣◌}
use native.Mathlib.Nat.{div-eq_of_lt-le, add-mul, one-mul, mul-div_cancel, div-add-mod', mod-lt, dvd-mod_iff, dvd-mul_right}
use Rattle.std.proofs.Math.Decide.{dec_lt, dec_le}
use Rattle.std.proofs.Math.ListN.{length}
use Rattle.std.proofs.lemmas.List.{length-replicate, get_or-replicate}
use Rattle.lists.specs.Harmonic.{Harmonic, Positive}
use Rattle.wire.specs.Wire.{NeverMeet}
use Rattle.probes.specs.Table.{shortest, rows, height}
use Rattle.probes.specs.Heights.{height-positive, rows-slots}
use Rattle.chain.specs.Corners.{corner_x, corner_y, start_of}
use Rattle.chain.specs.CornerLaws.{OnGrid}
use Rattle.chain.proofs.CornerLaws.{start-below, corner-of-start}
use Rattle.stack.specs.Stack.{raised}
use Rattle.stack.specs.Packing.{Covers}
use Rattle.stack.specs.Rows.{sum, length-raised, raised_below, raised-in, raised-above, raised-more, sum-raised, sum-none, LevelRows, level-raised}
use Rattle.stack.specs.PackingLaws.{pair-never}

pub record Read : Type 0 where
  pub h : ℕ
  pub q : ℕ
  pub y : ℕ
  pub x : ℕ

abbrev pub Cell : Read → ℕ → ℕ → Type 0
Cell b c r = Covers b.x b.y b.q b.h c r

unfoldable pub Tall : ℕ → List Read → Type 0
Tall k [] = Unit {0}
Tall k (b ∷ bs) = (k ∣ b.h) × Tall k bs

-- the read lies under the fills of its rows
abbrev pub Under : List ℕ → Read → Type 0
Under fs b = (r : ℕ) → b.y ≤ r → r < b.y + b.h → (r < length fs) × (b.x + b.q ≤ get_or fs r 0)

unfoldable pub AllUnder : List ℕ → List Read → Type 0
AllUnder fs [] = Unit {0}
AllUnder fs (b ∷ bs) = Under fs b × AllUnder fs bs

unfoldable pub ApartFrom : Read → List Read → Type 0
ApartFrom b [] = Unit {0}
ApartFrom b (d ∷ ds) = ((c r : ℕ) → Cell d c r → Cell b c r → ⊥) × ApartFrom b ds

unfoldable pub AllApart : List Read → Type 0
AllApart [] = Unit {0}
AllApart (b ∷ bs) = ApartFrom b bs × AllApart bs

unfoldable pub weight : List Read → ℕ
weight [] = 0
weight (b ∷ bs) = b.q * b.h + weight bs

pub record Piled (bs : List Read) (fs : List ℕ) : Type 0 where
  pub level : (k : ℕ) → Tall k bs → LevelRows k fs
  pub under : AllUnder fs bs
  pub apart : AllApart bs
  pub count : sum fs ≡ weight bs

pub pile-start : (n : ℕ) → Piled [] (replicate n 0)
unfolding AllUnder AllApart weight
pile-start n = record {
  level = λ k all r s hr hs e. get_or-replicate {A = ℕ} n r 0 0 (rw (length-replicate {A = ℕ} n 0) at hr) ∙ sym (get_or-replicate {A = ℕ} n s 0 0 (rw (length-replicate {A = ℕ} n 0) at hs));
  under = tt;
  apart = tt;
  count = sum-none n;
}

-- fills that only grow keep every read under them
under_grows : (fs gs : List ℕ) (bs : List Read) → length gs ≡ length fs → ((r : ℕ) → get_or fs r 0 ≤ get_or gs r 0) → AllUnder fs bs → AllUnder gs bs
unfolding AllUnder
under_grows fs gs [] e m u = tt
under_grows fs gs (b ∷ bs) e m (u, us) = ((λ r lo up. (omega (arith, (u r lo up).0), omega (arith, (u r lo up).1, m r))), under_grows fs gs bs e m us)

module _ (bs : List Read) (fs : List ℕ) (g : Piled bs fs) (h q j : ℕ) (z : 0 < h) (tall : Tall h bs) (fits : j * h + h ≤ length fs) where
  abbrev new : Read
  new = record { h = h; q = q; y = j * h; x = get_or fs (j * h) 0 }

  pub one-fill : (r : ℕ) → j * h ≤ r → r < j * h + h → get_or fs r 0 ≡ get_or fs (j * h) 0
  one-fill r lo up =
      g.level h tall r (j * h) (omega arith) (omega arith)
      (div-eq_of_lt-le h lo (omega (arith, add-mul j 1 h, one-mul h)) ∙ sym (mul-div_cancel j z))

  -- the new read begins where those under it end
  new_apart : (ds : List Read) → AllUnder fs ds → ApartFrom new ds
  unfolding AllUnder ApartFrom
  new_apart [] u = tt
  new_apart (d ∷ ds) (u, us) = ((λ c r a b. omega (arith, (u r a.2 a.3).1, one-fill r b.2 b.3, a.1, b.0)), new_apart ds us)

  pub pile-step : Piled (new ∷ bs) (raised fs (j * h) h q)
  unfolding Tall AllUnder AllApart weight
  pile-step = record {
    level = λ k all. level-raised k h j q fs z all.0 fits (g.level k all.1);
    under = (λ r lo up. (rw long (omega arith), rw (raised-in fs (j * h) h q fits r lo up, one-fill r lo up) (omega arith)), under_grows fs (raised fs (j * h) h q) bs long (raised-more fs (j * h) h q fits) g.under);
    apart = (new_apart bs g.under, g.apart);
    count = sum-raised fs (j * h) h q fits ∙ omega (arith, g.count);
  }
    where
      long : length (raised fs (j * h) h q) ≡ length fs
      long = length-raised fs (j * h) h q fits

  pub pile-low : (w : ℕ) → get_or fs (j * h) 0 + q ≤ w → ((r : ℕ) → r < length fs → get_or fs r 0 ≤ w) → (r : ℕ) → r < length fs → get_or (raised fs (j * h) h q) r 0 ≤ w
  pile-low w room low r hr = by (dec_le (j * h) r) (dec_lt r (j * h + h))
    where
      by : Dec (j * h ≤ r) → Dec (r < j * h + h) → get_or (raised fs (j * h) h q) r 0 ≤ w
      by (yes lo) (yes up) = rw (raised-in fs (j * h) h q fits r lo up, one-fill r lo up) room
      by (yes lo) (no up) = rw (raised-above fs (j * h) h q fits r (omega arith)) (low r hr)
      by (no lo) d = rw (raised_below fs (j * h) h q fits r (omega arith)) (low r hr)

-- one line of H rows: the reads of two probes of the table, in rows y and y' of any number
module _ (Ts qs ss : List ℕ) (ha : Harmonic Ts) (pos : Positive qs (length Ts)) (i : ℕ) (hi : i < length Ts) (x y : ℕ)
    (inside : x + get_or qs i 0 ≤ shortest Ts) (aligned : height Ts (get_or Ts i 0) ∣ y) (start : get_or ss i 0 ≡ start_of Ts (get_or Ts i 0) x (y % rows Ts)) where
  rows-positive : 0 < rows Ts
  rows-positive = rw (rows-slots Ts ha i hi) (native.Mathlib.Nat.mul-pos (height-positive Ts ha i hi) (slots (get_or Ts i 0 / shortest Ts) (Rattle.probes.specs.Heights.slots-times Ts ha i hi)))
    where
      slots : (k : ℕ) → shortest Ts * k ≡ get_or Ts i 0 → 0 < k
      slots zero e = absurd (omega (arith, ha.positive i hi))
      slots (suc k) e = omega arith

  line-grid : OnGrid Ts (get_or Ts i 0) x (y % rows Ts)
  line-grid = record {
    wide = omega (arith, pos i hi);
    aligned = (dvd-mod_iff (height Ts (get_or Ts i 0)) {m = y} {n = rows Ts} (rw (rows-slots Ts ha i hi) (dvd-mul_right (height Ts (get_or Ts i 0)) (get_or Ts i 0 / shortest Ts)))).1 aligned;
    high = mod-lt y rows-positive;
  }

  pub line-below : get_or ss i 0 < get_or Ts i 0
  line-below = rw start (start-below Ts ha i hi x (y % rows Ts) line-grid)

  pub line_x : corner_x Ts (get_or ss i 0) ≡ x
  line_x = ap (corner_x Ts) start ∙ (corner-of-start Ts ha i hi x (y % rows Ts) line-grid).0

  pub line-y : corner_y Ts (get_or Ts i 0) (get_or ss i 0) ≡ y % rows Ts
  line-y = ap (corner_y Ts (get_or Ts i 0)) start ∙ (corner-of-start Ts ha i hi x (y % rows Ts) line-grid).1

pub line-never : (Ts qs ss : List ℕ) → Harmonic Ts → Positive qs (length Ts) → (i j : ℕ) → i < length Ts → j < length Ts → (x y x' y' : ℕ)
    → x + get_or qs i 0 ≤ shortest Ts → x' + get_or qs j 0 ≤ shortest Ts → height Ts (get_or Ts i 0) ∣ y → height Ts (get_or Ts j 0) ∣ y'
    → get_or ss i 0 ≡ start_of Ts (get_or Ts i 0) x (y % rows Ts) → get_or ss j 0 ≡ start_of Ts (get_or Ts j 0) x' (y' % rows Ts)
    → y / rows Ts ≡ y' / rows Ts
    → ((c r : ℕ) → Covers x y (get_or qs i 0) (height Ts (get_or Ts i 0)) c r → Covers x' y' (get_or qs j 0) (height Ts (get_or Ts j 0)) c r → ⊥)
    → NeverMeet (get_or Ts i 0) (get_or qs i 0) (get_or ss i 0) (get_or Ts j 0) (get_or qs j 0) (get_or ss j 0)
line-never Ts qs ss ha pos i j hi hj x y x' y' fi fj ai aj si sj line none =
    let xi = line_x Ts qs ss ha pos i hi x y fi ai si in
    let yi = line-y Ts qs ss ha pos i hi x y fi ai si in
    let xj = line_x Ts qs ss ha pos j hj x' y' fj aj sj in
    let yj = line-y Ts qs ss ha pos j hj x' y' fj aj sj in
    pair-never Ts qs ss ha pos i j hi hj (line-below Ts qs ss ha pos i hi x y fi ai si) (line-below Ts qs ss ha pos j hj x' y' fj aj sj) (rw xi fi) (rw xj fj)
    (λ c r a b.
    let a₀ : x ≤ c = rw xi at a.0 in
    let a₁ : c < x + get_or qs i 0 = rw xi at a.1 in
    let a₂ : y % rows Ts ≤ r = rw yi at a.2 in
    let a₃ : r < y % rows Ts + height Ts (get_or Ts i 0) = rw yi at a.3 in
    let b₀ : x' ≤ c = rw xj at b.0 in
    let b₁ : c < x' + get_or qs j 0 = rw xj at b.1 in
    let b₂ : y' % rows Ts ≤ r = rw yj at b.2 in
    let b₃ : r < y' % rows Ts + height Ts (get_or Ts j 0) = rw yj at b.3 in
    let same : y / rows Ts * rows Ts ≡ y' / rows Ts * rows Ts = ap (λ (k : ℕ). k * rows Ts) line in
    none c (y / rows Ts * rows Ts + r)
    (a₀, a₁, omega (arith, div-add-mod' y (rows Ts)), omega (arith, div-add-mod' y (rows Ts)))
    (b₀, b₁, omega (arith, div-add-mod' y' (rows Ts)), omega (arith, div-add-mod' y' (rows Ts))))

pub lines-meet : NeverMeet 10 10 0 10 10 0 → ⊥
lines-meet never = never 0 (omega arith, omega arith) (omega arith, omega arith)
