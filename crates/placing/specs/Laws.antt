-- LAWS FOR PLACING ONE PROBE.
--     found_bin             the search gives the first row of the sub-bin of first fit
--     row_in, row_out       the row that the search gives, and whether a sub-bin had room
--     row-grid, row_fits    it is a corner of the grid, and its h rows are rows
--     row-tried, row-stuck  what placing does, and what it leaves
-- Assumes nothing.
use Rattle.std.specs.Prelude.{◌≡◌, false, List, ℕ, zero, suc, ◌+◌, ◌*◌, ◌/◌, ◌≤◌, ◌<◌, length, get_or, set}
use Rattle.std.proofs.Math.Path.{refl, sym, ap}
use Rattle.std.proofs.Common.{◌∙◌, mul-le-mul_right, lt_of_mul-lt-mul_right, suc-mul, le-mul_of_pos_right, arith, lt-ltb, le-ltb}
use Rattle.std.proofs.Math.Bool.{true}
use Rattle.std.specs.Int.{◌∣◌}
use Rattle.std.proofs.Math.Nat.{dvd-mul_right, dvd-mul_left, mul_comm, mul-div_cancel_left}
use Rattle.std.proofs.Math.Decide.{dec_le}
use Rattle.lists.specs.Lowest.{Lowest}
use Rattle.table.specs.declared.Table.{Table}
use Rattle.probes.specs.Table.{most_period, most_rows, shortest, height}
use Rattle.probes.specs.Extremes.{shortest-least}
use Rattle.probes.specs.Heights.{height-positive, rows-slots, slots-times}
use Rattle.flipping.specs.declared.Chain.{Chain}
use Rattle.chain.specs.CornerLaws.{OnGrid}
use Rattle.grid.specs.Laws.{shortest-is}
use Rattle.stack.specs.Stack.{raised, Fits, bins, lowest_bin}
use Rattle.stack.specs.FirstFit.{bin_of, start_in}
use Rattle.stack.specs.Fitting.{lowest-bin}
use Rattle.placing.specs.Placing.{Ready, Tried}

module _ (Ts ps : List ℕ) (t : Table) (c : Chain) (ss fs : List ℕ) (i : ℕ) (g : Ready Ts ps t c ss fs i) where
  abbrev tall : ℕ
  tall = height Ts (get_or Ts i 0)

  pub tall-positive : 0 < height Ts (get_or Ts i 0)
  tall-positive = height-positive Ts g.prepared.harmonic i g.probe

  pub read_small : get_or ps i 0 ≤ most_period
  read_small = omega (arith, g.short, shortest-least Ts i g.probe, g.prepared.most i g.probe)

  pub tall-small : height Ts (get_or Ts i 0) ≤ most_rows
  tall-small = omega (arith, g.prepared.low, rows-slots Ts g.prepared.harmonic i g.probe, le-mul_of_pos_right tall (slotted (get_or Ts i 0 / shortest Ts) (slots-times Ts g.prepared.harmonic i g.probe)))
    where
      slotted : (x : ℕ) → shortest Ts * x ≡ get_or Ts i 0 → 0 < x
      slotted zero e = absurd (omega (arith, g.prepared.harmonic.positive i g.probe))
      slotted (suc x) e = omega arith

  rows_are : length fs ≡ tall * (get_or Ts i 0 / shortest Ts)
  rows_are = g.long ∙ rows-slots Ts g.prepared.harmonic i g.probe

  pub tall-divides : height Ts (get_or Ts i 0) ∣ length fs
  tall-divides = rw rows_are (dvd-mul_right tall (get_or Ts i 0 / shortest Ts))

  bins-are : bins fs tall * tall ≡ length fs
  unfolding bins
  bins-are = ap (λ (x : ℕ). x / tall * tall) rows_are ∙ ap (λ (x : ℕ). x * tall) (mul-div_cancel_left (get_or Ts i 0 / shortest Ts) tall-positive) ∙ mul_comm (get_or Ts i 0 / shortest Ts) tall ∙ sym rows_are

  found : Lowest (Fits fs tall (get_or ps i 0) (shortest Ts)) (bins fs tall) (bin_of Ts ps i fs)
  unfolding bin_of
  found = lowest-bin fs tall (get_or ps i 0) (shortest Ts)

  pub row-bin : (y : ℕ) → y ≡ lowest_bin fs (height Ts (get_or Ts i 0)) (get_or ps i 0) (shortest Ts) * height Ts (get_or Ts i 0) → y ≡ bin_of Ts ps i fs * height Ts (get_or Ts i 0)
  unfolding bin_of
  row-bin y e = e

  pub found_bin : (h y : ℕ) → h ≡ height Ts (get_or Ts i 0) → lowest_bin fs h (get_or ps i 0) t.shortest * h ≡ y → y ≡ bin_of Ts ps i fs * height Ts (get_or Ts i 0)
  found_bin h y e f = row-bin y (sym (rw (e, shortest-is Ts t c g.prepared) at f))

  module _ (y : ℕ) (e : y ≡ bin_of Ts ps i fs * height Ts (get_or Ts i 0)) where
    pub row_in : y < length fs → bin_of Ts ps i fs < bins fs (height Ts (get_or Ts i 0))
    row_in l = lt_of_mul-lt-mul_right tall (rw bins-are (rw e at l))

    pub row_out : length fs ≤ y → bins fs (height Ts (get_or Ts i 0)) ≤ bin_of Ts ps i fs
    row_out l = by (dec_le (bins fs tall) (bin_of Ts ps i fs))
      where
        by : Dec (bins fs tall ≤ bin_of Ts ps i fs) → bins fs tall ≤ bin_of Ts ps i fs
        by (yes o) = o
        by (no o) =
            let less : suc (bin_of Ts ps i fs) ≤ bins fs tall = omega arith in
            absurd (omega (arith, bins-are, mul-le-mul_right tall less, suc-mul (bin_of Ts ps i fs) tall, tall-positive))

    module _ (l : y < length fs) where
      fit : get_or fs y 0 + get_or ps i 0 ≤ shortest Ts
      fit = rw e (found.found (row_in l))

      pub row_fits : y + height Ts (get_or Ts i 0) ≤ length fs
      row_fits =
          let less : suc (bin_of Ts ps i fs) ≤ bins fs tall = row_in l in
          omega (arith, bins-are, mul-le-mul_right tall less, suc-mul (bin_of Ts ps i fs) tall)

      pub row-grid : OnGrid Ts (get_or Ts i 0) (get_or fs y 0) y
      row-grid = record { wide = omega (arith, fit, g.some); aligned = rw e (dvd-mul_left tall (bin_of Ts ps i fs)); high = omega (arith, g.long) }

      pub row-tried : (s : ℕ) (gs : List ℕ) → s ≡ Rattle.chain.specs.Corners.start_of Ts (get_or Ts i 0) (get_or fs y 0) y → gs ≡ raised fs y (height Ts (get_or Ts i 0)) (get_or ps i 0)
          → Tried Ts ps ss fs i true (set ss i s) gs
      unfolding start_in
      row-tried s gs es eg = record {
        verdict = sym (lt-ltb (bin_of Ts ps i fs) (bins fs tall) (row_in l));
        placed = λ z. (rw (es, e), rw (eg, e));
        stayed = λ z. absurd (Rattle.lists.specs.Telling.true-or-false true refl z);
      }

    pub row-stuck : length fs ≤ y → Tried Ts ps ss fs i false ss fs
    row-stuck l = record {
      verdict = sym (le-ltb (bin_of Ts ps i fs) (bins fs tall) (row_out l));
      placed = λ z. absurd (Rattle.lists.specs.Telling.true-or-false false z refl);
      stayed = λ z. (refl, refl);
    }
