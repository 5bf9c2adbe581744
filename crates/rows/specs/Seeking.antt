-- THE LOWEST SUB-BIN WITH ROOM, FOUND ROW BY ROW. Document 01, "First fit": "take the lowest sub-bin j, from 0, with fill of row j*h plus p at most w".
-- A search steps from the first row of a sub-bin to that of the next, by h rows; the height h divides the number of rows.
--     Seeking rows h p w y     a search stands at row y: y is the first row of a sub-bin, and no sub-bin below it has room
--     seeking-start            it begins at row 0
--     seeking-within           where a row y is left, all h rows of its sub-bin are
--     seeking-next             a sub-bin without room is passed
--     seeking-found            a sub-bin with room is the lowest: the search ends at its first row
--     seeking-none             past the last row no sub-bin has room
--     seeking-past             .. and the number of sub-bins is found, which stands for none
--     FirstRow rows h p w r    what the search answers: r is the first row of the lowest sub-bin with room, or none
-- Edges: with no rows the search ends at row 0, the number of rows.
-- Not said here: that the rows of a sub-bin have one fill, so that its first row speaks for all (crate stack, specs/Rows).
-- Assumes nothing.
use Rattle.std.specs.Prelude.{◌≡◌, List, ℕ, ◌+◌, ◌*◌, ◌≤◌, ◌<◌, length, get_or, Option, MatchOption}
use Rattle.std.proofs.Common.{sym, ◌∙◌, zero-mul}
use Rattle.std.proofs.Math.Path.{ap}
use Rattle.std.specs.Int.{◌∣◌}
use Rattle.std.proofs.Math.Nat.{div-mul_cancel, mul-le-mul_right}
use Rattle.std.proofs.Math.Decide.{dec_lt}
use native.Mathlib.Omega.{arith}
use Rattle.lists.specs.Pick.{Tells}
use Rattle.lists.specs.Lowest.{Searching, searching-start, searching-next, searching-found, searching-none}
use Rattle.lists.specs.Telling.{tells-le, tells-true, tells-false}
use Rattle.stack.specs.Stack.{fits, bins, lowest_bin}

abbrev pub FirstRow : List ℕ → ℕ → ℕ → ℕ → Option ℕ → Type 0
FirstRow rows h p w r = MatchOption r (lowest_bin rows h p w * h ≡ length rows) (λ y. (y < length rows) × (lowest_bin rows h p w * h ≡ y))

pub record Seeking (rows : List ℕ) (h p w y : ℕ) : Type 0 where
  pub bin : ℕ
  pub first-row : y ≡ bin * h
  pub tried : Searching (fits rows h p w) (bins rows h) bin

pub seeking-start : (rows : List ℕ) (h p w : ℕ) → Seeking rows h p w 0
seeking-start rows h p w = record { bin = 0; first-row = sym (zero-mul h); tried = searching-start (fits rows h p w) (bins rows h) }

module _ (rows : List ℕ) (h p w y : ℕ) (z : 0 < h) (d : h ∣ length rows) (s : Seeking rows h p w y) where
  all-bins : bins rows h * h ≡ length rows
  unfolding bins
  all-bins = div-mul_cancel h d

  bin-within : y < length rows → s.bin < bins rows h
  bin-within l = by (dec_lt s.bin (bins rows h))
    where
      by : Dec (s.bin < bins rows h) → s.bin < bins rows h
      by (yes b) = b
      by (no b) =
          let o : bins rows h ≤ s.bin = omega arith in
          absurd (omega (arith, mul-le-mul_right h o, all-bins, s.first-row))

  fits-tells : Tells (fits rows h p w s.bin) (get_or rows y 0 + p ≤ w)
  unfolding fits
  fits-tells = rw s.first-row (tells-le (get_or rows (s.bin * h) 0 + p) w)

  pub seeking-within : y < length rows → y + h ≤ length rows
  seeking-within l =
      let o : s.bin + 1 ≤ bins rows h = omega (arith, bin-within l) in
      omega (arith, mul-le-mul_right h o, all-bins, s.first-row)

  pub seeking-next : y < length rows → (get_or rows y 0 + p ≤ w → ⊥) → Seeking rows h p w (y + h)
  seeking-next l n =
      record {
        bin = s.bin + 1;
        first-row = omega (arith, s.first-row);
        tried = searching-next (fits rows h p w) (bins rows h) s.bin (bin-within l) (tells-false (fits rows h p w s.bin) fits-tells n) s.tried;
      }

  pub seeking-found : y < length rows → get_or rows y 0 + p ≤ w → y ≡ lowest_bin rows h p w * h
  unfolding lowest_bin
  seeking-found l f =
      s.first-row
      ∙ ap (λ (j : ℕ). j * h)
      (searching-found (fits rows h p w) (bins rows h) s.bin (bin-within l) (tells-true (fits rows h p w s.bin) fits-tells f) s.tried)

  pub seeking-none : length rows ≤ y → y ≡ lowest_bin rows h p w * h
  unfolding lowest_bin
  seeking-none l = s.first-row ∙ ap (λ (j : ℕ). j * h) (searching-none (fits rows h p w) (bins rows h) s.bin past s.tried)
    where
      past : bins rows h ≤ s.bin
      past = by (dec_lt s.bin (bins rows h))
        where
          by : Dec (s.bin < bins rows h) → bins rows h ≤ s.bin
          by (yes b) =
              let o : s.bin + 1 ≤ bins rows h = omega arith in
              absurd (omega (arith, mul-le-mul_right h o, all-bins, s.first-row))
          by (no b) = omega arith

  pub seeking-past : length rows ≤ y → lowest_bin rows h p w * h ≡ length rows
  seeking-past l = sym (seeking-none l) ∙ end
    where
      end : y ≡ length rows
      end = omega (arith, mul-le-mul_right h s.tried.within, all-bins, s.first-row)
