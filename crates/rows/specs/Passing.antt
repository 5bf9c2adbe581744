-- A COLUMN OF ROWS CHANGED IN PLACE, FROM ROW 0 UP. What the loop of src/ knows that raises the rows.
--     passed f rows i            the first i rows changed by f, the others as they were
--     Passing f rows now i       a loop has passed i rows: the column is now what `passed` says
--     passing-start              before the first row nothing is changed
--     passing-length             the number of rows stays
--     passing-at                 the row at which the loop stands is as it was
--     passing-next               that row changed, the loop has passed one more
--     passing-done               after the last row every row is changed
--     cleared, map-cleared       0, whatever a row held; rows so changed are as many zeros
-- Assumes nothing.
use Rattle.std.specs.Prelude.{◌≡◌, refl, ℕ, suc, ◌+◌, ◌≤◌, ◌<◌, get_or, take, replicate}
use Rattle.std.proofs.Math.Path.{sym, ap}
use Rattle.std.proofs.Common.{◌∙◌, add-one, arith, drop-cons, take_all, length-take-le}
use mathlib.Core.List.{List, [], ◌∷◌, ◌++◌, map, append-nil, append_assoc}
use Rattle.std.proofs.Math.ListN.{length, drop, set, length-append, length-drop, drop_of_length-le}
use Rattle.std.proofs.Math.Seq.{take-suc, set_at}
use Rattle.std.proofs.lemmas.List.{get_or_at}
use Rattle.stack.specs.Rows.{length-map}

unfoldable pub passed : (ℕ → ℕ) → List ℕ → ℕ → List ℕ
passed f rows i = map f (take i rows) ++ drop i rows

pub record Passing (f : ℕ → ℕ) (rows now : List ℕ) (i : ℕ) : Type 0 where
  pub within : i ≤ length rows
  pub is : now ≡ passed f rows i

map-append : (f : ℕ → ℕ) (xs ys : List ℕ) → map f (xs ++ ys) ≡ map f xs ++ map f ys
map-append f [] ys = refl
map-append f (x ∷ xs) ys = ap (λ (zs : List ℕ). f x ∷ zs) (map-append f xs ys)

-- what a cleared row holds, whatever it held
abbrev pub cleared : ℕ → ℕ
cleared x = 0

pub map-cleared : (rows : List ℕ) → map cleared rows ≡ replicate (length rows) 0
map-cleared [] = refl
map-cleared (x ∷ rows) = ap (λ (zs : List ℕ). 0 ∷ zs) (map-cleared rows)

pub passing-start : (f : ℕ → ℕ) (rows : List ℕ) → Passing f rows rows 0
unfolding passed
passing-start f rows = record { within = omega arith; is = refl }

module _ (f : ℕ → ℕ) (rows now : List ℕ) (i : ℕ) (g : Passing f rows now i) where
  front : length (map f (take i rows)) ≡ i
  front = length-map f (take i rows) ∙ length-take-le i rows g.within

  -- the column as the loop sees it: what is passed, the row at which it stands, what is to come
  split : i < length rows → now ≡ map f (take i rows) ++ get_or rows i 0 ∷ drop (suc i) rows
  unfolding passed
  split h = g.is ∙ ap (λ (zs : List ℕ). map f (take i rows) ++ zs) (drop-cons rows i 0 h)

  pub passing-length : length now ≡ length rows
  unfolding passed
  passing-length = ap length g.is ∙ length-append (map f (take i rows)) (drop i rows) ∙ whole
    where
      whole : length (map f (take i rows)) + length (drop i rows) ≡ length rows
      whole = rw (front, length-drop i rows) (omega (arith, g.within))

  pub passing-at : i < length rows → get_or now i 0 ≡ get_or rows i 0
  passing-at h = ap (λ (zs : List ℕ). get_or zs i 0) (split h) ∙ get_or_at (map f (take i rows)) (get_or rows i 0) (drop (suc i) rows) 0 i front

  pub passing-next : i < length rows → Passing f rows (set now i (f (get_or now i 0))) (i + 1)
  unfolding passed
  passing-next h =
      record {
        within = omega arith;
        is =
            ap (λ (x : ℕ). set now i (f x)) (passing-at h)
            ∙ ap (λ (zs : List ℕ). set zs i (f (get_or rows i 0))) (split h)
            ∙ set_at (map f (take i rows)) (get_or rows i 0) (drop (suc i) rows) (f (get_or rows i 0)) i front
            ∙ sym longer;
      }
    where
      longer : map f (take (i + 1) rows) ++ drop (i + 1) rows ≡ map f (take i rows) ++ f (get_or rows i 0) ∷ drop (suc i) rows
      longer =
          rw (add-one i, take-suc rows i 0 h, map-append f (take i rows) (get_or rows i 0 ∷ []))
          (append_assoc (map f (take i rows)) (f (get_or rows i 0) ∷ []) (drop (suc i) rows))

  pub passing-done : length rows ≤ i → now ≡ map f rows
  unfolding passed
  passing-done h = g.is ∙ whole
    where
      whole : map f (take i rows) ++ drop i rows ≡ map f rows
      whole = rw (take_all i rows h, drop_of_length-le rows h) (append-nil (map f rows))
