-- STARTS AND RECTANGLES WITHOUT LOSS, CALL AFTER CALL. Document 01, "Slots and sub-bins": "The way back is exact for every corner that 18 doesn't refuse."
--     there_and_back        starts below their periods are converted, and their corners converted give the same starts
--     back-and-there        corners that 18 doesn't refuse are converted, and their starts converted give the same corners
-- Edges: of the columns that the first call wrote, the second is lent the first n entries; its own entries past n stay.
-- Assumes nothing.
use Rattle.std.specs.Prelude.{◌≡◌, ◌⊎◌, get_or}
use Rattle.std.proofs.Common.{sym, ◌∙◌, zero-add, arith, ext_get_or, take_all}
use Rattle.std.proofs.Math.Path.{ap}
use Rattle.std.proofs.Math.Logic.{⊎_elim}
use mathlib.Core.List.{List, [], ◌∷◌, ◌++◌}
use Prim.Native.Nat.{ℕ, ◌≤◌, ◌<◌}
use Rattle.std.proofs.Math.ListN.{length, take, drop}
use Rattle.std.proofs.lemmas.List.{take-append-le}
use Rattle.lists.specs.Harmonic.{Harmonic}
use Rattle.lists.specs.Refusals.{Silents, line, whole, first_rest}
use Rattle.lists.specs.Counted.{counted, length-counted, counted-at, filled}
use Rattle.words.specs.Answers.{done}
use Rattle.probes.specs.Table.{Sound, lines, late_line, DifferThree}
use Rattle.probes.proofs.Laws.{sound-gives}
use Rattle.chain.specs.Corners.{corner_x, corner_y, start_of, OffGrid}
use Rattle.chain.specs.CornerLaws.{OnGrid}
use Rattle.chain.proofs.CornerLaws.{grid-sound, grid-complete, corner-on-grid, start-of-corner, start-below, corner-of-start}
use Rattle.chain.specs.Grid.{x_at, y_at, start_at, OffGridAt}
use Rattle.rectangles.specs.Converting.{Corners, corners, corner_lines, refused_corners, done_corners, ToCorners, Starts, as_starts, DifferFour, start_lines, refused_starts, done_starts, ToStarts}
use Rattle.rectangles.specs.Sound.{silents-append}

-- the entries that were written
taken : (f : ℕ → ℕ) (n : ℕ) (l : List ℕ) → take n (filled f n l) ≡ counted f 0 n
taken f n l =
    let long : length (counted f 0 n) ≡ n = length-counted f 0 n in
    take-append-le n (counted f 0 n) (drop n l) (omega arith) ∙ take_all n (counted f 0 n) (omega arith)

at : (f : ℕ → ℕ) (n i : ℕ) → i < n → get_or (counted f 0 n) i 0 ≡ f i
at f n i h = counted-at f 0 n i h ∙ ap f (zero-add i)

counted_is : (f : ℕ → ℕ) (n : ℕ) (l : List ℕ) → n ≡ length l → ((i : ℕ) → i < n → f i ≡ get_or l i 0) → counted f 0 n ≡ l
counted_is f n l e g = ext_get_or 0 (counted f 0 n) l (length-counted f 0 n ∙ e) (λ i h. at f n i (rw (length-counted f 0 n) at h) ∙ g i (rw (length-counted f 0 n) at h))

module _ (Ts ps xs ys zs : List ℕ) (sound : Sound Ts ps) (same-x : length Ts ≡ length xs) (same-y : length Ts ≡ length ys) (long : length Ts ≤ length zs)
    (grid : (i : ℕ) → i < length Ts → OnGrid Ts (get_or Ts i 0) (get_or xs i 0) (get_or ys i 0)) where
  -- corners on the grid are converted
  starts-done : (r : Starts) → ToStarts Ts ps xs ys zs r → r ≡ done_starts Ts ps xs ys zs
  unfolding ToStarts Silents
  starts-done r = first_rest (start_lines Ts ps xs ys zs) (refused_starts Ts ps xs ys zs) (λ o. o ≡ done_starts Ts ps xs ys zs) r quiet
    where
      quiet : Silents (start_lines Ts ps xs ys zs)
      quiet =
          silents-append (lines Ts ps (DifferFour Ts ps xs ys zs)) (whole 7 (length zs < length Ts) ∷ line 18 (length Ts) (OffGridAt Ts xs ys) ∷ [])
          ((λ i h. ⊎_elim (λ n. n same-x) (⊎_elim (λ n. n same-y) (sound.0 i h))), sound.1) ((λ i h l. omega arith), ((λ i h. grid-sound _ _ _ _ (grid i h)), tt))

  starts-of : (ss : List ℕ) → length Ts ≡ length ss → ((i : ℕ) → i < length Ts → start_of Ts (get_or Ts i 0) (get_or xs i 0) (get_or ys i 0) ≡ get_or ss i 0)
      → (r : Starts) → ToStarts Ts ps xs ys zs r → r ≡ as_starts done (ss ++ drop (length Ts) zs)
  unfolding done_starts
  starts-of ss same back r t =
      starts-done r t ∙ ap (λ (l : List ℕ). as_starts done (l ++ drop (length Ts) zs)) (counted_is (start_at Ts xs ys) (length Ts) ss same back)

module _ (Ts ps ss us vs : List ℕ) (sound : Sound Ts ps) (same : length Ts ≡ length ss) (long-x : length Ts ≤ length us) (long-y : length Ts ≤ length vs)
    (below : (i : ℕ) → i < length Ts → get_or ss i 0 < get_or Ts i 0) where
  -- starts below their periods are converted
  corners-done : (r : Corners) → ToCorners Ts ps ss us vs r → r ≡ done_corners Ts ps ss us vs
  unfolding ToCorners Silents
  corners-done r = first_rest (corner_lines Ts ps ss us vs) (refused_corners Ts ps ss us vs) (λ o. o ≡ done_corners Ts ps ss us vs) r quiet
    where
      quiet : Silents (corner_lines Ts ps ss us vs)
      quiet =
          silents-append (lines Ts ps (DifferThree Ts ps ss)) (whole 7 ((length us < length Ts) ⊎ (length vs < length Ts)) ∷ late_line Ts ss ∷ [])
          ((λ i h. ⊎_elim (λ n. n same) (sound.0 i h)), sound.1) ((λ i h. ⊎_elim (λ l. omega arith) (λ l. omega arith)), ((λ i h l. omega (arith, below i h)), tt))

  corners-of : (xs ys : List ℕ) → length Ts ≡ length xs → length Ts ≡ length ys
      → ((i : ℕ) → i < length Ts → (corner_x Ts (get_or ss i 0) ≡ get_or xs i 0) × (corner_y Ts (get_or Ts i 0) (get_or ss i 0) ≡ get_or ys i 0))
      → (r : Corners) → ToCorners Ts ps ss us vs r → r ≡ corners done (xs ++ drop (length Ts) us) (ys ++ drop (length Ts) vs)
  unfolding done_corners
  corners-of xs ys same-x same-y back r t =
      corners-done r t
      ∙ ap (λ (l : List ℕ). corners done (l ++ drop (length Ts) us) (filled (y_at Ts ss) (length Ts) vs)) (counted_is (x_at Ts ss) (length Ts) xs same-x (λ i h. (back i h).0))
      ∙ ap (λ (l : List ℕ). corners done (xs ++ drop (length Ts) us) (l ++ drop (length Ts) vs)) (counted_is (y_at Ts ss) (length Ts) ys same-y (λ i h. (back i h).1))

module _ (Ts ps : List ℕ) (sound : Sound Ts ps) where
  harmonic : Harmonic Ts
  harmonic = (sound-gives Ts ps sound).harmonic

  pub there_and_back : (ss xs ys zs : List ℕ) → length Ts ≡ length ss → ((i : ℕ) → i < length Ts → get_or ss i 0 < get_or Ts i 0)
      → length Ts ≤ length xs → length Ts ≤ length ys → length Ts ≤ length zs → (o : Corners) (r : Starts) → ToCorners Ts ps ss xs ys o
      → ToStarts Ts ps (take (length Ts) o.xs) (take (length Ts) o.ys) zs r
      → (o.answer ≡ done) × (r ≡ as_starts done (ss ++ drop (length Ts) zs))
  unfolding done_corners
  there_and_back ss xs ys zs same below long-x long-y long o r t u =
      let e = corners-done Ts ps ss xs ys sound same long-x long-y below o t in
      let us : List ℕ = counted (x_at Ts ss) 0 (length Ts) in
      let vs : List ℕ = counted (y_at Ts ss) 0 (length Ts) in
      let ex : take (length Ts) o.xs ≡ us = ap (λ (c : Corners). take (length Ts) c.xs) e ∙ taken (x_at Ts ss) (length Ts) xs in
      let ey : take (length Ts) o.ys ≡ vs = ap (λ (c : Corners). take (length Ts) c.ys) e ∙ taken (y_at Ts ss) (length Ts) ys in (
        ap (λ (c : Corners). c.answer) e,
        starts-of Ts ps us vs zs sound (sym (length-counted (x_at Ts ss) 0 (length Ts))) (sym (length-counted (y_at Ts ss) 0 (length Ts))) long
            (λ i h. rw (at (x_at Ts ss) (length Ts) i h, at (y_at Ts ss) (length Ts) i h) (corner-on-grid Ts harmonic i h (get_or ss i 0) (below i h)))
            ss same
            (λ i h. rw (at (x_at Ts ss) (length Ts) i h, at (y_at Ts ss) (length Ts) i h) (start-of-corner Ts harmonic i h (get_or ss i 0) (below i h)))
            r (rw (ex, ey) at u),
      )

  pub back-and-there : (xs ys ss us vs : List ℕ) → length Ts ≡ length xs → length Ts ≡ length ys → ((i : ℕ) → i < length Ts → OffGrid Ts (get_or Ts i 0) (get_or xs i 0) (get_or ys i 0) → ⊥)
      → length Ts ≤ length ss → length Ts ≤ length us → length Ts ≤ length vs → (o : Starts) (r : Corners) → ToStarts Ts ps xs ys ss o
      → ToCorners Ts ps (take (length Ts) o.starts) us vs r
      → (o.answer ≡ done) × (r ≡ corners done (xs ++ drop (length Ts) us) (ys ++ drop (length Ts) vs))
  unfolding done_starts
  back-and-there xs ys ss us vs same-x same-y on long long-x long-y o r t u =
      let grid : (i : ℕ) → i < length Ts → OnGrid Ts (get_or Ts i 0) (get_or xs i 0) (get_or ys i 0) = λ i h. grid-complete _ _ _ _ (on i h) in
      let e = starts-done Ts ps xs ys ss sound same-x same-y long grid o t in
      let zs : List ℕ = counted (start_at Ts xs ys) 0 (length Ts) in
      let ez : take (length Ts) o.starts ≡ zs = ap (λ (c : Starts). take (length Ts) c.starts) e ∙ taken (start_at Ts xs ys) (length Ts) ss in (
        ap (λ (c : Starts). c.answer) e,
        corners-of Ts ps zs us vs sound (sym (length-counted (start_at Ts xs ys) 0 (length Ts))) long-x long-y
            (λ i h. rw (at (start_at Ts xs ys) (length Ts) i h) (start-below Ts harmonic i h (get_or xs i 0) (get_or ys i 0) (grid i h)))
            xs ys same-x same-y
            (λ i h. rw (at (start_at Ts xs ys) (length Ts) i h) (corner-of-start Ts harmonic i h (get_or xs i 0) (get_or ys i 0) (grid i h)))
            r (rw ez at u),
      )
