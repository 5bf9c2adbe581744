-- THE MOVE TO o KEEPS A LINE CLEAN. Document 01, the packing verdict: "let o be the start .., replace each s by the remainder of s - o by T".
--     length_moved, moved_at   the moved list, place by place
--     moved-lt                 each moved start lies below its period
--     apart-moved, -at-moved   a pair that is moved alike passes the test as before
--     clean-test-moved         so does the line
--     clean-moved              and it is clean exactly when it was
-- Edges: o is any number, also past a period; the starts may be any numbers.
-- Assumes nothing.
use Rattle.std.specs.Prelude.{◌≡◌, ◌↔◌, List, [], ◌∷◌, length, get_or}
use Rattle.std.proofs.Math.Path.{refl}
use Rattle.std.proofs.Common.{sym, ap, ◌∙◌, le_of_lt, arith}
use Prim.Native.Nat.{ℕ, zero, suc, ◌≤◌, ◌<◌, ◌∣◌}
use Rattle.std.proofs.Math.Nat.{suc_inj}
use Rattle.std.proofs.Math.Decide.{dec_le}
use Rattle.lists.specs.Pick.{Tells}
use Rattle.lists.specs.Harmonic.{Harmonic, Positive}
use Rattle.lists.specs.Telling.{tells-true}
use Rattle.wire.specs.Wire.{Clean}
use Rattle.wire.specs.Meeting.{lag, apart, apart_at, apart_below, clean_below, clean, moved}
use Rattle.wire.proofs.Lag.{lag-lt, lag-moved}
use Rattle.wire.proofs.CleanTest.{apart_by, at-by-first, at-by-second, clean-tells}

pub length_moved : (o : ℕ) (Ts ss : List ℕ) → length Ts ≡ length ss → length (moved o Ts ss) ≡ length ss
unfolding moved
length_moved o [] [] e = refl
length_moved o [] (s ∷ ss) e = absurd (omega arith)
length_moved o (T ∷ Ts) [] e = absurd (omega arith)
length_moved o (T ∷ Ts) (s ∷ ss) e = ap suc (length_moved o Ts ss (suc_inj e))

pub moved_at : (o : ℕ) (Ts ss : List ℕ) (i : ℕ) → i < length Ts → i < length ss → get_or (moved o Ts ss) i 0 ≡ lag (get_or Ts i 0) o (get_or ss i 0)
unfolding moved
moved_at o [] ss i h k = absurd (omega arith)
moved_at o (T ∷ Ts) [] i h k = absurd (omega arith)
moved_at o (T ∷ Ts) (s ∷ ss) zero h k = refl
moved_at o (T ∷ Ts) (s ∷ ss) (suc i) h k = moved_at o Ts ss i (omega arith) (omega arith)

pub moved-lt : (o : ℕ) (Ts ss : List ℕ) (i : ℕ) → i < length Ts → i < length ss → 0 < get_or Ts i 0 → get_or (moved o Ts ss) i 0 < get_or Ts i 0
moved-lt o Ts ss i h k p = rw (moved_at o Ts ss i h k) (lag-lt (get_or Ts i 0) o (get_or ss i 0) p)

pub apart-moved : (T q s U r u o : ℕ) → T ∣ U → 0 < U → apart T q (lag T o s) U r (lag U o u) ≡ apart T q s U r u
unfolding apart
apart-moved T q s U r u o d h = rw (lag-moved T U o s u d h)

module _ (o : ℕ) (Ts qs ss : List ℕ) (har : Harmonic Ts) (same : length Ts ≡ length ss) where
  by-moved : (i j : ℕ) → i < length Ts → j < length Ts → get_or Ts i 0 ≤ get_or Ts j 0 → apart_by Ts qs (moved o Ts ss) i j ≡ apart_by Ts qs ss i j
  by-moved i j hi hj l =
      rw (moved_at o Ts ss i hi (omega arith), moved_at o Ts ss j hj (omega arith))
      (apart-moved _ _ (get_or ss i 0) _ _ (get_or ss j 0) o (har.divides i j hi hj l) (har.positive j hj))

  pub apart-at-moved : (i j : ℕ) → i < length Ts → j < length Ts → apart_at Ts qs (moved o Ts ss) i j ≡ apart_at Ts qs ss i j
  apart-at-moved i j hi hj = by (dec_le (get_or Ts i 0) (get_or Ts j 0))
    where
      by : Dec (get_or Ts i 0 ≤ get_or Ts j 0) → apart_at Ts qs (moved o Ts ss) i j ≡ apart_at Ts qs ss i j
      by (yes l) = (at-by-first Ts qs (moved o Ts ss) i j l).0 ∙ by-moved i j hi hj l ∙ sym (at-by-first Ts qs ss i j l).0
      by (no l) =
          let m : get_or Ts j 0 < get_or Ts i 0 = omega arith in
          (at-by-second Ts qs (moved o Ts ss) i j m).0 ∙ by-moved j i hj hi (le_of_lt m) ∙ sym (at-by-second Ts qs ss i j m).0

  below-moved : (j i : ℕ) → i ≤ j → j < length Ts → apart_below Ts qs (moved o Ts ss) j i ≡ apart_below Ts qs ss j i
  unfolding apart_below
  below-moved j zero l h = refl
  below-moved j (suc i) l h = rw (apart-at-moved i j (omega arith) h, below-moved j i (omega arith) h)

  pairs-moved : (n : ℕ) → n ≤ length Ts → clean_below Ts qs (moved o Ts ss) n ≡ clean_below Ts qs ss n
  unfolding clean_below
  pairs-moved zero l = refl
  pairs-moved (suc j) l = rw (below-moved j j (omega arith) l, pairs-moved j (omega arith))

  pub clean-test-moved : clean Ts qs (moved o Ts ss) ≡ clean Ts qs ss
  unfolding clean
  clean-test-moved = pairs-moved (length Ts) (omega arith)

  pub clean-moved : Positive qs (length Ts) → Clean Ts qs ss ↔ Clean Ts qs (moved o Ts ss)
  clean-moved pos = (
    λ c. after.yes (clean-test-moved ∙ tells-true (clean Ts qs ss) before c),
    λ c. before.yes (sym clean-test-moved ∙ tells-true (clean Ts qs (moved o Ts ss)) after c),
  )
    where
      before : Tells (clean Ts qs ss) (Clean Ts qs ss)
      before = clean-tells Ts qs ss har pos

      after : Tells (clean Ts qs (moved o Ts ss)) (Clean Ts qs (moved o Ts ss))
      after = clean-tells Ts qs (moved o Ts ss) har pos
