-- COLUMNS IN THE LIBRARY'S WORDS: what its methods give is what specs/Columns asks for.
--     shortest_by_reduce, longest_by_fold                   the least and the longest period
--     bad-period-at, bad-length-at, late-at     the lowest place at which 3, 4 and 9 apply
-- Assumes nothing.
use Rattle.std.specs.Prelude.{◌≡◌, refl, Bool, true, false, List, [], ◌∷◌, ℕ, zero, suc, ◌≤◌, ◌<◌, min, max, eqb, ltb, leb, ◌||◌, Option, Some, None, length, fold, zip, position}
use Rattle.std.proofs.Common.{◌∙◌, ap, arith, get_or}
use Rattle.std.specs.List.{reduce}
use Rattle.std.specs.Option.{unwrap_or}
use Rattle.lists.specs.Pick.{either}
use Rattle.lists.specs.Lowest.{FirstAt, lowest}
use Rattle.lists.proofs.Searches.{first-at, found-at, none-at}
use Rattle.words.specs.Ticks.{most_period}
use Rattle.probes.specs.Columns.{shortest, longest, least_of, greatest_of, bad_period, bad_length, late}

least-of-folds : (m : ℕ) (Ts : List ℕ) → fold min m Ts ≡ least_of m Ts
unfolding least_of
least-of-folds m [] = refl
least-of-folds m (T ∷ Ts) = least-of-folds (min m T) Ts

greatest-of-folds : (m : ℕ) (Ts : List ℕ) → fold max m Ts ≡ greatest_of m Ts
unfolding greatest_of
greatest-of-folds m [] = refl
greatest-of-folds m (T ∷ Ts) = greatest-of-folds (max m T) Ts

shortest-reduces : (Ts : List ℕ) → unwrap_or (reduce min Ts) 0 ≡ shortest Ts
unfolding shortest
shortest-reduces [] = refl
shortest-reduces (T ∷ Ts) = least-of-folds T Ts

pub shortest_by_reduce : (Ts : List ℕ) (w : ℕ) → w ≡ unwrap_or (reduce min Ts) 0 → w ≡ shortest Ts
shortest_by_reduce Ts w e = e ∙ shortest-reduces Ts

pub longest_by_fold : (Ts : List ℕ) (m : ℕ) → m ≡ fold max 0 Ts → m ≡ longest Ts
unfolding longest
longest_by_fold Ts m e = e ∙ greatest-of-folds 0 Ts

either-or : (a b : Bool) → either a b ≡ (a || b)
either-or true b = refl
either-or false b = refl

pub bad-period-at : (Ts : List ℕ) (r : Option ℕ) → r ≡ position (λ t. ltb t 1 || ltb most_period t) Ts → FirstAt (bad_period Ts) (length Ts) r
unfolding bad_period
bad-period-at Ts r e = first-at (λ t. ltb t 1 || ltb most_period t) 0 Ts (bad_period Ts) (λ k h. either-or (ltb (get_or Ts k 0) 1) (ltb most_period (get_or Ts k 0))) r e

pub bad-length-at : (w : ℕ) (ps : List ℕ) (r : Option ℕ) → r ≡ position (λ p. eqb p 0 || ltb w p) ps → FirstAt (bad_length w ps) (length ps) r
unfolding bad_length
bad-length-at w ps r e = first-at (λ p. eqb p 0 || ltb w p) 0 ps (bad_length w ps) (λ k h. either-or (eqb (get_or ps k 0) 0) (ltb w (get_or ps k 0))) r e

-- .. of a table, whose lengths are as many as its periods
pub bad-lengths-at : (Ts ps : List ℕ) (w : ℕ) (r : Option ℕ) → w ≡ shortest Ts → length Ts ≡ length ps → r ≡ position (λ p. eqb p 0 || ltb w p) ps → FirstAt (bad_length (shortest Ts) ps) (length Ts) r
bad-lengths-at Ts ps w r e same f = rw (e, ← same) at (bad-length-at w ps r f)

length-zip : (Ts ss : List ℕ) → length Ts ≤ length ss → length (zip Ts ss) ≡ length Ts
length-zip [] ss h = refl
length-zip (T ∷ Ts) [] h = absurd (omega arith)
length-zip (T ∷ Ts) (s ∷ ss) h = ap suc (length-zip Ts ss (omega arith))

late-zipped : (Ts ss : List ℕ) (k : ℕ) → length Ts ≤ length ss → k < length Ts → leb (get_or Ts k 0) (get_or ss k 0) ≡ leb (get_or (zip Ts ss) k (0, 0)).0 (get_or (zip Ts ss) k (0, 0)).1
late-zipped [] ss k h b = absurd (omega arith)
late-zipped (T ∷ Ts) [] k h b = absurd (omega arith)
late-zipped (T ∷ Ts) (s ∷ ss) zero h b = refl
late-zipped (T ∷ Ts) (s ∷ ss) (suc k) h b = late-zipped Ts ss k (omega arith) (omega arith)

pub late-at : (Ts ss : List ℕ) (r : Option ℕ) → length Ts ≤ length ss → r ≡ position (λ x. leb x.0 x.1) (zip Ts ss) → FirstAt (late Ts ss) (length Ts) r
unfolding late
late-at Ts ss r h e =
    let found : FirstAt (late Ts ss) (length (zip Ts ss)) r = first-at (λ (x : ℕ × ℕ). leb x.0 x.1) (0, 0) (zip Ts ss) (late Ts ss) (λ k b. late-zipped Ts ss k h (rw (length-zip Ts ss h) at b)) r e in
    rw (length-zip Ts ss h) at found

-- a search that found one, or none, in 01's words
pub no-bad-period : (Ts : List ℕ) (r : Option ℕ) → r ≡ position (λ t. ltb t 1 || ltb most_period t) Ts → r ≡ None → length Ts ≤ lowest (bad_period Ts) (length Ts)
no-bad-period Ts r e n = none-at (bad_period Ts) _ r (bad-period-at Ts r e) n

pub no-bad-length : (Ts ps : List ℕ) (w : ℕ) (r : Option ℕ) → w ≡ shortest Ts → length Ts ≡ length ps → r ≡ position (λ p. eqb p 0 || ltb w p) ps → r ≡ None
    → length Ts ≤ lowest (bad_length (shortest Ts) ps) (length Ts)
no-bad-length Ts ps w r f same e n = none-at (bad_length (shortest Ts) ps) _ r (bad-lengths-at Ts ps w r f same e) n

pub late-found : (Ts ss : List ℕ) (r : Option ℕ) (i : ℕ) → length Ts ≤ length ss → r ≡ position (λ x. leb x.0 x.1) (zip Ts ss) → r ≡ Some i → (i < length Ts) × (i ≡ lowest (late Ts ss) (length Ts))
late-found Ts ss r i h e f = found-at (late Ts ss) _ r i (late-at Ts ss r h e) f

pub late-none : (Ts ss : List ℕ) (r : Option ℕ) → length Ts ≤ length ss → r ≡ position (λ x. leb x.0 x.1) (zip Ts ss) → r ≡ None → length Ts ≤ lowest (late Ts ss) (length Ts)
late-none Ts ss r h e n = none-at (late Ts ss) _ r (late-at Ts ss r h e) n
