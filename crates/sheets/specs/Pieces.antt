-- PARTS OF A LIST OF BYTES.
--     join                  a part and the part behind it are one part
--     part-of-take          a part of the first e elements is a part of the whole
--     part-of-left          a part of the left of two lists is a part of both together
--     bytes_word            the bytes of the number at a place are the bytes at that place
--     word-part             a number in a part stands in the whole
--     bytes-are, append-are, run-are, zeros-are   bytes, of each way to make them
-- Assumes nothing.
use Rattle.std.specs.Prelude.{◌≡◌, refl, List, [], ◌∷◌, ◌++◌, ℕ, zero, suc, ◌+◌, ◌-◌, ◌/◌, ◌≤◌, ◌<◌, length, get_or, take, drop, replicate}
use Rattle.std.proofs.Common.{sym, ap, ◌∙◌, zero-add, suc-add, arith, length-drop, take-add, take-take, drop-drop, length-take-le, get_or-take, get_or-drop}
use Rattle.std.proofs.Math.Decide.{dec_le}
use Rattle.std.proofs.lemmas.List.{take-append-le, drop-append-le}
use Rattle.std.proofs.Math.Seq.{take-nil}
use Rattle.sheets.specs.Bytes.{AreBytes, bytes, value, word, AllZero}
use Rattle.sheets.specs.Runs.{run_from}
use Rattle.sheets.specs.ByteLaws.{bytes-value}

pub join : (a n m : ℕ) (l : List ℕ) → take n (drop a l) ++ take m (drop (a + n) l) ≡ take (n + m) (drop a l)
join a n m l = sym (take-add n m (drop a l) ∙ ap (λ (z : List ℕ). take n (drop a l) ++ take m z) (drop-drop n a l))

drop-take : (a k : ℕ) (l : List ℕ) → drop a (take (a + k) l) ≡ take k (drop a l)
drop-take zero k l = rw (zero-add k)
drop-take (suc a) k [] = rw (suc-add a k) (sym (take-nil k))
drop-take (suc a) k (x ∷ l) = rw (suc-add a k) (drop-take a k l)

pub part-of-take : (a m e : ℕ) (l : List ℕ) → a + m ≤ e → take m (drop a (take e l)) ≡ take m (drop a l)
part-of-take a m e l h =
    let g : e ≡ a + (e - a) = omega arith in
    ap (λ (n : ℕ). take m (drop a (take n l))) g ∙ ap (λ (z : List ℕ). take m z) (drop-take a (e - a) l) ∙ take-take m (e - a) (drop a l) (omega arith)

pub part-of-left : (a m : ℕ) (xs ys : List ℕ) → a + m ≤ length xs → take m (drop a (xs ++ ys)) ≡ take m (drop a xs)
part-of-left a m xs ys h =
    rw (drop-append-le a xs ys (omega arith)) (take-append-le m (drop a xs) ys (rw (length-drop a xs) (omega arith)))

-- bytes of parts
part-are : (a m : ℕ) (l : List ℕ) → AreBytes l → (i : ℕ) → i < m → get_or (take m (drop a l)) i 0 < 256
part-are a m l h i k = rw (get_or-take m (drop a l) i 0 k, get_or-drop a l i 0) (h (a + i))

past : (l : List ℕ) (i : ℕ) → length l ≤ i → get_or l i 0 ≡ 0
past [] i h = refl
past (x ∷ l) zero h = absurd (omega arith)
past (x ∷ l) (suc i) h = past l i (omega arith)

pub bytes-part : (a m : ℕ) (l : List ℕ) → AreBytes l → a + m ≤ length l → AreBytes (take m (drop a l))
bytes-part a m l h r i = by (dec_le m i)
  where
    long : length (take m (drop a l)) ≡ m
    long = length-take-le m (drop a l) (rw (length-drop a l) (omega arith))

    by : Dec (m ≤ i) → get_or (take m (drop a l)) i 0 < 256
    by (yes k) = rw (past (take m (drop a l)) i (omega (arith, long))) (omega arith)
    by (no k) = part-are a m l h i (omega arith)

pub bytes_word : (k at : ℕ) (l : List ℕ) → AreBytes l → at + k ≤ length l → bytes k (word k at l) ≡ take k (drop at l)
unfolding word
bytes_word k at l h r =
    let long : length (take k (drop at l)) ≡ k = length-take-le k (drop at l) (rw (length-drop at l) (omega arith)) in
    rw long at (bytes-value (take k (drop at l)) (bytes-part at k l h r))

pub word-part : (k a b e : ℕ) (l : List ℕ) → b + k ≤ e → word k b (take e (drop a l)) ≡ word k (a + b) l
unfolding word
word-part k a b e l h = ap value (part-of-take b k e (drop a l) h ∙ ap (λ (z : List ℕ). take k z) (drop-drop b a l))

-- bytes, of each way to make them
pub bytes-are : (k x : ℕ) → AreBytes (bytes k x)
unfolding bytes
bytes-are zero x i = omega arith
bytes-are (suc k) x zero = omega arith
bytes-are (suc k) x (suc i) = bytes-are k (x / 256) i

pub append-are : (xs ys : List ℕ) → AreBytes xs → AreBytes ys → AreBytes (xs ++ ys)
append-are [] ys h g i = g i
append-are (x ∷ xs) ys h g zero = h 0
append-are (x ∷ xs) ys h g (suc i) = append-are xs ys (λ j. h (suc j)) g i

pub run-are : (f : ℕ → List ℕ) → ((i : ℕ) → AreBytes (f i)) → (i k : ℕ) → AreBytes (run_from f i k)
unfolding run_from
run-are f h i zero j = omega arith
run-are f h i (suc k) j = append-are (f i) (run_from f (suc i) k) (h i) (run-are f h (suc i) k) j

pub zeros-are : (k : ℕ) → AreBytes (replicate k 0)
zeros-are zero i = omega arith
zeros-are (suc k) zero = omega arith
zeros-are (suc k) (suc i) = zeros-are k i

-- runs of zeros
pub zeros-zero : (k : ℕ) → AllZero (replicate k 0)
unfolding AllZero
zeros-zero zero = tt
zeros-zero (suc k) = (refl, zeros-zero k)

pub zero-zeros : (l : List ℕ) → AllZero l → replicate (length l) 0 ≡ l
unfolding AllZero
zero-zeros [] h = refl
zero-zeros (x ∷ l) (e, h) = rw e (ap (λ (z : List ℕ). 0 ∷ z) (zero-zeros l h))
