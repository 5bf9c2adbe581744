-- LAWS OF THE ROWS. What raising does, row by row.
--     raised-in, raised-out     rows from y for h rise by q, and no other does
--     length-raised             their number stays
--     raised-more               a fill never falls
--     sum-raised                the fills add up to q * h more
--     LevelRows h fs            rows of one sub-bin of height h have one fill
--     level-raised              raising a sub-bin of a height that h divides keeps the level of h
-- Assumes nothing.
use Rattle.std.specs.Prelude.{◌≡◌, refl, ℕ, zero, suc, ◌+◌, ◌-◌, ◌*◌, ◌/◌, ◌≤◌, ◌<◌}
use Rattle.std.proofs.Common.{sym, ◌∙◌}
use Rattle.std.proofs.Math.Path.{ap}
use mathlib.Core.List.{List, [], ◌∷◌, ◌++◌, map}
use Rattle.std.specs.Int.{◌∣◌}
use native.Mathlib.Nat.{div-mul-le_self, lt-div-mul-add, mul-div_cancel', div-div-eq-div-mul}
use Rattle.std.proofs.Math.Decide.{dec_lt, dec_le}
use native.Mathlib.Omega.{arith}
use lib.ListN.{length, get_or, take, drop, replicate, length-append, length-drop, get_or-append}
use lib.Seq.{get_or-take, get_or-drop, get_or-append-add, length-take-le}
use Rattle.lists.specs.Sums.{sum_of, sum_of-append}
use Rattle.stack.specs.Stack.{raise, raised}

pub length-map : (f : ℕ → ℕ) (xs : List ℕ) → length (map f xs) ≡ length xs
length-map f [] = refl
length-map f (x ∷ xs) = ap suc (length-map f xs)

pub get_or-raise : (q : ℕ) (xs : List ℕ) (i : ℕ) → i < length xs → get_or (raise q xs) i 0 ≡ get_or xs i 0 + q
get_or-raise q [] i h = absurd (omega arith)
get_or-raise q (x ∷ xs) zero h = refl
get_or-raise q (x ∷ xs) (suc i) h = get_or-raise q xs i (omega arith)

-- the fills added up
abbrev pub sum : List ℕ → ℕ
sum fs = sum_of (λ x. x) fs

sum-raise : (q : ℕ) (xs : List ℕ) → sum (raise q xs) ≡ sum xs + q * length xs
unfolding sum_of
sum-raise q [] = omega arith
sum-raise q (x ∷ xs) = omega (arith, sum-raise q xs)

module _ (fs : List ℕ) (y h q : ℕ) (fits : y + h ≤ length fs) where
  below_length : length (take y fs) ≡ y
  below_length = length-take-le y fs (omega arith)

  part_length : length (take h (drop y fs)) ≡ h
  part_length = length-take-le h (drop y fs) (rw (length-drop y fs) (omega arith))

  raise-length : length (raise q (take h (drop y fs))) ≡ h
  raise-length = length-map (λ (x : ℕ). x + q) (take h (drop y fs)) ∙ part_length

  pub length-raised : length (raised fs y h q) ≡ length fs
  unfolding raised
  length-raised =
      simp (length-append, length-drop)
      (rw (below_length, raise-length) (omega arith))

  pub raised_below : (r : ℕ) → r < y → get_or (raised fs y h q) r 0 ≡ get_or fs r 0
  unfolding raised
  raised_below r l =
      get_or-append (take y fs) (raise q (take h (drop y fs)) ++ drop (y + h) fs) 0 r (rw below_length l)
      ∙ get_or-take y fs r 0 l

  past : (z : ℕ) (xs ys : List ℕ) (r : ℕ) → length xs ≡ z → get_or (xs ++ ys) (z + r) 0 ≡ get_or ys r 0
  past z xs ys r e = rw (← e) (get_or-append-add xs ys r 0)

  pub raised-in : (r : ℕ) → y ≤ r → r < y + h → get_or (raised fs y h q) r 0 ≡ get_or fs r 0 + q
  unfolding raised
  raised-in r l u =
      ap (λ (x : ℕ). get_or (take y fs ++ (raise q (take h (drop y fs)) ++ drop (y + h) fs)) x 0) back
      ∙ past y (take y fs) (raise q (take h (drop y fs)) ++ drop (y + h) fs) (r - y) below_length
      ∙ get_or-append (raise q (take h (drop y fs))) (drop (y + h) fs) 0 (r - y) (rw raise-length (omega arith))
      ∙ get_or-raise q (take h (drop y fs)) (r - y) (rw part_length (omega arith))
      ∙ ap (λ (x : ℕ). x + q) (get_or-take h (drop y fs) (r - y) 0 (omega arith) ∙ get_or-drop y fs (r - y) 0 ∙ ap (λ (x : ℕ). get_or fs x 0) (sym back))
    where
      back : r ≡ y + (r - y)
      back = omega arith

  pub raised-above : (r : ℕ) → y + h ≤ r → get_or (raised fs y h q) r 0 ≡ get_or fs r 0
  unfolding raised
  raised-above r l =
      ap (λ (x : ℕ). get_or (take y fs ++ (raise q (take h (drop y fs)) ++ drop (y + h) fs)) x 0) back
      ∙ past y (take y fs) (raise q (take h (drop y fs)) ++ drop (y + h) fs) (h + (r - (y + h))) below_length
      ∙ past h (raise q (take h (drop y fs))) (drop (y + h) fs) (r - (y + h)) raise-length
      ∙ get_or-drop (y + h) fs (r - (y + h)) 0
      ∙ ap (λ (x : ℕ). get_or fs x 0) (sym (whole))
    where
      back : r ≡ y + (h + (r - (y + h)))
      back = omega arith

      whole : r ≡ y + h + (r - (y + h))
      whole = omega arith

  pub sum-raised : sum (raised fs y h q) ≡ sum fs + q * h
  unfolding raised
  sum-raised =
      rw (sum_of-append (λ x. x) (take y fs) (raise q (take h (drop y fs)) ++ drop (y + h) fs), sum_of-append (λ x. x) (raise q (take h (drop y fs))) (drop (y + h) fs), sum-raise q (take h (drop y fs)), part_length)
      (omega (arith, cut))
    where
      cut : sum fs ≡ sum (take y fs) + (sum (take h (drop y fs)) + sum (drop (y + h) fs))
      cut =
          ap sum (sym (lib.ListN.take-append-drop y fs))
          ∙ sum_of-append (λ x. x) (take y fs) (drop y fs)
          ∙ ap (λ (x : ℕ). sum (take y fs) + x)
          (ap sum (sym (lib.ListN.take-append-drop h (drop y fs)))
          ∙ sum_of-append (λ x. x) (take h (drop y fs)) (drop h (drop y fs))
          ∙ ap (λ (l : List ℕ). sum (take h (drop y fs)) + sum l) (lib.Seq.drop-drop h y fs))

-- a fill never falls
pub raised-more : (fs : List ℕ) (y h q : ℕ) → y + h ≤ length fs → (r : ℕ) → get_or fs r 0 ≤ get_or (raised fs y h q) r 0
raised-more fs y h q fits r = by (dec_lt r y) (dec_lt r (y + h))
  where
    by : Dec (r < y) → Dec (r < y + h) → get_or fs r 0 ≤ get_or (raised fs y h q) r 0
    by (yes l) d = rw (raised_below fs y h q fits r l) (omega arith)
    by (no l) (yes u) = rw (raised-in fs y h q fits r (omega arith) u) (omega arith)
    by (no l) (no u) = rw (raised-above fs y h q fits r (omega arith)) (omega arith)

pub sum-none : (n : ℕ) → sum (replicate n 0) ≡ 0
unfolding sum_of
sum-none zero = refl
sum-none (suc n) = omega (arith, sum-none n)

-- rows of one sub-bin of height h have one fill
abbrev pub LevelRows : ℕ → List ℕ → Type 0
LevelRows h fs = (r s : ℕ) → r < length fs → s < length fs → r / h ≡ s / h → get_or fs r 0 ≡ get_or fs s 0

-- whether a row lies in sub-bin j of height k depends on its sub-bin of a height h that divides k
same_bin : (h k j r s : ℕ) → 0 < k → h ∣ k → r / h ≡ s / h → j * k ≤ r → r < j * k + k → (j * k ≤ s) × (s < j * k + k)
same_bin h k j r s z d e lo hi = (omega (arith, div-mul-le_self s k, low), omega (arith, lt-div-mul-add {a = s} {b = k} z, low))
  where
    through : (x : ℕ) → x / k ≡ x / h / (k / h)
    through x = ap (λ (c : ℕ). x / c) (sym (mul-div_cancel' h d)) ∙ sym (div-div-eq-div-mul x h (k / h))

    same : s / k ≡ r / k
    same = through s ∙ ap (λ (x : ℕ). x / (k / h)) (sym e) ∙ sym (through r)

    here : r / k ≡ j
    here = native.Mathlib.Nat.div-eq_of_lt-le k lo (omega (arith, native.Mathlib.Nat.add-mul j 1 k))

    low : s / k * k ≡ j * k
    low = ap (λ (x : ℕ). x * k) (same ∙ here)

pub level-raised : (h k j q : ℕ) (fs : List ℕ) → 0 < k → h ∣ k → j * k + k ≤ length fs → LevelRows h fs → LevelRows h (raised fs (j * k) k q)
level-raised h k j q fs z d fits level r s hr hs e = by (dec_le (j * k) r) (dec_lt r (j * k + k))
  where
    long : length (raised fs (j * k) k q) ≡ length fs
    long = length-raised fs (j * k) k q fits

    before : get_or fs r 0 ≡ get_or fs s 0
    before = level r s (omega (arith, long)) (omega (arith, long)) e

    outside : (x : ℕ) → ((j * k ≤ x) × (x < j * k + k) → ⊥) → get_or (raised fs (j * k) k q) x 0 ≡ get_or fs x 0
    outside x n = at (dec_lt x (j * k))
      where
        at : Dec (x < j * k) → get_or (raised fs (j * k) k q) x 0 ≡ get_or fs x 0
        at (yes l) = raised_below fs (j * k) k q fits x l
        at (no l) = raised-above fs (j * k) k q fits x (over (dec_le (j * k + k) x))
          where
            over : Dec (j * k + k ≤ x) → j * k + k ≤ x
            over (yes o) = o
            over (no o) = absurd (n (omega arith, omega arith))

    by : Dec (j * k ≤ r) → Dec (r < j * k + k) → get_or (raised fs (j * k) k q) r 0 ≡ get_or (raised fs (j * k) k q) s 0
    by (yes lo) (yes hi) =
        let i = same_bin h k j r s z d e lo hi in
        raised-in fs (j * k) k q fits r lo hi ∙ ap (λ (x : ℕ). x + q) before ∙ sym (raised-in fs (j * k) k q fits s i.0 i.1)
    by (yes lo) (no hi) =
        outside r (λ i. absurd (omega (arith, i.1))) ∙ before ∙ sym (outside s (λ i. (back i).1))
      where
        back : (j * k ≤ s) × (s < j * k + k) → (j * k ≤ r) × ⊥
        back i = let b = same_bin h k j s r z d (sym e) i.0 i.1 in (b.0, absurd (omega (arith, b.1)))
    by (no lo) d₂ =
        outside r (λ i. absurd (omega (arith, i.0))) ∙ before ∙ sym (outside s (λ i. back i))
      where
        back : (j * k ≤ s) × (s < j * k + k) → ⊥
        back i = let b = same_bin h k j s r z d (sym e) i.0 i.1 in absurd (omega (arith, b.0))
