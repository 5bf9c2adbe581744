-- WHAT THE LOOPS KNOW over a set of ratios and digits, from turn to turn.
--     Decomposing bs v d rest i     the first i digits of v stand in d, and rest has the others
--     Reversing d e i               the first i places of e hold d from its end
--     Composing bs ds v i           v is the number that the digits from place i on stand for
-- Assumes nothing.
use Rattle.std.specs.Prelude.{◌≡◌, refl, ℕ, zero, suc, ◌+◌, ◌-◌, ◌*◌, ◌/◌, ◌%◌, ◌≤◌, ◌<◌, set}
use Rattle.std.proofs.Common.{sym, ◌∙◌, mul-le-mul_right, one-mul, add-one, take-suc}
use Rattle.std.proofs.Math.Path.{ap}
use mathlib.Core.List.{List, [], ◌∷◌, ◌++◌, append_assoc, append-nil, reverse, reverse-append}
use native.Mathlib.Omega.{arith}
use Rattle.std.proofs.Math.ListN.{length, take, drop, get_or, length-set, drop_of_length-le}
use Rattle.std.proofs.Math.Seq.{take-suc-set, take_all, drop-cons}
use Rattle.chain.specs.Digits.{product, digits, AllPositive, Digits}
use Rattle.chain.specs.Values.{value_of, value-below}

pub positive-at : (bs : List ℕ) (i : ℕ) → AllPositive bs → i < length bs → 0 < get_or bs i 0
unfolding AllPositive
positive-at [] i p h = absurd (omega arith)
positive-at (b ∷ bs) zero (z, p) h = z
positive-at (b ∷ bs) (suc i) (z, p) h = positive-at bs i p (omega arith)

pub record Decomposing (bs : List ℕ) (v : ℕ) (d : List ℕ) (rest i : ℕ) : Type 0 where
  pub within : i ≤ length bs
  pub long : length d ≡ length bs
  pub whole : take i d ++ digits (drop i bs) rest ≡ digits bs v

module _ (bs : List ℕ) (v : ℕ) (d : List ℕ) where
  module _ (rest i : ℕ) (g : Decomposing bs v d rest i) where
    pub decomposing-next : i < length bs → Decomposing bs v (set d i (rest % get_or bs i 0)) (rest / get_or bs i 0) (i + 1)
    unfolding digits
    decomposing-next h =
        let l : i < length d = omega (arith, g.long) in
        record {
          within = omega arith;
          long = length-set d i (rest % get_or bs i 0) ∙ g.long;
          whole = rw (add-one i, take-suc-set d i (rest % get_or bs i 0) l, append_assoc) (rw (drop-cons bs i 0 h) at g.whole);
        }

    pub decomposing-done : length bs ≤ i → d ≡ digits bs v
    unfolding digits
    decomposing-done h =
        let all : take i d ≡ d = take_all i d (omega (arith, g.long)) in
        rw (all, drop_of_length-le bs h, append-nil) at g.whole

pub record Reversing (d e : List ℕ) (i : ℕ) : Type 0 where
  pub within : i ≤ length d
  pub long : length e ≡ length d
  pub whole : take i e ++ reverse (take (length d - i) d) ≡ reverse d

module _ (d e : List ℕ) where
  pub reversing-start : length e ≡ length d → Reversing d e 0
  reversing-start l = record { within = omega arith; long = l; whole = ap (λ (x : List ℕ). reverse x) (take_all (length d - 0) d (omega arith)) }

  module _ (i : ℕ) (g : Reversing d e i) where
    pub reversing-next : (j : ℕ) → suc j ≡ length d - i → Reversing d (set e i (get_or d j 0)) (i + 1)
    reversing-next j f =
        let l : i < length e = omega (arith, g.long) in
        let left : length d - suc i ≡ j = omega arith in
        let last : take (suc j) d ≡ take j d ++ (get_or d j 0 ∷ []) = take-suc d j 0 (omega arith) in
        record {
          within = omega arith;
          long = length-set e i (get_or d j 0) ∙ g.long;
          whole =
              rw (add-one i, take-suc-set e i (get_or d j 0) l, left, append_assoc)
              (rw (sym f, last, reverse-append (take j d) (get_or d j 0 ∷ [])) at g.whole);
        }

    pub reversing-done : length d ≤ i → e ≡ reverse d
    reversing-done h =
        let none : length d - i ≡ 0 = omega arith in
        let all : take i e ≡ e = take_all i e (omega (arith, g.long)) in
        rw (all, none, append-nil) at g.whole

-- digits from place i on
pub digits-drop : (bs ds : List ℕ) (i : ℕ) → Digits bs ds → Digits (drop i bs) (drop i ds)
unfolding Digits
digits-drop bs ds zero p = p
digits-drop [] [] (suc i) p = tt
digits-drop [] (d ∷ ds) (suc i) p = absurd p
digits-drop (b ∷ bs) [] (suc i) p = absurd p
digits-drop (b ∷ bs) (d ∷ ds) (suc i) (h, p) = digits-drop bs ds i p

digits-many : (bs ds : List ℕ) → Digits bs ds → length ds ≡ length bs
unfolding Digits
digits-many [] [] p = refl
digits-many [] (d ∷ ds) p = absurd p
digits-many (b ∷ bs) [] p = absurd p
digits-many (b ∷ bs) (d ∷ ds) (h, p) = ap suc (digits-many bs ds p)

product-drop : (bs ds : List ℕ) (i : ℕ) → Digits bs ds → product (drop i bs) ≤ product bs
unfolding Digits product
product-drop bs ds zero p = omega arith
product-drop [] ds (suc i) p = omega arith
product-drop (b ∷ bs) [] (suc i) p = absurd p
product-drop (b ∷ bs) (d ∷ ds) (suc i) (h, p) =
    let one : 1 * product bs ≤ b * product bs = mul-le-mul_right (product bs) (omega arith) in
    omega (arith, product-drop bs ds i p, one-mul (product bs))

pub record Composing (bs ds : List ℕ) (v i : ℕ) : Type 0 where
  pub within : i ≤ length bs
  pub whole : v ≡ value_of (drop i bs) (drop i ds)

module _ (bs ds : List ℕ) (p : Digits bs ds) where
  pub composing-start : (i : ℕ) → i ≡ length bs → Composing bs ds 0 i
  unfolding value_of
  composing-start i e =
      let h : length bs ≤ i = omega arith in
      record { within = omega arith; whole = rw (drop_of_length-le bs h) }

  module _ (v i : ℕ) (g : Composing bs ds v i) where
    pub composing-next : (j : ℕ) → suc j ≡ i → Composing bs ds (v * get_or bs j 0 + get_or ds j 0) j
    unfolding value_of
    composing-next j e =
        let h : j < length bs = omega (arith, g.within) in
        let a : drop j bs ≡ get_or bs j 0 ∷ drop i bs = drop-cons bs j 0 h ∙ ap {B = List ℕ} (λ (k : ℕ). get_or bs j 0 ∷ drop k bs) e in
        let c : drop j ds ≡ get_or ds j 0 ∷ drop i ds =
        drop-cons ds j 0 (omega (arith, digits-many bs ds p)) ∙ ap {B = List ℕ} (λ (k : ℕ). get_or ds j 0 ∷ drop k ds) e in
        record { within = omega arith; whole = rw (a, c, g.whole) (omega arith) }

    pub composing-fits : v < product bs
    composing-fits =
        rw g.whole (omega (arith, value-below (drop i bs) (drop i ds) (digits-drop bs ds i p), product-drop bs ds i p))

    pub composing-done : i ≡ 0 → v ≡ value_of bs ds
    composing-done e = rw e at g.whole
