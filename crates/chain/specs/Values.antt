-- THE NUMBER THAT DIGITS STAND FOR. Document 01, "Slots and sub-bins": "v = d_1 + d_2 b_1 + d_3 b_1 b_2 + .., with each digit d_i below b_i".
--     value_of bs ds     d_1 + b_1 (d_2 + b_2 (d_3 + ..))
--     digits_value, value-digits    digits and numbers below the product are one to one
--     digits-reverse    digits read from the other end are digits to the ratios read from the other end
-- Assumes nothing.
use Rattle.std.specs.Prelude.{◌≡◌, refl, ℕ, ◌+◌, ◌*◌, ◌/◌, ◌%◌, ◌<◌}
use Rattle.std.proofs.Common.{ap, ◌∙◌, mod-lt, mul_comm, div-add-mod', div-lt_iff_lt-mul, arith}
use mathlib.Core.List.{List, [], ◌∷◌, ◌++◌, reverse, reverse-cons}
use Rattle.std.proofs.Math.Arith.{digits_lt, digits_div, digits_mod, mod-mul}
use Rattle.chain.specs.Digits.{product, digits, AllPositive, Digits}
use Rattle.chain.specs.Products.{product-positive}

unfoldable pub value_of : List ℕ → List ℕ → ℕ
value_of [] ds = 0
value_of (b ∷ bs) [] = 0
value_of (b ∷ bs) (d ∷ ds) = d + b * value_of bs ds

pub digits_are : (bs : List ℕ) (v : ℕ) → AllPositive bs → Digits bs (digits bs v)
unfolding digits AllPositive Digits
digits_are [] v p = tt
digits_are (b ∷ bs) v (h, p) = (mod-lt v h, digits_are bs (v / b) p)

-- the first digit is what the division by the first ratio leaves
low_first : (b d x : ℕ) → d + b * x ≡ x * b + d
low_first b d x = omega arith

pub value-below : (bs ds : List ℕ) → Digits bs ds → value_of bs ds < product bs
unfolding value_of product Digits
value-below [] [] p = omega arith
value-below [] (d ∷ ds) p = absurd p
value-below (b ∷ bs) [] p = absurd p
value-below (b ∷ bs) (d ∷ ds) (h, p) =
    rw (low_first b d (value_of bs ds), mul_comm b (product bs)) (digits_lt (value-below bs ds p) h)

pub digits_value : (bs ds : List ℕ) → Digits bs ds → digits bs (value_of bs ds) ≡ ds
unfolding value_of digits Digits
digits_value [] [] p = refl
digits_value [] (d ∷ ds) p = absurd p
digits_value (b ∷ bs) [] p = absurd p
digits_value (b ∷ bs) (d ∷ ds) (h, p) =
    rw (low_first b d (value_of bs ds), digits_mod (value_of bs ds) h, digits_div (value_of bs ds) h, digits_value bs ds p)

pub value-digits : (bs : List ℕ) (v : ℕ) → AllPositive bs → v < product bs → value_of bs (digits bs v) ≡ v
unfolding value_of digits product AllPositive
value-digits [] v p l = omega arith
value-digits (b ∷ bs) v (h, p) l =
    rw (value-digits bs (v / b) p ((div-lt_iff_lt-mul h).1 (rw (mul_comm (product bs) b) l)), low_first b (v % b) (v / b)) (div-add-mod' v b)

-- only the remainder by the product has digits
pub digits-remainder : (bs : List ℕ) (v : ℕ) → AllPositive bs → digits bs (v % product bs) ≡ digits bs v
unfolding digits product AllPositive
digits-remainder [] v p = refl
digits-remainder (b ∷ bs) v (h, p) =
    let cut : v % (b * product bs) ≡ (v / b % product bs) * b + v % b =
    ap (λ (n : ℕ). v % n) (mul_comm b (product bs)) ∙ mod-mul v (product-positive bs p) h in
    let l : v % b < b = mod-lt v h in
    rw (cut, digits_mod (v / b % product bs) l, digits_div (v / b % product bs) l, digits-remainder bs (v / b) p)

-- digits of two runs of ratios
pub digits-join : (bs ds cs es : List ℕ) → Digits bs ds → Digits cs es → Digits (bs ++ cs) (ds ++ es)
unfolding Digits
digits-join [] [] cs es p q = q
digits-join [] (d ∷ ds) cs es p q = absurd p
digits-join (b ∷ bs) [] cs es p q = absurd p
digits-join (b ∷ bs) (d ∷ ds) cs es (h, p) q = (h, digits-join bs ds cs es p q)

pub value-join : (bs ds cs es : List ℕ) → Digits bs ds → value_of (bs ++ cs) (ds ++ es) ≡ value_of bs ds + product bs * value_of cs es
unfolding value_of product Digits
value-join [] [] cs es p = omega arith
value-join [] (d ∷ ds) cs es p = absurd p
value-join (b ∷ bs) [] cs es p = absurd p
value-join (b ∷ bs) (d ∷ ds) cs es (h, p) = rw (value-join bs ds cs es p) (omega arith)

pub digits-reverse : (bs ds : List ℕ) → Digits bs ds → Digits (reverse bs) (reverse ds)
unfolding Digits
digits-reverse [] [] p = tt
digits-reverse [] (d ∷ ds) p = absurd p
digits-reverse (b ∷ bs) [] p = absurd p
digits-reverse (b ∷ bs) (d ∷ ds) (h, p) =
    rw (reverse-cons b bs, reverse-cons d ds) (digits-join (reverse bs) (reverse ds) (b ∷ []) (d ∷ []) (digits-reverse bs ds p) (h, tt))
