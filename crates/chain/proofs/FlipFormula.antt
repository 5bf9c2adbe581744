-- What follows from the definitions of specs/Flip/Formula.
--     slot-digits           every slot below the product is such a sum, of its digits
--     flip-formula          the flip of a slot with the digits ds is the other sum
--     flip-formula-level    and so it is where ratios es of longer periods follow
-- Assumes nothing.
use Rattle.std.specs.Prelude.{◌≡◌, refl, List, [], ◌∷◌, ◌++◌, ℕ, zero, suc, ◌+◌, ◌*◌, ◌<◌, length, take, drop, get_or}
use Rattle.std.proofs.Common.{sym, ap, ◌∙◌, mul-one, arith}
use Rattle.chain.specs.Digits.{product, digits, AllPositive, Digits}
use Rattle.chain.specs.Products.{level_all}
use Rattle.chain.specs.Values.{value_of, digits_are, digits_value, value-digits}
use Rattle.chain.specs.Flip.{turned, flip}
use Rattle.chain.proofs.Levels.{mirror-levels}
use Rattle.chain.proofs.FlipLaws.{flip-append}
use Rattle.chain.specs.Flip.Formula.{sum_to, slot_sum, bin_sum, flip-computes}

-- a sum by its first term
sum_first : (k : ℕ) (f : ℕ → ℕ) → sum_to (suc k) f ≡ f 0 + sum_to k (λ i. f (suc i))
unfolding sum_to
sum_first zero f = omega arith
sum_first (suc k) f = omega (arith, sum_first k f)

-- a factor of each term is a factor of the sum
sum-times : (b k : ℕ) (f g : ℕ → ℕ) → ((i : ℕ) → f i ≡ b * g i) → sum_to k f ≡ b * sum_to k g
unfolding sum_to
sum-times b zero f g e = omega arith
sum-times b (suc k) f g e = omega (arith, sum-times b k f g e, e k)

slot-value : (bs ds : List ℕ) → Digits bs ds → slot_sum bs ds ≡ value_of bs ds
unfolding Digits value_of product sum_to
slot-value [] [] p = refl
slot-value [] (d ∷ ds) p = absurd p
slot-value (b ∷ bs) [] p = absurd p
slot-value (b ∷ bs) (d ∷ ds) (h, p) =
    sum_first (length bs) (λ i. get_or (d ∷ ds) i 0 * product (take i (b ∷ bs)))
    ∙ ap (λ (x : ℕ). d * 1 + x) (shift ∙ ap (λ (x : ℕ). b * x) (slot-value bs ds p))
    ∙ ap (λ (x : ℕ). x + b * value_of bs ds) (mul-one d)
  where
    shift : sum_to (length bs) (λ i. get_or ds i 0 * (b * product (take i bs))) ≡ b * slot_sum bs ds
    shift = sum-times b (length bs) (λ i. get_or ds i 0 * (b * product (take i bs))) (λ i. get_or ds i 0 * product (take i bs)) (λ i. omega arith)

bin-turned : (bs ds : List ℕ) → Digits bs ds → bin_sum bs ds ≡ turned bs ds
unfolding Digits turned product sum_to
bin-turned [] [] p = refl
bin-turned [] (d ∷ ds) p = absurd p
bin-turned (b ∷ bs) [] p = absurd p
bin-turned (b ∷ bs) (d ∷ ds) (h, p) =
    sum_first (length bs) (λ i. get_or (d ∷ ds) i 0 * product (drop (suc i) (b ∷ bs)))
    ∙ ap (λ (x : ℕ). d * product bs + x) (bin-turned bs ds p)

digits-positive : (bs ds : List ℕ) → Digits bs ds → AllPositive bs
unfolding Digits AllPositive
digits-positive [] [] p = tt
digits-positive [] (d ∷ ds) p = absurd p
digits-positive (b ∷ bs) [] p = absurd p
digits-positive (b ∷ bs) (d ∷ ds) (h, p) = (omega arith, digits-positive bs ds p)

pub slot-digits : (bs : List ℕ) (v : ℕ) → AllPositive bs → v < product bs → slot_sum bs (digits bs v) ≡ v
slot-digits bs v p l = slot-value bs (digits bs v) (digits_are bs v p) ∙ value-digits bs v p l

pub flip-formula : (bs ds : List ℕ) → Digits bs ds → flip bs (product bs) (slot_sum bs ds) ≡ bin_sum bs ds
flip-formula bs ds p =
    flip-computes bs (product bs) (slot_sum bs ds)
    ∙ mirror-levels bs (slot_sum bs ds) (digits-positive bs ds p)
    ∙ ap (λ (v : ℕ). turned bs (digits bs v)) (slot-value bs ds p)
    ∙ ap (turned bs) (digits_value bs ds p)
    ∙ sym (bin-turned bs ds p)

pub flip-formula-level : (bs es ds : List ℕ) → Digits bs ds → flip (bs ++ es) (product bs) (slot_sum bs ds) ≡ bin_sum bs ds
flip-formula-level bs es ds p =
    flip-append bs (product bs) (digits-positive bs ds p) (level_all bs) es (slot_sum bs ds) ∙ flip-formula bs ds p
