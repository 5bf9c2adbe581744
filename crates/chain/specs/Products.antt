-- PRODUCTS OF RATIOS, AND LEVELS. Document 01, "Slots and sub-bins": a probe of period T_k has T/w = b_1 .. b_k slots.
--     Level bs m        m is the product of the first few of the ratios bs: the number of slots of some level
-- Edges: 1 and the product of all are levels; a ratio 1 makes no new level.
-- Assumes nothing.
use Rattle.std.specs.Prelude.{◌≡◌, refl, ℕ, zero, suc, ◌*◌, ◌/◌, ◌≤◌, ◌<◌, replicate}
use Rattle.std.proofs.Common.{sym, ap, ◌∙◌, mul-one, one-mul, mul_comm, mul_assoc, mul-pos, le-mul_of_pos_right, arith}
use mathlib.Core.List.{List, [], ◌∷◌, ◌++◌, append_assoc, append-nil, reverse, reverse-cons, head-eq_of_cons-eq, tail-eq_of_cons-eq}
use Rattle.std.proofs.Math.Nat.{mul-div_cancel_left, div-eq_of_eq-mul_right, mul-lt-mul_of_pos_left}
use Rattle.chain.specs.Digits.{product, AllPositive}

pub record Level (bs : List ℕ) (m : ℕ) : Type 0 where
  pub first : List ℕ
  pub rest : List ℕ
  pub parts : bs ≡ first ++ rest
  pub slots : product first ≡ m

pub product-positive : (bs : List ℕ) → AllPositive bs → 0 < product bs
unfolding product AllPositive
product-positive [] p = omega arith
product-positive (b ∷ bs) (h, p) = mul-pos h (product-positive bs p)

pub product-append : (bs cs : List ℕ) → product (bs ++ cs) ≡ product bs * product cs
unfolding product
product-append [] cs = sym (one-mul (product cs))
product-append (b ∷ bs) cs = rw (product-append bs cs, mul_assoc)

pub product-reverse : (bs : List ℕ) → product (reverse bs) ≡ product bs
unfolding product
product-reverse [] = refl
product-reverse (b ∷ bs) = rw (reverse-cons b bs, product-append, product-reverse bs, mul-one) (mul_comm (product bs) b)

pub product-ones : (k : ℕ) → product (replicate k 1) ≡ 1
unfolding product
product-ones zero = refl
product-ones (suc k) = one-mul (product (replicate k 1)) ∙ product-ones k

pub positive-append : (bs cs : List ℕ) → AllPositive bs → AllPositive cs → AllPositive (bs ++ cs)
unfolding AllPositive
positive-append [] cs p q = q
positive-append (b ∷ bs) cs (h, p) q = (h, positive-append bs cs p q)

pub positive-first : (bs cs : List ℕ) → AllPositive (bs ++ cs) → AllPositive bs
unfolding AllPositive
positive-first [] cs p = tt
positive-first (b ∷ bs) cs (h, p) = (h, positive-first bs cs p)

pub positive-rest : (bs cs : List ℕ) → AllPositive (bs ++ cs) → AllPositive cs
unfolding AllPositive
positive-rest [] cs p = p
positive-rest (b ∷ bs) cs (h, p) = positive-rest bs cs p

pub positive-reverse : (bs : List ℕ) → AllPositive bs → AllPositive (reverse bs)
unfolding AllPositive
positive-reverse [] p = tt
positive-reverse (b ∷ bs) (h, p) = rw (reverse-cons b bs) (positive-append (reverse bs) (b ∷ []) (positive-reverse bs p) (h, tt))

pub positive-ones : (k : ℕ) → AllPositive (replicate k 1)
unfolding AllPositive
positive-ones zero = tt
positive-ones (suc k) = (omega arith, positive-ones k)

-- the first and the last level
pub level-one : (bs : List ℕ) → Level bs 1
unfolding product
level-one bs = record { first = []; rest = bs; parts = refl; slots = refl }

pub level_all : (bs : List ℕ) → Level bs (product bs)
level_all bs = record { first = bs; rest = []; parts = sym (append-nil bs); slots = refl }

-- ratios put in front, or behind
pub level-cons : (b : ℕ) (bs : List ℕ) (m : ℕ) → Level bs m → Level (b ∷ bs) (b * m)
unfolding product
level-cons b bs m l = record {
  first = b ∷ l.first;
  rest = l.rest;
  parts = ap {B = List ℕ} (λ (cs : List ℕ). b ∷ cs) l.parts;
  slots = ap (λ (n : ℕ). b * n) l.slots;
}

pub level-append : (bs cs : List ℕ) (m : ℕ) → Level bs m → Level (bs ++ cs) m
level-append bs cs m l = record {
  first = l.first;
  rest = l.rest ++ cs;
  parts = ap (λ (es : List ℕ). es ++ cs) l.parts ∙ append_assoc l.first l.rest cs;
  slots = l.slots;
}

pub level-positive : (bs : List ℕ) (m : ℕ) → AllPositive bs → Level bs m → 0 < m
level-positive bs m p l = rw l.slots at (product-positive l.first (positive-first l.first l.rest (rw l.parts at p)))

pub level-times : (bs : List ℕ) (m : ℕ) (l : Level bs m) → product bs ≡ m * product l.rest
level-times bs m l = ap product l.parts ∙ product-append l.first l.rest ∙ ap (λ (n : ℕ). n * product l.rest) l.slots

pub level-quotient : (bs : List ℕ) (m : ℕ) → AllPositive bs → (l : Level bs m) → product bs / m ≡ product l.rest
level-quotient bs m p l = rw (level-times bs m l) (mul-div_cancel_left (product l.rest) (level-positive bs m p l))

-- no level has more slots than the last
pub level-most : (bs : List ℕ) (m : ℕ) → AllPositive bs → Level bs m → m ≤ product bs
level-most bs m p l =
    let q : 0 < product l.rest = product-positive l.rest (positive-rest l.first l.rest (rw l.parts at p)) in
    rw (level-times bs m l) (le-mul_of_pos_right m q)

pub level-below : (bs : List ℕ) (m : ℕ) → AllPositive bs → Level bs m → (v : ℕ) → v < m → v < product bs
level-below bs m p l v h = omega (arith, level-most bs m p l)

-- so many of the last level's slots to one of m
pub level-share : (bs : List ℕ) (m : ℕ) → AllPositive bs → Level bs m → (product bs / m * m ≡ product bs) × (0 < product bs / m)
level-share bs m p l =
    let q : product bs / m ≡ product l.rest = level-quotient bs m p l in (
      ap (λ (x : ℕ). x * m) q ∙ mul_comm (product l.rest) m ∙ sym (level-times bs m l),
      rw q (product-positive l.rest (positive-rest l.first l.rest (rw l.parts at p))),
    )

pub level-spread : (bs : List ℕ) (m : ℕ) → AllPositive bs → Level bs m → (j : ℕ) → j < m → product bs / m * j < product bs
level-spread bs m p l j h =
    let (e, some) = level-share bs m p l in
    rw e at (mul-lt-mul_of_pos_left h some)

-- a level above 1 has the first ratio, and goes on over the others
pub level-tail : (b : ℕ) (bs : List ℕ) (m : ℕ) → AllPositive (b ∷ bs) → Level (b ∷ bs) m → (m ≡ 1 → ⊥)
    → Level bs (m / b) × (b * (m / b) ≡ m)
unfolding AllPositive product
level-tail b bs m (h, p) l n = go l.first l.parts l.slots
  where
    go : (cs : List ℕ) → b ∷ bs ≡ cs ++ l.rest → product cs ≡ m → Level bs (m / b) × (b * (m / b) ≡ m)
    go [] e f = absurd (n (sym f))
    go (c ∷ cs) e f =
        let whole : m ≡ b * product cs = sym f ∙ ap (λ (x : ℕ). x * product cs) (sym (head-eq_of_cons-eq e)) in
        let q : m / b ≡ product cs = div-eq_of_eq-mul_right h whole in
        (record { first = cs; rest = l.rest; parts = tail-eq_of_cons-eq e; slots = sym q }, ap (λ (x : ℕ). b * x) q ∙ sym whole)
