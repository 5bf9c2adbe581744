-- A TABLE OF WRONG RESULTS, and what it means that a promise shuts them out. Document 01, "What the inspector asks of each promise".
--     claim x right wrong   an input, the result that the promise has for it, and what a wrong program leaves behind
--     Settled P c           the right result meets the promise, and the wrong one does not
--     Each Q cs             every claim of the table is so
--     same_answer, same_list  two answers, two columns are equal: tests
--     differs               two results of which different numbers are seen are not the same
--     all_settled           a promise that what is computed meets, and that leaves one result: a table is settled by computing it
-- Assumes nothing.
use Rattle.std.specs.Prelude.{◌≡◌, refl, Bool, true, false, not, List, [], ◌∷◌, ℕ, suc, eqb, length, get_or}
use Rattle.std.proofs.Common.{sym, ap, ◌∙◌, arith, eq-eqb}
use Rattle.lists.specs.Pick.{both, Tells}
use Rattle.lists.specs.Telling.{tells_both, tells-eq, tells_as, tells-not, tells-yes, tells-no, true-or-false}
use Rattle.words.specs.declared.Answer.{Answer}
use Rattle.words.specs.Answers.{pair}

pub record Claim (I O : Type 0) : Type 0 where
  pub given : I
  pub right : O
  pub wrong : O

abbrev pub claim : {I O : Type 0} → I → O → O → Claim I O
claim x right wrong = record { given = x; right = right; wrong = wrong }

abbrev pub Each : {C : Type 0} → (C → Type 0) → List C → Type 0
Each Q [] = Unit {0}
Each Q (c ∷ cs) = Q c × Each Q cs

-- claim after claim
infixr 20 ◌also◌
abbrev pub ◌also◌ : {A B : Type 0} → A → B → A × B
a also b = (a, b)

module _ {I O : Type 0} (P : I → O → Type 0) where
  abbrev pub Settled : Claim I O → Type 0
  Settled c = P c.given c.right × (P c.given c.wrong → ⊥)

abbrev pub same_answer : Answer → Answer → Bool
same_answer a b = both (eqb a.number b.number) (both (eqb a.index b.index) (both (eqb a.second b.second) (eqb a.tick b.tick)))

pub same-answer-tells : (a b : Answer) → Tells (same_answer a b) (a ≡ b)
same-answer-tells a b =
    tells_as (same_answer a b)
    (tells_both _ _ (tells-eq a.number b.number)
    (tells_both _ _ (tells-eq a.index b.index) (tells_both _ _ (tells-eq a.second b.second) (tells-eq a.tick b.tick))))
    (λ e.
    let n : a.number ≡ b.number = e.0 in
    let i : a.index ≡ b.index = e.1.0 in
    let j : a.second ≡ b.second = e.1.1.0 in
    let t : a.tick ≡ b.tick = e.1.1.1 in
    fields n i j t)
    (λ e. (ap (λ (r : Answer). r.number) e, (ap (λ (r : Answer). r.index) e, (ap (λ (r : Answer). r.second) e, ap (λ (r : Answer). r.tick) e))))
  where
    fields : a.number ≡ b.number → a.index ≡ b.index → a.second ≡ b.second → a.tick ≡ b.tick
        → pair a.number a.index a.second a.tick ≡ pair b.number b.index b.second b.tick
    fields n i j t = rw (n, i, j, t)

abbrev pub same_list : List ℕ → List ℕ → Bool
same_list [] [] = true
same_list [] (y ∷ ys) = false
same_list (x ∷ xs) [] = false
same_list (x ∷ xs) (y ∷ ys) = both (eqb x y) (same_list xs ys)

abbrev behind : List ℕ → List ℕ
behind [] = []
behind (x ∷ xs) = xs

pub same-list-tells : (xs ys : List ℕ) → Tells (same_list xs ys) (xs ≡ ys)
same-list-tells [] [] = tells-yes refl
same-list-tells [] (y ∷ ys) =
    tells-no
    (λ e.
    let z : ◌≡◌ {A = ℕ} 0 (suc (length ys)) = ap length e in
    omega arith)
same-list-tells (x ∷ xs) [] =
    tells-no
    (λ e.
    let z : ◌≡◌ {A = ℕ} (suc (length xs)) 0 = ap length e in
    omega arith)
same-list-tells (x ∷ xs) (y ∷ ys) =
    tells_as (same_list (x ∷ xs) (y ∷ ys)) (tells_both _ _ (tells-eq x y) (same-list-tells xs ys))
    (λ e.
    let h : x ≡ y = e.0 in
    let t : xs ≡ ys = e.1 in
    rw (h, t))
    (λ e. (ap (λ (l : List ℕ). get_or l 0 0) e, ap behind e))

-- a result of two parts is the same where both parts are
module _ {A B O : Type 0} (first : O → A) (second : O → B) (make : A → B → O) (made : (o : O) → make (first o) (second o) ≡ o) where
  pub two-tell : (f : A → A → Bool) → ((x y : A) → Tells (f x y) (x ≡ y)) → (g : B → B → Bool) → ((x y : B) → Tells (g x y) (x ≡ y)) → (a b : O)
      → Tells (both (f (first a) (first b)) (g (second a) (second b))) (a ≡ b)
  two-tell f f-tells g g-tells a b =
      tells_as _ (tells_both _ _ (f-tells (first a) (first b)) (g-tells (second a) (second b)))
      (λ e. sym (made a) ∙ parts e.0 e.1 ∙ made b)
      (λ e. (ap first e, ap second e))
    where
      parts : first a ≡ first b → second a ≡ second b → make (first a) (second a) ≡ make (first b) (second b)
      parts x y = rw (x, y)

pub differs : {O : Type 0} (see : O → ℕ) (o wrong : O) (m : ℕ) → see o ≡ m → eqb (see wrong) m ≡ false → wrong ≡ o → ⊥
differs see o wrong m e n same = true-or-false (eqb (see wrong) m) (eq-eqb _ _ (ap see same ∙ e)) n

module _ {I O : Type 0} (same : O → O → Bool) (tells : (a b : O) → Tells (same a b) (a ≡ b)) (f : I → O) where
  -- what is computed is the right result, and not the wrong one
  abbrev pub computes : Claim I O → Bool
  computes c = both (same c.right (f c.given)) (not (same c.wrong (f c.given)))

  abbrev pub every : List (Claim I O) → Bool
  every [] = true
  every (c ∷ cs) = both (computes c) (every cs)

  module _ (P : I → O → Type 0) (meets : (x : I) → P x (f x)) (one : (x : I) (a b : O) → P x a → P x b → a ≡ b) where
    equal : (x : I) (a b : O) → a ≡ b → P x b → P x a
    equal x a b e q = rw e q

    settled : (c : Claim I O) → computes c ≡ true → Settled P c
    settled c e =
        let both-tell = (tells_both _ _ (tells c.right (f c.given)) (tells-not _ (tells c.wrong (f c.given)))).yes e in
        (equal c.given c.right (f c.given) both-tell.0 (meets c.given), λ w. both-tell.1 (one c.given c.wrong (f c.given) w (meets c.given)))

    pub all_settled : (cs : List (Claim I O)) → every cs ≡ true → Each (Settled P) cs
    all_settled [] e = tt
    all_settled (c ∷ cs) e = (settled c (head (computes c) (every cs) e), all_settled cs (tail (computes c) (every cs) e))
      where
        head : (a b : Bool) → both a b ≡ true → a ≡ true
        head true b h = refl
        head false b h = h

        tail : (a b : Bool) → both a b ≡ true → b ≡ true
        tail true b h = h
        tail false b h = absurd (true-or-false false h refl)
