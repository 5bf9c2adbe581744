-- SEARCHES BY A METHOD OF THE LIBRARY: what `position` finds in a list is the lowest place at which a test of places holds.
--     answer-found, answer-none     what a loop answers
--     found-at, none-at     what such an answer says of the lowest place
--     first-at     of a test of the elements that agrees with the test of the places
-- Assumes nothing.
use Rattle.std.specs.Prelude.{◌≡◌, refl, Bool, true, false, not, ◌||◌, List, [], ◌∷◌, ℕ, zero, suc, ◌+◌, ◌≤◌, ◌<◌, ltb, length, Option, Some, None, cond, position}
use Rattle.std.proofs.Common.{ap, sym, ◌∙◌, add-zero, zero-add, arith, get_or, ltb-true, ltb-false}
use Rattle.std.proofs.lemmas.List.Sums.{prefix_len-le-length}
use Rattle.std.specs.List.{position_or_len, list_any}
use Rattle.lists.specs.Pick.{pick, Tells}
use Rattle.lists.specs.Telling.{true-or-false}
use Rattle.lists.specs.Lowest.{lowest, lowest_from, FirstAt, Searching, searching-found, searching-none}

-- what a loop answers that has tried the places below i
module _ (f : ℕ → Bool) (n i : ℕ) where
  pub answer-found : i < n → f i ≡ true → Searching f n i → FirstAt f n (Some i)
  answer-found h e s = (h, sym (searching-found f n i h e s))

  pub answer-none : n ≤ i → Searching f n i → FirstAt f n None
  answer-none h s = omega (arith, searching-none f n i h s, s.within)

module _ (f : ℕ → Bool) (n : ℕ) (r : Option ℕ) where
  pub found-at : (i : ℕ) → FirstAt f n r → r ≡ Some i → (i < n) × (i ≡ lowest f n)
  found-at i a e =
      let b : FirstAt f n (Some i) = rw e at a in
      (b.0, sym b.1)

  pub none-at : FirstAt f n r → r ≡ None → n ≤ lowest f n
  none-at a e =
      let b : FirstAt f n None = rw e at a in
      omega (arith, b)

module _ {X : Type 0} (p : X → Bool) (d : X) where
  searched : (xs : List X) (f : ℕ → Bool) (i : ℕ) → ((k : ℕ) → k < length xs → f (i + k) ≡ p (get_or xs k d))
      → lowest_from f i (length xs) ≡ i + position_or_len p xs
  unfolding lowest_from
  searched [] f i h = sym (add-zero i)
  searched (x ∷ xs) f i h =
      go (p x) (ap f (sym (add-zero i)) ∙ h 0 (omega arith)) (searched xs f (suc i) (λ k b. ap f (omega arith) ∙ h (suc k) (omega arith)))
    where
      go : (b : Bool) → f i ≡ b → lowest_from f (suc i) (length xs) ≡ suc i + position_or_len p xs
          → pick (f i) i (lowest_from f (suc i) (length xs)) ≡ i + cond (not b) (1 + position_or_len p xs) 0
      go true e ih = rw e (sym (add-zero i))
      go false e ih = rw e (ih ∙ omega arith)

  pub first-at : (xs : List X) (f : ℕ → Bool) → ((k : ℕ) → k < length xs → f k ≡ p (get_or xs k d)) → (r : Option ℕ) → r ≡ position p xs → FirstAt f (length xs) r
  unfolding lowest
  first-at xs f h r e =
      rw e (go (ltb (position_or_len p xs) (length xs)) refl)
    where
      low : lowest f (length xs) ≡ position_or_len p xs
      low = searched xs f 0 (λ k b. ap f (zero-add k) ∙ h k b) ∙ zero-add _

      go : (b : Bool) → ltb (position_or_len p xs) (length xs) ≡ b → FirstAt f (length xs) (cond b (Some (position_or_len p xs)) None)
      go true b = (ltb-true _ _ b, low)
      go false b = low ∙ omega (arith, prefix_len-le-length (λ x. not (p x)) xs, ltb-false _ _ b)

-- a test of some element
pub tells-list-any : (p : ℕ → Bool) (P : ℕ → Type 0) → ((x : ℕ) → Tells (p x) (P x)) → (xs : List ℕ) → Tells (list_any p xs) ((k : ℕ) × (k < length xs) × P (get_or xs k 0))
tells-list-any p P t [] = record { yes = λ e. absurd (true-or-false false e refl); no = λ e (k, h, q). omega (arith, h) }
tells-list-any p P t (x ∷ xs) = go (p x) (t x) (tells-list-any p P t xs)
  where
    go : (b : Bool) → Tells b (P x) → Tells (list_any p xs) ((k : ℕ) × (k < length xs) × P (get_or xs k 0)) → Tells (b || list_any p xs) ((k : ℕ) × (k < suc (length xs)) × P (get_or (x ∷ xs) k 0))
    go true s ih = record { yes = λ e. (0, omega arith, s.yes refl); no = λ e q. true-or-false true refl e }
    go false s ih = record { yes = λ e. later (ih.yes e); no = λ e q. none e q }
      where
        later : (k : ℕ) × (k < length xs) × P (get_or xs k 0) → (k : ℕ) × (k < suc (length xs)) × P (get_or (x ∷ xs) k 0)
        later (k, h, q) = (suc k, omega arith, q)

        none : list_any p xs ≡ false → (k : ℕ) × (k < suc (length xs)) × P (get_or (x ∷ xs) k 0) → ⊥
        none e (zero, h, q) = s.no refl q
        none e (suc k, h, q) = ih.no e (k, omega arith, q)
