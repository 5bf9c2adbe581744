-- THE FIRST THAT APPLIES, IN THE FIXED ORDER. Document 01: "Checks run in the order listed, each over the whole table, and report the lowest place."
--     line k n Wrong          number k, given exactly when Wrong holds at some place below n; its index is the lowest such place
--     whole k C               number k, given exactly when C holds; it has no index, which stands as 0
--     Silent l, Silents ls    the line, or every one of the lines, does not apply
--     First ls refuse Rest o  o is the refusal of the first of the lines that applies, and where none does, Rest holds of o   (believe this)
--     first_of fs refuse o     the same, computed from the places that were found
-- A result o is an answer, or an answer with the lent columns: refuse k i says what both are when number k is given with index i.
-- Assumes nothing.
use Rattle.std.specs.Prelude.{◌≡◌, refl, ◌⊎◌, ℕ, ◌<◌}
use Rattle.std.proofs.Math.Path.{sym, ap}
use Rattle.std.proofs.Common.{◌∙◌}
use Rattle.std.proofs.Math.Logic.{inl, inr}
use mathlib.Core.List.{List, [], ◌∷◌, ◌++◌}
use Rattle.lists.specs.Pick.{In}
use Rattle.lists.specs.Lowest.{Lowest, lowest-unique}

pub record Line : Type 1 where
  pub number : ℕ
  pub places : ℕ
  pub Wrong : ℕ → Type 0

abbrev pub line : ℕ → ℕ → (ℕ → Type 0) → Line
line k n Wrong = record { number = k; places = n; Wrong = Wrong }

abbrev pub whole : ℕ → Type 0 → Line
whole k C = line k 1 (λ i. C)

abbrev pub Silent : Line → Type 0
Silent l = (i : ℕ) → i < l.places → l.Wrong i → ⊥

abbrev pub AppliesAt : Line → ℕ → Type 0
AppliesAt l i = (i < l.places) × Lowest l.Wrong l.places i

unfoldable pub Silents : List Line → Type 0
Silents [] = Unit {0}
Silents (l ∷ ls) = Silent l × Silents ls

abbrev pub numbers : List Line → List ℕ
numbers [] = []
numbers (l ∷ ls) = l.number ∷ numbers ls

never_both : (l : Line) (i : ℕ) → AppliesAt l i → Silent l → ⊥
never_both l i (h, w) s = s i h (w.found h)

module _ {O : Type 0} where
  unfoldable pub First : List Line → (ℕ → ℕ → O) → (O → Type 0) → O → Type 0
  First [] refuse Rest o = Rest o
  First (l ∷ ls) refuse Rest o =
      ((i : ℕ) × AppliesAt l i × (o ≡ refuse l.number i)) ⊎ (Silent l × First ls refuse Rest o)

  -- one result at most, where Rest leaves one at most
  pub first-unique : (ls : List Line) (refuse : ℕ → ℕ → O) (Rest : O → Type 0)
      → ((a b : O) → Rest a → Rest b → a ≡ b) → (a b : O) → First ls refuse Rest a → First ls refuse Rest b → a ≡ b
  unfolding First
  first-unique [] refuse Rest one a b p q = one a b p q
  first-unique (l ∷ ls) refuse Rest one a b (inl (i, at, e)) (inl (j, at', e')) =
      e ∙ ap (refuse l.number) (lowest-unique l.Wrong l.places i j at.1 at'.1) ∙ sym e'
  first-unique (l ∷ ls) refuse Rest one a b (inl (i, at, e)) (inr (s, q)) = absurd (never_both l i at s)
  first-unique (l ∷ ls) refuse Rest one a b (inr (s, p)) (inl (i, at, e)) = absurd (never_both l i at s)
  first-unique (l ∷ ls) refuse Rest one a b (inr (s, p)) (inr (s', q)) = first-unique ls refuse Rest one a b p q

  -- every number that is given is on one of the lines, or Rest gives it
  pub first-numbers : (number : O → ℕ) (ls : List Line) (refuse : ℕ → ℕ → O) (Rest : O → Type 0)
      → ((k i : ℕ) → number (refuse k i) ≡ k) → (o : O) → First ls refuse Rest o → In (number o) (numbers ls) ⊎ Rest o
  unfolding First In
  first-numbers number [] refuse Rest says o p = inr p
  first-numbers number (l ∷ ls) refuse Rest says o (inl (i, at, e)) = inl (inl (ap number e ∙ says l.number i))
  first-numbers number (l ∷ ls) refuse Rest says o (inr (s, p)) = more (first-numbers number ls refuse Rest says o p)
    where
      more : In (number o) (numbers ls) ⊎ Rest o → ((number o ≡ l.number) ⊎ In (number o) (numbers ls)) ⊎ Rest o
      more (inl h) = inl (inr h)
      more (inr h) = inr h

  -- where no line applies, Rest holds, and the other way round
  pub first_rest : (ls : List Line) (refuse : ℕ → ℕ → O) (Rest : O → Type 0) (o : O) → Silents ls → First ls refuse Rest o → Rest o
  unfolding First Silents
  first_rest [] refuse Rest o s p = p
  first_rest (l ∷ ls) refuse Rest o (s, ss) (inl (i, at, e)) = absurd (never_both l i at s)
  first_rest (l ∷ ls) refuse Rest o (s, ss) (inr (q, p)) = first_rest ls refuse Rest o ss p

  pub rest-first : (ls : List Line) (refuse : ℕ → ℕ → O) (Rest : O → Type 0) (o : O) → Silents ls → Rest o → First ls refuse Rest o
  unfolding First Silents
  rest-first [] refuse Rest o s r = r
  rest-first (l ∷ ls) refuse Rest o (s, ss) r = inr (s, rest-first ls refuse Rest o ss r)

  -- a result that no line gives shows that none applies
  pub first-silents : (ls : List Line) (refuse : ℕ → ℕ → O) (Rest : O → Type 0) (o : O)
      → ((k i : ℕ) → In k (numbers ls) → o ≡ refuse k i → ⊥) → First ls refuse Rest o → Silents ls
  unfolding First Silents In
  first-silents [] refuse Rest o other p = tt
  first-silents (l ∷ ls) refuse Rest o other (inl (i, at, e)) = absurd (other l.number i (inl refl) e)
  first-silents (l ∷ ls) refuse Rest o other (inr (s, p)) = (s, first-silents ls refuse Rest o (λ k i h. other k i (inr h)) p)

  -- lines in two parts
  pub first-append : (ls ms : List Line) (refuse : ℕ → ℕ → O) (Rest : O → Type 0) (o : O)
      → First ls refuse (First ms refuse Rest) o → First (ls ++ ms) refuse Rest o
  unfolding First
  first-append [] ms refuse Rest o p = p
  first-append (l ∷ ls) ms refuse Rest o (inl h) = inl h
  first-append (l ∷ ls) ms refuse Rest o (inr (s, p)) = inr (s, first-append ls ms refuse Rest o p)

  pub first-parts : (ls ms : List Line) (refuse : ℕ → ℕ → O) (Rest : O → Type 0) (o : O)
      → First (ls ++ ms) refuse Rest o → First ls refuse (First ms refuse Rest) o
  unfolding First
  first-parts [] ms refuse Rest o p = p
  first-parts (l ∷ ls) ms refuse Rest o (inl h) = inl h
  first-parts (l ∷ ls) ms refuse Rest o (inr (s, p)) = inr (s, first-parts ls ms refuse Rest o p)
