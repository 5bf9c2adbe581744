-- THE FIRST THAT APPLIES, COMPUTED. What a call computes, place by place, against the meaning in Refusals.
--     Found             a number, how many places there are, and the place found: the number of places where there is none
--     first_of fs ..     the refusal of the first that found a place below its end; else what is left to say
--     Finds l f         f is what the line l asks for
-- Assumes nothing.
use Rattle.std.specs.Prelude.{◌≡◌, Bool, ℕ, ◌≤◌, ◌<◌}
use Rattle.std.proofs.Math.Path.{refl}
use Rattle.std.proofs.Math.Logic.{inl, inr}
use Rattle.std.proofs.Math.Bool.{true, false}
use mathlib.Core.List.{List, [], ◌∷◌, ◌++◌}
use Rattle.std.proofs.Common.{arith}
use Rattle.std.proofs.Math.Dec.{ltb}
use borrow.Author.Tests.{ltb-true, ltb-false}
use Rattle.lists.specs.Pick.{pick, Tells}
use Rattle.lists.specs.Lowest.{Lowest}
use Rattle.lists.specs.Refusals.{Line, whole, First, Silents}

pub record Found : Type 0 where
  pub number : ℕ
  pub places : ℕ
  pub place : ℕ

abbrev pub found : ℕ → ℕ → ℕ → Found
found k n i = record { number = k; places = n; place = i }

-- a check with no index: place 0 of one place where it applies, and past the end where not
abbrev pub tested : ℕ → Bool → Found
tested k b = found k 1 (pick b 0 1)

pub record Finds (l : Line) (f : Found) : Type 0 where
  pub number : l.number ≡ f.number
  pub places : l.places ≡ f.places
  pub place : Lowest l.Wrong l.places f.place

unfoldable pub AllFind : List Line → List Found → Type 0
AllFind [] [] = Unit {0}
AllFind [] (f ∷ fs) = ⊥
AllFind (l ∷ ls) [] = ⊥
AllFind (l ∷ ls) (f ∷ fs) = Finds l f × AllFind ls fs

pub finds-whole : (k : ℕ) (C : Type 0) (b : Bool) → Tells b C → Finds (whole k C) (tested k b)
finds-whole k C true t = record { number = refl; places = refl; place = record { within = omega arith; passed = λ i h. absurd (omega arith); found = λ h. t.yes refl } }
finds-whole k C false t = record { number = refl; places = refl; place = record { within = omega arith; passed = λ i h c. t.no refl c; found = λ h. absurd (omega arith) } }

module _ {O : Type 0} where
  unfoldable pub first_of : List Found → (ℕ → ℕ → O) → O → O
  first_of [] refuse o = o
  first_of (f ∷ fs) refuse o = pick (ltb f.place f.places) (refuse f.number f.place) (first_of fs refuse o)

  pub first-of : (ls : List Line) (fs : List Found) (refuse : ℕ → ℕ → O) (Rest : O → Type 0) (o : O)
      → AllFind ls fs → (Silents ls → Rest o) → First ls refuse Rest (first_of fs refuse o)
  unfolding First first_of AllFind Silents
  first-of [] [] refuse Rest o a r = r tt
  first-of [] (f ∷ fs) refuse Rest o a r = absurd a
  first-of (l ∷ ls) [] refuse Rest o a r = absurd a
  first-of (l ∷ ls) (f ∷ fs) refuse Rest o (g, a) r =
      go (ltb f.place f.places) refl (λ s. first-of ls fs refuse Rest o a (λ ss. r (s, ss)))
    where
      go : (b : Bool) → ltb f.place f.places ≡ b
          → (((i : ℕ) → i < l.places → l.Wrong i → ⊥) → First ls refuse Rest (first_of fs refuse o))
          → First (l ∷ ls) refuse Rest (pick b (refuse f.number f.place) (first_of fs refuse o))
      go true e ih =
          inl (f.place, (rw g.places (ltb-true f.place f.places e), g.place), rw g.number)
      go false e ih =
          let over : f.places ≤ f.place = ltb-false f.place f.places e in
          let silent : (i : ℕ) → i < l.places → l.Wrong i → ⊥ = λ i h. g.place.passed i (omega (arith, g.places)) in
          inr (silent, ih silent)

  -- checks in two parts
  pub first-of-append : (fs gs : List Found) (refuse : ℕ → ℕ → O) (o : O) → first_of (fs ++ gs) refuse o ≡ first_of fs refuse (first_of gs refuse o)
  unfolding first_of
  first-of-append [] gs refuse o = refl
  first-of-append (f ∷ fs) gs refuse o = rw (first-of-append fs gs refuse o)

pub all-find-append : (ls ms : List Line) (fs gs : List Found) → AllFind ls fs → AllFind ms gs → AllFind (ls ++ ms) (fs ++ gs)
unfolding AllFind
all-find-append [] ms [] gs a b = b
all-find-append [] ms (f ∷ fs) gs a b = absurd a
all-find-append (l ∷ ls) ms [] gs a b = absurd a
all-find-append (l ∷ ls) ms (f ∷ fs) gs (h, a) b = (h, all-find-append ls ms fs gs a b)
