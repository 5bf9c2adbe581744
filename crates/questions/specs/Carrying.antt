-- REFUSALS CARRIED ON: the first that applies, of a result that another result is made from.
--     first-split           a result is a line's, or no line applies and the rest holds
--     first-carry           a refusal of one kind of result is a refusal of another
-- Assumes nothing.
use Rattle.std.specs.Prelude.{◌≡◌, ◌⊎◌, ℕ}
use Rattle.std.proofs.Common.{ap, ◌∙◌}
use Rattle.std.proofs.Math.Logic.{inl, inr}
use mathlib.Core.List.{List, [], ◌∷◌}
use Rattle.lists.specs.Refusals.{Line, Silents, First}

-- the refusal of a line, and nothing else
abbrev pub Refused : {O : Type 0} → List Line → (ℕ → ℕ → O) → O → Type 0
Refused ls refuse o = First ls refuse (λ r. ⊥) o

module _ {O : Type 0} where
  pub first-split : (ls : List Line) (refuse : ℕ → ℕ → O) (Rest : O → Type 0) (o : O) → First ls refuse Rest o → Refused ls refuse o ⊎ (Silents ls × Rest o)
  unfolding First Silents
  first-split [] refuse Rest o p = inr (tt, p)
  first-split (l ∷ ls) refuse Rest o (inl h) = inl (inl h)
  first-split (l ∷ ls) refuse Rest o (inr (s, p)) = more (first-split ls refuse Rest o p)
    where
      more : Refused ls refuse o ⊎ (Silents ls × Rest o) → Refused (l ∷ ls) refuse o ⊎ (Silents (l ∷ ls) × Rest o)
      more (inl h) = inl (inr (s, h))
      more (inr (q, r)) = inr ((s, q), r)

pub first-carry : {O P : Type 0} (f : O → P) (ls : List Line) (refuse : ℕ → ℕ → O) (again : ℕ → ℕ → P) (Rest : P → Type 0) (o : O)
    → ((k i : ℕ) → f (refuse k i) ≡ again k i) → Refused ls refuse o → First ls again Rest (f o)
unfolding First
first-carry f [] refuse again Rest o same p = absurd p
first-carry f (l ∷ ls) refuse again Rest o same (inl (i, at, e)) = inl (i, at, ap f e ∙ same l.number i)
first-carry f (l ∷ ls) refuse again Rest o same (inr (s, p)) = inr (s, first-carry f ls refuse again Rest o same p)
