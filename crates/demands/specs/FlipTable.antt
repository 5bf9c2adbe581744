-- SUB-BINS THAT THE FLIP'S FORMULA SHUTS OUT. Document 01, "Slots and sub-bins" and "What the inspector asks of each promise".
--     slot bs m v right wrong   ratios, the number of slots and a slot, the sub-bin that the formula has for it, and what a wrong flip gives
--     flip-shuts-out            every claim of the table is settled: the slot flips to the right sub-bin, and not to the wrong one
--     flip-not-back             "a flip that gives its number back" is not the flip
-- Assumes nothing.
use Rattle.std.specs.Prelude.{◌≡◌, refl, List, [], ◌∷◌, ℕ, eqb}
use Rattle.std.proofs.Common.{sym, ◌∙◌}
use Rattle.lists.specs.Telling.{tells-eq}
use Rattle.chain.specs.Digits.{product, digits}
use Rattle.chain.specs.Flip.{turned, levels, flip}
use Rattle.chain.specs.Flip.Formula.{flip-computes}
use Rattle.shut_out.specs.Claims.{Claim, claim, Each, Settled, all_settled}

-- ratios, number of slots, slot
abbrev pub Asked : Type 0
Asked = List ℕ × ℕ × ℕ

abbrev pub Meets : Asked → ℕ → Type 0
Meets (bs, m, v) j = flip bs m v ≡ j

abbrev slot : List ℕ → ℕ → ℕ → ℕ → ℕ → Claim Asked ℕ
slot bs m v right wrong = claim (bs, m, v) right wrong

abbrev pub claims : List (Claim Asked ℕ)
claims =
    -- "a flip that gives its number back"
    slot (2 ∷ 2 ∷ 3 ∷ []) 12 10 5 10
    -- the way back in place of the flip
    ∷ slot (2 ∷ 2 ∷ 3 ∷ []) 12 10 5 7
    -- "j = d_k + d_(k-1) b_k + .. + d_1 (b_2 .. b_k)": its first term alone
    ∷ slot (2 ∷ 2 ∷ 3 ∷ []) 12 10 5 2
    -- "j = d_k + d_(k-1) b_k + .. + d_1 (b_2 .. b_k)": the weights b_1 .. b_(k-1) in place of b_2 .. b_k
    ∷ slot (2 ∷ 2 ∷ 3 ∷ []) 12 1 6 4
    -- document 000, equation 22, taken across more than one level: slot 1 in sub-bin 1
    ∷ slot (2 ∷ 2 ∷ 3 ∷ []) 12 1 6 1
    -- "For a probe of period T_k": the ratios of all periods
    ∷ slot (2 ∷ 2 ∷ 3 ∷ []) 2 1 1 6
    -- always 0
    ∷ slot (2 ∷ []) 2 1 1 0
    -- "At k = 0 both are 0"
    ∷ slot (2 ∷ 2 ∷ 3 ∷ []) 1 0 0 1
    ∷ []

pub flip-shuts-out : Each (Settled Meets) claims
unfolding product digits turned levels
flip-shuts-out =
    all_settled eqb tells-eq (λ (x : Asked). turned (levels x.0 x.1) (digits (levels x.0 x.1) x.2)) Meets (λ x. flip-computes _ _ _) (λ x a b p q. sym p ∙ q) claims refl

pub flip-not-back : ((bs : List ℕ) (m v : ℕ) → flip bs m v ≡ v) → ⊥
flip-not-back f = flip-shuts-out.0.1 (f _ _ _)
