-- `sums::are_zero` meets its contract: what the library's `all` says, byte by byte. Assumes nothing.
use Rattle.std.specs.Prelude.{◌≡◌, refl, Bool, true, false, List, [], ◌∷◌, ℕ}
use Rattle.std.proofs.Common.{eqb, ◌∙◌, rules, tests}
use Rattle.std.proofs.lemmas.Iterator.{YieldsList-from_slice}
use Rattle.std.proofs.lemmas.Iterator.Search.{all_from_yields_List}
use Rattle.std.specs.List.{list_all}
use Rattle.sheets.specs.Bytes.{all_zero}
use Rattle.sums.proofs.are_zero.Goals as goal

all-is : (bs : List ℕ) → list_all (λ b. eqb b 0) bs ≡ all_zero bs
unfolding all_zero
all-is [] = refl
all-is (b ∷ bs) = go (eqb b 0) refl (all-is bs)
  where
    go : (x : Bool) → eqb b 0 ≡ x → list_all (λ b. eqb b 0) bs ≡ all_zero bs → list_all (λ b. eqb b 0) (b ∷ bs) ≡ all_zero (b ∷ bs)
    go true e rest = rw e rest
    go false e rest = rw e

pub returns : goal.returns
returns c =
    all_from_yields_List (λ b. eqb b 0) _ _ _ c.all.ensures.ran (YieldsList-from_slice c.args.bytes.now cc) (λ x b q k. search (rules, tests))
    ∙ all-is c.args.bytes.now
