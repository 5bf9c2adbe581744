-- What follows from the definitions of specs/Slotted.
--     chain-slotted     the chain of a harmonic table and the slots of one of its probes are so
--     chain-flip, chain-unflip      what the functions then give, over the table's own ratios
-- Assumes nothing.
use Rattle.std.specs.Prelude.{◌≡◌, List, ℕ, ◌/◌, ◌≤◌, ◌<◌, length, get_or}
use Rattle.std.proofs.Common.{◌∙◌, arith}
use Rattle.lists.specs.Harmonic.{Harmonic}
use Rattle.probes.specs.Table.{most_rows, shortest, rows}
use Rattle.chain.specs.Flip.{flip, unflip}
use Rattle.chain.specs.Ratios.{ratios, twelve}
use Rattle.chain.proofs.RatioLaws.{ratios-level, ratios-positive, ratios-product}
use Rattle.chain.proofs.Twelve.{twelve-positive, twelve-product, twelve-level, flip-twelve, unflip-twelve}
use Rattle.chain.specs.Slotted.{Slotted}

pub chain-slotted : (Ts : List ℕ) → Harmonic Ts → rows Ts ≤ most_rows → (i : ℕ) → i < length Ts
    → Slotted (twelve (ratios Ts)) (rows Ts) (get_or Ts i 0 / shortest Ts)
chain-slotted Ts ha few i h = record {
  positive = twelve-positive (ratios Ts) (ratios-positive Ts ha);
  product_is = twelve-product (ratios Ts) ∙ ratios-product Ts ha (omega arith);
  few = few;
  level = twelve-level (ratios Ts) (get_or Ts i 0 / shortest Ts) (ratios-level Ts ha i h);
}

-- the flip over the chain's twelve is the flip over the table's ratios
module _ (Ts : List ℕ) (ha : Harmonic Ts) (i : ℕ) (h : i < length Ts) where
  pub chain-flip : (v : ℕ) → flip (twelve (ratios Ts)) (get_or Ts i 0 / shortest Ts) v ≡ flip (ratios Ts) (get_or Ts i 0 / shortest Ts) v
  chain-flip v = flip-twelve (ratios Ts) (get_or Ts i 0 / shortest Ts) (ratios-positive Ts ha) (ratios-level Ts ha i h) v

  pub chain-unflip : (j : ℕ) → unflip (twelve (ratios Ts)) (get_or Ts i 0 / shortest Ts) j ≡ unflip (ratios Ts) (get_or Ts i 0 / shortest Ts) j
  chain-unflip j = unflip-twelve (ratios Ts) (get_or Ts i 0 / shortest Ts) (ratios-positive Ts ha) (ratios-level Ts ha i h) j
