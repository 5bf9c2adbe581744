-- THE TESTS OF A BLOCK TELL WHAT THEY SAY, and the ways to its verdict.
--     wrong-sum-tells, wrong-field-tells, used-unused-tells   each test tells its fact
--     verdict-21, ..        the verdict from the tests
-- Assumes nothing.
use Rattle.std.specs.Prelude.{◌≡◌, ◌≢◌, true, false, not, List, ℕ, ◌≤◌, ◌<◌, eqb, take}
use Rattle.std.proofs.Common.{sym, inl, inr, arith, eq-eqb}
use Rattle.std.proofs.Math.Decide.{dec_lt, ℕ_discrete}
use Rattle.lists.specs.Pick.{Tells}
use Rattle.lists.specs.Telling.{tells-either, tells-not, tells-lt, tells-eq, tells-true, tells-false}
use Rattle.sheets.specs.Bytes.{word, byte_sum, place_sum}
use Rattle.sheets.specs.Layout.{Layout, sum_place, sum_place2, most_n, blocks_of, records_of}
use Rattle.sheets.specs.BlockLaws.{RightField}
use Rattle.sheets.specs.Block.{WrongSum, WrongField, UsedUnused, wrong_sum, wrong_field, unused, used_unused, block_verdict}
use Rattle.sheets.specs.ByteLaws.{all-zero-tells}

-- two numbers that are not different are equal
pub same_number : (a b : ℕ) → ((a ≡ b → ⊥) → ⊥) → a ≡ b
same_number a b n = by (ℕ_discrete a b)
  where
    by : Dec (a ≡ b) → a ≡ b
    by (yes e) = e
    by (no d) = absurd (n d)

tells-differ : (a b : ℕ) → Tells (not (eqb a b)) (a ≢ b)
tells-differ a b = tells-not (eqb a b) (tells-eq a b)

pub wrong-sum-tells : (B : List ℕ) → Tells (wrong_sum B) (WrongSum B)
unfolding wrong_sum
wrong-sum-tells B = tells-either _ _ (tells-differ _ _) (tells-differ _ _)

-- where the first sum is right, the second decides
pub second-sum : (B : List ℕ) (there sum : ℕ) → word 4 sum_place B ≡ byte_sum (take sum_place B) → there ≡ word 4 sum_place2 B → sum ≡ place_sum 0 (take sum_place B)
    → not (eqb there sum) ≡ wrong_sum B
unfolding wrong_sum
second-sum B there sum e f g = rw (f, g, eq-eqb (word 4 sum_place B) (byte_sum (take sum_place B)) e)

module _ (L : Layout) (n k b : ℕ) (B : List ℕ) where
  pub wrong-field-tells : Tells (wrong_field L n k b B) (WrongField L n k b B)
  unfolding wrong_field
  wrong-field-tells =
      tells-either _ _ (tells-lt most_n n)
      (tells-either _ _ (tells-differ _ _)
      (tells-either _ _ (tells-differ _ _)
      (tells-either _ _ (tells-differ _ _)
      (tells-either _ _ (tells-differ _ _)
      (tells-either _ _ (tells-differ _ _)
      (tells-differ _ _))))))

  pub right-field : (WrongField L n k b B → ⊥) → RightField L n k b B
  right-field r = record {
    few = at_most (dec_lt most_n n);
    count = same_number _ _ (λ d. r (inr (inl d)));
    number = same_number _ _ (λ d. r (inr (inr (inl d))));
    blocks = same_number _ _ (λ d. r (inr (inr (inr (inl d)))));
    records = same_number _ _ (λ d. r (inr (inr (inr (inr (inl d))))));
    probes = same_number _ _ (λ d. r (inr (inr (inr (inr (inr (inl d)))))));
    zeros = same_number _ _ (λ d. r (inr (inr (inr (inr (inr (inr d)))))));
  }
    where
      at_most : Dec (most_n < n) → n ≤ most_n
      at_most (yes h) = absurd (r (inl h))
      at_most (no h) = omega arith

  pub right-not-wrong : RightField L n k b B → WrongField L n k b B → ⊥
  right-not-wrong f (inl h) = absurd (omega (arith, f.few))
  right-not-wrong f (inr (inl d)) = d f.count
  right-not-wrong f (inr (inr (inl d))) = d f.number
  right-not-wrong f (inr (inr (inr (inl d)))) = d f.blocks
  right-not-wrong f (inr (inr (inr (inr (inl d))))) = d f.records
  right-not-wrong f (inr (inr (inr (inr (inr (inl d)))))) = d f.probes
  right-not-wrong f (inr (inr (inr (inr (inr (inr d)))))) = d f.zeros

  pub field-is-wrong : WrongField L n k b B → true ≡ wrong_field L n k b B
  field-is-wrong w = sym (tells-true (wrong_field L n k b B) wrong-field-tells w)

  pub field-is-right : RightField L n k b B → false ≡ wrong_field L n k b B
  field-is-right f = sym (tells-false (wrong_field L n k b B) wrong-field-tells (right-not-wrong f))

  pub field-tested : wrong_field L n k b B ≡ false → RightField L n k b B
  field-tested e = right-field (wrong-field-tells.no e)

  pub used-unused-tells : Tells (used_unused L n b B) (UsedUnused L n b B)
  unfolding used_unused
  used-unused-tells = tells-not _ (all-zero-tells (unused L n b B))

  -- the ways to the verdict
  pub verdict-21 : wrong_sum B ≡ true → 21 ≡ block_verdict L n k b B
  unfolding block_verdict
  verdict-21 e = rw e

  pub verdict-22 : wrong_sum B ≡ false → wrong_field L n k b B ≡ true → 22 ≡ block_verdict L n k b B
  unfolding block_verdict
  verdict-22 e f = rw (e, f)

  pub verdict-23 : wrong_sum B ≡ false → wrong_field L n k b B ≡ false → used_unused L n b B ≡ true → 23 ≡ block_verdict L n k b B
  unfolding block_verdict
  verdict-23 e f g = rw (e, f, g)

  pub verdict-0 : wrong_sum B ≡ false → wrong_field L n k b B ≡ false → used_unused L n b B ≡ false → 0 ≡ block_verdict L n k b B
  unfolding block_verdict
  verdict-0 e f g = rw (e, f, g)
