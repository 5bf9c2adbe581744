-- What follows from the definitions of specs/BlocksLaws.
--     Searched L bs b       what a loop knows that has passed the blocks below b
--     judged-right, right-judged   none is bad exactly where every block's verdict is 0
--     judged-n              then the answer is n
--     block-numbers         the numbers of the lines
--     blocks-find           the tests of the blocks find what their lines ask for
-- Assumes nothing.
use Rattle.std.specs.Prelude.{◌≡◌, Bool, List, ◌∷◌, ◌++◌, length}
use Rattle.std.proofs.Math.Path.{refl, ap}
use Rattle.std.proofs.Common.{sym, ◌∙◌, inl, inr, add-zero, add-one}
use Rattle.std.proofs.Math.Bool.{true, false}
use Prim.Native.Nat.{ℕ, zero, suc, ◌+◌, ◌-◌, ◌*◌, ◌≤◌, ◌<◌}
use Rattle.std.proofs.Math.Nat.{zero-add, sub-zero}
use Rattle.std.proofs.Math.Decide.{dec_lt, ℕ_discrete}
use native.Mathlib.Omega.{arith}
use borrow.Author.Tests.{lt-ltb, le-ltb}
use Rattle.lists.specs.Pick.{pick, Tells, In}
use Rattle.lists.specs.Telling.{tells-either, tells-not, tells-lt, tells-eq, tells-false}
use Rattle.lists.specs.Refusals.{Line, numbers}
use Rattle.lists.specs.Answering.{Found, Finds, AllFind, first_of}
use Rattle.words.specs.declared.Answer.{Answer}
use Rattle.words.specs.Answers.{refused}
use Rattle.sheets.specs.Layout.{Layout, block_bytes}
use Rattle.sheets.specs.Block.{wrong_sum, wrong_field, used_unused, block_verdict}
use Rattle.sheets.proofs.BlockLaws.{same_number, right-not-wrong, wrong-sum-tells, wrong-field-tells, used-unused-tells, field-tested}
use Rattle.sheets.specs.Blocks.{BadSize, bad_size, block_at, blocks_in, n_of, block_line, block_test, block_lines, block_findings, judged_blocks}
use Rattle.sheets.specs.BlocksLaws.{verdict_at, judged_from, RightBlock, RightSize}

-- the three tests of a block
abbrev first_number : Bool → Bool → Bool → ℕ
first_number s f u = pick s 21 (pick f 22 (pick u 23 0))

module _ {O : Type 0} (refuse : ℕ → ℕ → O) (o : O) (b : ℕ) (fs : List Found) where
  none_pass : (s f u : Bool) → first_number s f u ≡ 0
      → first_of (block_test 21 b s ∷ block_test 22 b f ∷ block_test 23 b u ∷ fs) refuse o ≡ first_of fs refuse o
  unfolding first_of
  none_pass true f u e = absurd (omega arith)
  none_pass false true u e = absurd (omega arith)
  none_pass false false true e = absurd (omega arith)
  none_pass false false false e = rw (le-ltb (suc b) (suc b) (omega arith))

  one-stops : (s f u : Bool) → (first_number s f u ≡ 0 → ⊥)
      → first_of (block_test 21 b s ∷ block_test 22 b f ∷ block_test 23 b u ∷ fs) refuse o ≡ refuse (first_number s f u) b
  unfolding first_of
  one-stops true f u d = rw (lt-ltb b (suc b) (omega arith))
  one-stops false true u d = rw (le-ltb (suc b) (suc b) (omega arith), lt-ltb b (suc b) (omega arith))
  one-stops false false true d = rw (le-ltb (suc b) (suc b) (omega arith), lt-ltb b (suc b) (omega arith))
  one-stops false false false d = absurd (d refl)

module _ (L : Layout) (bs : List ℕ) where
  module _ {O : Type 0} (refuse : ℕ → ℕ → O) (o : O) (b k : ℕ) where
    block-passes : verdict_at L bs b ≡ 0 → first_of (block_findings L bs b (suc k)) refuse o ≡ first_of (block_findings L bs (suc b) k) refuse o
    unfolding block_verdict block_findings
    block-passes e = none_pass refuse o b (block_findings L bs (suc b) k)
        (wrong_sum (block_at b bs)) (wrong_field L (n_of bs) (blocks_in bs) b (block_at b bs)) (used_unused L (n_of bs) b (block_at b bs)) e

    block-stops : (verdict_at L bs b ≡ 0 → ⊥) → first_of (block_findings L bs b (suc k)) refuse o ≡ refuse (verdict_at L bs b) b
    unfolding block_verdict block_findings
    block-stops d = one-stops refuse o b (block_findings L bs (suc b) k)
        (wrong_sum (block_at b bs)) (wrong_field L (n_of bs) (blocks_in bs) b (block_at b bs)) (used_unused L (n_of bs) b (block_at b bs)) d

  from-right : (b k : ℕ) → (judged_from L bs b k).number ≡ 0 → (j : ℕ) → j < k → verdict_at L bs (b + j) ≡ 0
  unfolding judged_from
  from-right b zero e j h = absurd (omega arith)
  from-right b (suc k) e j h = by (ℕ_discrete (verdict_at L bs b) 0) (from-right (suc b) k) j h
    where
      by : Dec (verdict_at L bs b ≡ 0) → ((first_of (block_findings L bs (suc b) k) refused (refused 0 (n_of bs))).number ≡ 0 → (i : ℕ) → i < k → verdict_at L bs (suc b + i) ≡ 0)
          → (i : ℕ) → i < suc k → verdict_at L bs (b + i) ≡ 0
      by (yes z) ih zero l = rw (add-zero b) z
      by (yes z) ih (suc i) l =
          let g : suc b + i ≡ b + suc i = omega arith in
          rw (← g) (ih (rw (block-passes refused (refused 0 (n_of bs)) b k z) at e) i (omega arith))
      by (no d) ih i l = absurd (d (rw (block-stops refused (refused 0 (n_of bs)) b k d) at e))

  pub judged-right : (judged_blocks L bs).number ≡ 0 → (b : ℕ) → b < blocks_in bs → verdict_at L bs b ≡ 0
  unfolding judged_blocks judged_from
  judged-right e b h = rw zero-add at (from-right 0 (blocks_in bs) e b h)

  from_all : (b k : ℕ) → ((j : ℕ) → j < k → verdict_at L bs (b + j) ≡ 0) → judged_from L bs b k ≡ refused 0 (n_of bs)
  unfolding judged_from block_findings first_of
  from_all b zero each = refl
  from_all b (suc k) each =
      block-passes refused (refused 0 (n_of bs)) b k (rw (add-zero b) at (each 0 (omega arith)))
      ∙ from_all (suc b) k
      (λ j h.
      let g : suc b + j ≡ b + suc j = omega arith in
      rw g (each (suc j) (omega arith)))

  pub right-judged : ((b : ℕ) → b < blocks_in bs → verdict_at L bs b ≡ 0) → judged_blocks L bs ≡ refused 0 (n_of bs)
  unfolding judged_blocks judged_from
  right-judged each = from_all 0 (blocks_in bs) (λ j h. rw (zero-add j) (each j h))

  module _ {O : Type 0} (refuse : ℕ → ℕ → O) (o : O) where
    pub from-passes : (b k : ℕ) → (judged_from L bs b k).number ≡ 0 → first_of (block_findings L bs b k) refuse o ≡ o
    unfolding judged_from block_findings first_of
    from-passes b zero e = refl
    from-passes b (suc k) e = by (ℕ_discrete (verdict_at L bs b) 0) (from-passes (suc b) k)
      where
        by : Dec (verdict_at L bs b ≡ 0) → ((first_of (block_findings L bs (suc b) k) refused (refused 0 (n_of bs))).number ≡ 0 → first_of (block_findings L bs (suc b) k) refuse o ≡ o)
            → first_of (block_findings L bs b (suc k)) refuse o ≡ o
        by (yes z) ih = block-passes refuse o b k z ∙ ih (ap (λ (a : Answer). a.number) (sym (block-passes refused (refused 0 (n_of bs)) b k z)) ∙ e)
        by (no d) ih = absurd (d (ap (λ (a : Answer). a.number) (sym (block-stops refused (refused 0 (n_of bs)) b k d)) ∙ e))

    pub from-stops : (b k : ℕ) → ((judged_from L bs b k).number ≡ 0 → ⊥) → first_of (block_findings L bs b k) refuse o ≡ refuse (judged_from L bs b k).number (judged_from L bs b k).index
    unfolding judged_from block_findings first_of
    from-stops b zero n = absurd (n refl)
    from-stops b (suc k) n = by (ℕ_discrete (verdict_at L bs b) 0) (from-stops (suc b) k)
      where
        by : Dec (verdict_at L bs b ≡ 0)
            → (((first_of (block_findings L bs (suc b) k) refused (refused 0 (n_of bs))).number ≡ 0 → ⊥)
            → first_of (block_findings L bs (suc b) k) refuse o ≡ refuse (first_of (block_findings L bs (suc b) k) refused (refused 0 (n_of bs))).number (first_of (block_findings L bs (suc b) k) refused (refused 0 (n_of bs))).index)
            → first_of (block_findings L bs b (suc k)) refuse o ≡ refuse (first_of (block_findings L bs b (suc k)) refused (refused 0 (n_of bs))).number (first_of (block_findings L bs b (suc k)) refused (refused 0 (n_of bs))).index
        by (yes z) ih =
            let same = block-passes refused (refused 0 (n_of bs)) b k z in
            block-passes refuse o b k z ∙ ih (λ e. n (ap (λ (a : Answer). a.number) same ∙ e)) ∙ ap (λ (a : Answer). refuse a.number a.index) (sym same)
        by (no d) ih = block-stops refuse o b k d ∙ ap (λ (a : Answer). refuse a.number a.index) (sym (block-stops refused (refused 0 (n_of bs)) b k d))

  pub judged-n : (a : Answer) → a ≡ judged_blocks L bs → a.number ≡ 0 → a ≡ refused 0 (n_of bs)
  unfolding judged_blocks judged_from
  judged-n a judged right = judged ∙ from-passes refused (refused 0 (n_of bs)) 0 (blocks_in bs) (rw judged at right)

  -- the loop
  pub record Searched (b : ℕ) : Type 0 where
    pub within : b ≤ blocks_in bs
    pub rest : first_of (block_findings L bs b (blocks_in bs - b)) refused (refused 0 (n_of bs)) ≡ judged_blocks L bs

  pub searched-start : Searched 0
  unfolding judged_blocks
  searched-start = record { within = omega arith; rest = rw (sub-zero (blocks_in bs)) }

  left : (n b : ℕ) → b < n → n - b ≡ suc (n - suc b)
  left n b h = omega arith

  pub searched-next : (b : ℕ) → b < blocks_in bs → verdict_at L bs b ≡ 0 → Searched b → Searched (b + 1)
  searched-next b h z s = record {
    within = omega arith;
    rest = rw (add-one b) (sym (block-passes refused (refused 0 (n_of bs)) b (blocks_in bs - suc b) z) ∙ rw (left (blocks_in bs) b h) at s.rest);
  }

  pub searched-found : (b : ℕ) → b < blocks_in bs → (verdict_at L bs b ≡ 0 → ⊥) → Searched b → refused (verdict_at L bs b) b ≡ judged_blocks L bs
  searched-found b h d s = sym (block-stops refused (refused 0 (n_of bs)) b (blocks_in bs - suc b) d) ∙ rw (left (blocks_in bs) b h) at s.rest

  pub searched-none : (b : ℕ) → blocks_in bs ≤ b → Searched b → refused 0 (n_of bs) ≡ judged_blocks L bs
  unfolding block_findings first_of
  searched-none b h s =
      let z : blocks_in bs - b ≡ 0 = omega arith in
      rw z at s.rest

-- 22 does not apply to a block whose verdict is 0, and so on
module _ (L : Layout) (n k b : ℕ) (B : List ℕ) where
  pub right-block : block_verdict L n k b B ≡ 0 → RightBlock L n k b B
  unfolding block_verdict
  right-block e = by (wrong_sum B) (wrong_field L n k b B) (used_unused L n b B) refl refl refl
    where
      by : (s f u : Bool) → wrong_sum B ≡ s → wrong_field L n k b B ≡ f → used_unused L n b B ≡ u → RightBlock L n k b B
      by true f u p q r = absurd (omega (arith, rw p at e))
      by false true u p q r = absurd (omega (arith, rw (p, q) at e))
      by false false true p q r = absurd (omega (arith, rw (p, q, r) at e))
      by false false false p q r = record {
        sums = (wrong-sum-tells B).no p;
        fields = field-tested L n k b B q;
        zeros = (used-unused-tells L n k b B).no r;
      }

  pub block-right : RightBlock L n k b B → block_verdict L n k b B ≡ 0
  unfolding block_verdict
  block-right r =
      rw (
        tells-false (wrong_sum B) (wrong-sum-tells B) r.sums,
        tells-false (wrong_field L n k b B) (wrong-field-tells L n k b B) (right-not-wrong L n k b B r.fields),
        tells-false (used_unused L n b B) (used-unused-tells L n k b B) r.zeros,
      )

-- the size
module _ (L : Layout) (bs : List ℕ) where
  pub bad-size-tells : Tells (bad_size L bs) (BadSize L bs)
  unfolding bad_size
  bad-size-tells = tells-either _ _ (tells-eq _ _) (tells-either _ _ (tells-not _ (tells-eq _ _)) (tells-lt _ _))

  pub right-size : (BadSize L bs → ⊥) → RightSize L bs
  right-size r = record {
    some = some (dec_lt 0 (length bs));
    whole = same_number _ _ (λ d. r (inr (inl d)));
    most = most (dec_lt (L.most_blocks * block_bytes) (length bs));
  }
    where
      some : Dec (0 < length bs) → 0 < length bs
      some (yes h) = h
      some (no h) = absurd (r (inl (omega arith)))

      most : Dec (L.most_blocks * block_bytes < length bs) → length bs ≤ L.most_blocks * block_bytes
      most (yes h) = absurd (r (inr (inr h)))
      most (no h) = omega arith

  pub size-tested : bad_size L bs ≡ false → RightSize L bs
  size-tested e = right-size (bad-size-tells.no e)

-- the tests of the blocks find what their lines ask for
finds-block : (k b : ℕ) (C : Type 0) (t : Bool) → Tells t C → Finds (block_line k b C) (block_test k b t)
finds-block k b C true t = record { number = refl; places = refl; place = record { within = omega arith; passed = λ i h p. absurd (omega (arith, p.0)); found = λ h. (refl, t.yes refl) } }
finds-block k b C false t = record { number = refl; places = refl; place = record { within = omega arith; passed = λ i h p. t.no refl p.1; found = λ h. absurd (omega arith) } }

pub blocks-find : (L : Layout) (bs : List ℕ) (b k : ℕ) → AllFind (block_lines L bs b k) (block_findings L bs b k)
unfolding block_lines block_findings AllFind
blocks-find L bs b zero = tt
blocks-find L bs b (suc k) = (
  finds-block 21 b _ _ (wrong-sum-tells (block_at b bs)),
  (
    finds-block 22 b _ _ (wrong-field-tells L (n_of bs) (blocks_in bs) b (block_at b bs)),
    (finds-block 23 b _ _ (used-unused-tells L (n_of bs) (blocks_in bs) b (block_at b bs)), blocks-find L bs (suc b) k),
  ),
)

-- the numbers of the blocks' lines, and of those that follow them
pub block-numbers : (L : Layout) (bs : List ℕ) (ms : List Line) (x b k : ℕ) → In x (numbers (block_lines L bs b k ++ ms)) → In x (21 ∷ 22 ∷ 23 ∷ numbers ms)
unfolding In block_lines
block-numbers L bs ms x b zero h = inr (inr (inr h))
block-numbers L bs ms x b (suc k) (inl e) = inl e
block-numbers L bs ms x b (suc k) (inr (inl e)) = inr (inl e)
block-numbers L bs ms x b (suc k) (inr (inr (inl e))) = inr (inr (inl e))
block-numbers L bs ms x b (suc k) (inr (inr (inr h))) = block-numbers L bs ms x (suc b) k h
