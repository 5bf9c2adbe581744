-- LAWS OF THE LOOPS OF READING: a block's bytes are a part of the book, and a column is filled record by record.
--     block-long            a block has 512 bytes
--     part-verdict          the verdict of the part that the code lends on
--     field_room            every number of the first n records stands within the book
--     load-next             one more entry of a column
--     Passed bs a           what is known where no block is bad
-- Assumes nothing.
use Rattle.std.specs.Prelude.{◌≡◌, false, length, get_or, take, drop, set}
use Rattle.std.proofs.Math.Path.{refl, ap}
use Rattle.std.proofs.Common.{sym, ◌∙◌, add-zero, zero-add, add-one, length-append, length-drop, drop-cons}
use mathlib.Core.List.{List, [], ◌∷◌, ◌++◌, append_assoc}
use Prim.Native.Nat.{ℕ, zero, suc, ◌+◌, ◌-◌, ◌*◌, ◌/◌, ◌%◌, ◌≤◌, ◌<◌}
use native.Mathlib.Omega.{arith}
use Rattle.std.proofs.Math.Seq.{length-take-le}
use Rattle.std.proofs.lemmas.List.{set_at}
use Rattle.sheets.specs.Bytes.{word}
use Rattle.sheets.specs.Layout.{Layout, first_edition, block_bytes, most_n, blocks_of}
use Rattle.sheets.proofs.LayoutLaws.{blocks_more}
use Rattle.sheets.specs.Block.{block_verdict}
use Rattle.words.specs.declared.Answer.{Answer}
use Rattle.words.specs.Answers.{refused}
use Rattle.sheets.specs.Blocks.{bad_size, block_at, blocks_in, n_of, judged_blocks, field, column}
use Rattle.sheets.specs.BlocksLaws.{verdict_at}
use Rattle.sheets.proofs.BlocksLaws.{judged-right, judged-n, right-block, size-tested}

module _ (bs : List ℕ) (b : ℕ) where
  pub block-long : b < blocks_in bs → length (block_at b bs) ≡ block_bytes
  unfolding block_at blocks_in
  block-long h = length-take-le 512 (drop (b * 512) bs) (rw (length-drop (b * 512) bs) (omega arith))

  pub block-part : take (b * 512 + 512 - b * 512) (drop (b * 512) bs) ≡ block_at b bs
  unfolding block_at
  block-part =
      let e : b * 512 + 512 - b * 512 ≡ 512 = omega arith in
      rw e

  pub part-long : b < length bs / 512 → length (take (b * 512 + 512 - b * 512) (drop (b * 512) bs)) ≡ block_bytes
  unfolding blocks_in
  part-long h = rw block-part (block-long h)

  pub part-verdict : (L : Layout) (r n : ℕ) → n ≡ word 2 6 bs → r ≡ block_verdict L n (length bs / 512) b (take (b * 512 + 512 - b * 512) (drop (b * 512) bs))
      → r ≡ verdict_at L bs b
  unfolding n_of blocks_in
  part-verdict L r n e v = v ∙ rw (block-part, e)

pub field_room : (n f i room : ℕ) → f ≤ 2 → i < n → n ≤ most_n → blocks_of first_edition n * 512 ≤ room → i / 41 * 512 + 12 + i % 41 * 12 + f * 4 + 4 ≤ room
field_room n f i room g h l r =
    let e : blocks_of first_edition n ≡ (n + 40) / 41 = blocks_more first_edition n (λ z. omega arith) in
    omega arith

module _ (L : Layout) (bs : List ℕ) (f : ℕ) where
  pub length-column : (i k : ℕ) → length (column L bs f i k) ≡ k
  unfolding column
  length-column i zero = refl
  length-column i (suc k) = ap suc (length-column (suc i) k)

  pub column-next : (i k : ℕ) → column L bs f i (k + 1) ≡ column L bs f i k ++ (field L bs f (i + k) ∷ [])
  unfolding column
  column-next i zero = ap (λ (j : ℕ). field L bs f j ∷ []) (sym (add-zero i))
  column-next i (suc k) =
      let e : suc k + 1 ≡ suc (k + 1) = omega arith in
      let g : suc i + k ≡ i + suc k = omega arith in
      rw e (ap (λ (z : List ℕ). field L bs f i ∷ z) (column-next (suc i) k ∙ ap (λ (j : ℕ). column L bs f (suc i) k ++ (field L bs f j ∷ [])) g))

  pub column-at : (i k j : ℕ) → j < k → get_or (column L bs f i k) j 0 ≡ field L bs f (i + j)
  unfolding column
  column-at i zero j h = absurd (omega arith)
  column-at i (suc k) zero h = ap (field L bs f) (sym (add-zero i))
  column-at i (suc k) (suc j) h =
      let g : suc i + j ≡ i + suc j = omega arith in
      column-at (suc i) k j (omega arith) ∙ ap (field L bs f) g

  module _ (l₀ l : List ℕ) (i : ℕ) (e : l ≡ column L bs f 0 i ++ drop i l₀) where
    pub load-long : i ≤ length l₀ → length l ≡ length l₀
    load-long h =
        ap (λ (z : List ℕ). length z) e ∙ length-append (column L bs f 0 i) (drop i l₀)
        ∙ omega (arith, length-column 0 i, length-drop i l₀)

    pub load-next : i < length l₀ → (x : ℕ) → x ≡ field L bs f i → set l i x ≡ column L bs f 0 (i + 1) ++ drop (i + 1) l₀
    load-next h x v =
        rw (e, drop-cons l₀ i 0 h, set_at (column L bs f 0 i) (get_or l₀ i 0) (drop (suc i) l₀) x i (length-column 0 i), column-next 0 i, zero-add i, v, add-one i)
        (sym (append_assoc (column L bs f 0 i) (field L bs f i ∷ []) (drop (suc i) l₀)))

-- where no block is bad
pub record Passed (bs : List ℕ) (a : Answer) : Type 0 where
  pub n-is : a ≡ refused 0 (n_of bs)
  pub few : a.index ≤ most_n
  pub room : blocks_of first_edition a.index * block_bytes ≤ length bs

pub passed : (bs : List ℕ) (a : Answer) → bad_size first_edition bs ≡ false → a ≡ judged_blocks first_edition bs → a.number ≡ 0 → Passed bs a
unfolding blocks_in
passed bs a size judged right =
    let s = size-tested first_edition bs size in
    let e = judged-n first_edition bs a judged right in
    let i : a.index ≡ n_of bs = ap (λ (z : Answer). z.index) e in
    let r = right-block first_edition (n_of bs) (length bs / 512) 0 (block_at 0 bs) (judged-right first_edition bs (rw judged at right) 0 (omega arith)) in
    record { n-is = e; few = rw i r.fields.few; room = rw (i, r.fields.count) (omega arith) }
