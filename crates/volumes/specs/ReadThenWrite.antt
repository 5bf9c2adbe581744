-- READING THEN WRITING. Document 01, "The book": "Reading then writing gives the same bytes, for every book that is read".
--     block_back            a right block is the block that is written from its records
--     book-back             a book that is read is the book that is written from its columns
-- Assumes nothing.
use Rattle.std.specs.Prelude.{◌≡◌, refl, Bool, true, false, ℕ, ◌+◌, ◌-◌, ◌*◌, ◌/◌, ◌%◌, ◌≤◌, ◌<◌, get_or, drop, replicate}
use Rattle.std.proofs.Math.Path.{sym, ap}
use Rattle.std.proofs.Common.{◌∙◌, inl, inr, take_all}
use mathlib.Core.List.{List}
use Rattle.std.proofs.Math.Nat.{zero-add}
use native.Mathlib.Omega.{arith}
use Rattle.std.proofs.Math.ListN.{length, take, take-append-drop, length-drop}
use Rattle.std.proofs.Math.Seq.{take-take, drop-drop, length-take-le}
use Rattle.sheets.specs.Bytes.{AreBytes, bytes, word, byte_sum, place_sum, AllZero, all_zero}
use Rattle.sheets.specs.Layout.{first_edition, block_bytes, blocks_of, records_of}
use Rattle.sheets.specs.Runs.{run_from, run_of}
use Rattle.sheets.specs.ByteLaws.{all-zero-tells}
use Rattle.sheets.proofs.LayoutLaws.{records-most, records-end}
use Rattle.sheets.specs.Pieces.{join, part-of-take, bytes-part, bytes_word, word-part, zero-zeros}
use Rattle.sheets.specs.Block.{unused}
use Rattle.sheets.proofs.BlockLaws.{same_number}
use Rattle.sheets.specs.Filling.{record_of, record_at, head_of, body_of, sums_of, block_of}
use Rattle.sheets.proofs.FillingLaws.{length-record, length-block}
use Rattle.volumes.specs.Reading.{block_at, blocks_in, n_of, field, column}
use Rattle.sheets.specs.BlocksLaws.{verdict_at, RightBlock}
use Rattle.sheets.proofs.BlocksLaws.{right-block}
use Rattle.sheets.proofs.Loading.{block-long, length-column, column-at}
use Rattle.volumes.specs.Writing.{book_of}

-- bytes that are not other than zero are zero
all-zero : (l : List ℕ) → ((AllZero l → ⊥) → ⊥) → AllZero l
all-zero l n = by (all_zero l) refl
  where
    by : (t : Bool) → all_zero l ≡ t → AllZero l
    by true e = (all-zero-tells l).yes e
    by false e = absurd (n ((all-zero-tells l).no e))

-- one block
module _ (B : List ℕ) (are : AreBytes B) (long : length B ≡ block_bytes) (n k b : ℕ) (right : RightBlock first_edition n k b B) where
  used : ℕ
  used = records_of first_edition n b

  most : records_of first_edition n b ≤ 41
  most = records-most first_edition (omega arith) n b

  word_back : (m at x : ℕ) → at + m ≤ 512 → word m at B ≡ x → bytes m x ≡ take m (drop at B)
  word_back m at x h e = ap (bytes m) (sym e) ∙ bytes_word m at B are (omega arith)

  head-back : head_of first_edition n b ≡ take 12 B
  unfolding head_of
  head-back =
      rw (
        word_back 2 0 b (omega arith) right.fields.number,
        word_back 2 2 (blocks_of first_edition n) (omega arith) (right.fields.blocks ∙ sym right.fields.count),
        word_back 2 4 (records_of first_edition n b) (omega arith) right.fields.records,
        word_back 2 6 n (omega arith) right.fields.probes,
        word_back 4 8 0 (omega arith) right.fields.zeros,
        join 6 2 4 B,
        join 4 2 6 B,
        join 2 2 8 B,
      )
      (join 0 2 10 B)

  zeros-back : replicate ((41 - used) * 12) 0 ≡ drop (12 + used * 12) (take 504 B)
  unfolding used unused
  zeros-back =
      let m = most in
      let z = all-zero (unused first_edition n b B) right.zeros in
      let cut = length-take-le 504 B (omega arith) in
      let l : length (drop (12 + used * 12) (take 504 B)) ≡ (41 - used) * 12 = length-drop (12 + used * 12) (take 504 B) ∙ omega arith in
      rw l at (zero-zeros (unused first_edition n b B) z)

  sums-back : sums_of (take 504 B) ≡ drop 504 B
  unfolding sums_of
  sums-back =
      let first = same_number _ _ (λ d. right.sums (inl d)) in
      let second = same_number _ _ (λ d. right.sums (inr d)) in
      rw (word_back 4 504 (byte_sum (take 504 B)) (omega arith) first, word_back 4 508 (place_sum 0 (take 504 B)) (omega arith) second, join 504 4 4 B)
      (take_all 8 (drop 504 B) (rw (length-drop 504 B) (omega arith)))

  module _ (Ts ps ss : List ℕ) (n-is : length Ts ≡ n) (same : (j : ℕ) → j < records_of first_edition n b → take 12 (drop (12 + j * 12) B) ≡ record_at Ts ps ss (b * 41 + j)) where
    records-back : run_from (record_at Ts ps ss) (b * 41) used ≡ take (used * 12) (drop 12 B)
    unfolding used
    records-back =
        run_of (record_at Ts ps ss) 12 (length-record Ts ps ss) (b * 41) used (take (used * 12) (drop 12 B))
        (length-take-le (used * 12) (drop 12 B) (rw (length-drop 12 B) (omega (arith, most))))
        (λ j h. part-of-take (j * 12) 12 (used * 12) (drop 12 B) (omega arith) ∙ ap (λ (z : List ℕ). take 12 z) (drop-drop (j * 12) 12 B) ∙ same j h)

    body_back : body_of first_edition Ts ps ss b ≡ take 504 B
    unfolding body_of used
    body_back =
        rw (n-is, head-back, records-back, zeros-back, ← take-take 12 504 B (omega arith), ← part-of-take 12 (used * 12) 504 B (omega (arith, most)), ← drop-drop (used * 12) 12 (take 504 B), take-append-drop (used * 12) (drop 12 (take 504 B)))
        (take-append-drop 12 (take 504 B))

    pub block_back : block_of first_edition Ts ps ss b ≡ B
    unfolding block_of
    block_back = rw (body_back, sums-back) (take-append-drop 504 B)

-- the whole book
module _ (bs : List ℕ) (are : AreBytes bs) (some : 0 < length bs) (whole : length bs % block_bytes ≡ 0)
    (rights : (b : ℕ) → b < blocks_in bs → verdict_at first_edition bs b ≡ 0) where
  right-at : (b : ℕ) → b < blocks_in bs → RightBlock first_edition (n_of bs) (blocks_in bs) b (block_at b bs)
  right-at b h = right-block first_edition (n_of bs) (blocks_in bs) b (block_at b bs) (rights b h)

  pub count-is : blocks_of first_edition (n_of bs) ≡ blocks_in bs
  unfolding blocks_in
  count-is = (right-at 0 (omega arith)).fields.count

  block-are : (b : ℕ) → b < blocks_in bs → AreBytes (block_at b bs)
  unfolding block_at blocks_in
  block-are b h = bytes-part (b * 512) 512 bs are (omega arith)

  field-word : (f b j : ℕ) → f ≤ 2 → j < 41 → field first_edition bs f (b * 41 + j) ≡ word 4 (12 + j * 12 + f * 4) (block_at b bs)
  unfolding field block_at
  field-word f b j g h =
      let d : (b * 41 + j) / 41 ≡ b = omega arith in
      let m : (b * 41 + j) % 41 ≡ j = omega arith in
      let e : b * 512 + 12 + j * 12 + f * 4 ≡ b * 512 + (12 + j * 12 + f * 4) = omega arith in
      rw (d, m, e) (sym (word-part 4 (b * 512) (12 + j * 12 + f * 4) 512 bs (omega arith)))

  column_of : ℕ → List ℕ
  column_of f = column first_edition bs f 0 (n_of bs)

  entry-back : (f b j : ℕ) → f ≤ 2 → b < blocks_in bs → j < 41 → b * 41 + j < n_of bs → bytes 4 (get_or (column_of f) (b * 41 + j) 0) ≡ take 4 (drop (12 + j * 12 + f * 4) (block_at b bs))
  unfolding column_of
  entry-back f b j g h l m =
      rw (column-at first_edition bs f 0 (n_of bs) (b * 41 + j) m, zero-add (b * 41 + j), field-word f b j g l)
      (bytes_word 4 (12 + j * 12 + f * 4) (block_at b bs) (block-are b h) (omega (arith, block-long bs b h)))

  record-back : (b j : ℕ) → b < blocks_in bs → j < records_of first_edition (n_of bs) b
      → take 12 (drop (12 + j * 12) (block_at b bs)) ≡ record_at (column_of 0) (column_of 1) (column_of 2) (b * 41 + j)
  unfolding record_at record_of
  record-back b j h l =
      let most = records-most first_edition (omega arith) (n_of bs) b in
      let end = records-end first_edition (omega arith) (n_of bs) b (omega (arith, count-is)) in
      let e₀ : 12 + j * 12 + 0 * 4 ≡ 12 + j * 12 = omega arith in
      let e₁ : 12 + j * 12 + 1 * 4 ≡ 12 + j * 12 + 4 = omega arith in
      let e₂ : 12 + j * 12 + 2 * 4 ≡ 12 + j * 12 + 4 + 4 = omega arith in
      sym (rw (entry-back 0 b j (omega arith) h (omega arith) (omega arith), entry-back 1 b j (omega arith) h (omega arith) (omega arith), entry-back 2 b j (omega arith) h (omega arith) (omega arith), e₀, e₁, e₂, join (12 + j * 12 + 4) 4 4 (block_at b bs))
      (join (12 + j * 12) 4 8 (block_at b bs)))

  pub book-back : book_of first_edition (column first_edition bs 0 0 (n_of bs)) (column first_edition bs 1 0 (n_of bs)) (column first_edition bs 2 0 (n_of bs)) ≡ bs
  unfolding book_of column_of block_at blocks_in
  book-back =
      let long = length-column first_edition bs 0 0 (n_of bs) in
      rw (long, count-is)
      (run_of (block_of first_edition (column_of 0) (column_of 1) (column_of 2)) 512 (length-block (column_of 0) (column_of 1) (column_of 2)) 0 (blocks_in bs) bs size
      (λ b h. rw (zero-add b) (sym (block_back (block_at b bs) (block-are b h) (block-long bs b h) (n_of bs) (blocks_in bs) b (right-at b h) (column_of 0) (column_of 1) (column_of 2) long (λ j l. record-back b j h l)))))
    where
      size : length bs ≡ blocks_in bs * 512
      size = omega arith
