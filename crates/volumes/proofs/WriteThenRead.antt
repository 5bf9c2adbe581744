-- WRITING THEN READING. Document 01, "The book": "writing then reading gives the same columns"; "any 32-bit values may stand in records".
--     written-right         a block that is written is right
--     book-passes           a book that is written passes every check
--     column-back           its columns are those that were written
-- Assumes nothing.
use Rattle.std.specs.Prelude.{◌≡◌, ℕ, ◌+◌, ◌-◌, ◌*◌, ◌/◌, ◌%◌, ◌≤◌, ◌<◌, get_or, take}
use Rattle.std.proofs.Math.Path.{refl, sym, ap}
use Rattle.std.proofs.Common.{◌∙◌, inl, inr, zero-add, ext_get_or}
use mathlib.Core.List.{List, ◌++◌}
use Rattle.std.proofs.Math.Nat.{div-add-mod'}
use Rattle.std.proofs.Math.Decide.{dec_lt}
use native.Mathlib.Omega.{arith}
use Rattle.std.proofs.Math.ListN.{length, drop, replicate}
use Rattle.std.proofs.Math.Seq.{drop-drop, take_at, drop_at}
use Rattle.sheets.specs.Bytes.{AreBytes, AreWords, bytes, word, byte_sum, place_sum}
use Rattle.sheets.specs.Layout.{first_edition, most_n, blocks_of, records_of}
use Rattle.sheets.specs.Runs.{run_from, length_run, run-piece}
use Rattle.sheets.specs.ByteLaws.{value-bytes, byte-sum-most, place-sum-most}
use Rattle.sheets.proofs.LayoutLaws.{blocks-few, blocks-room, records-most, records-full, records-rest}
use Rattle.sheets.specs.Pieces.{part-of-take, part-of-left, word-part, bytes-are, append-are, run-are, zeros-are, zeros-zero}
use Rattle.sheets.specs.Block.{WrongSum, unused}
use Rattle.sheets.specs.Filling.{record_of, record_at, head_of, body_of, sums_of, block_of}
use Rattle.sheets.proofs.FillingLaws.{length-record, length-head, length-body, length-block}
use Rattle.volumes.specs.Reading.{block_at, blocks_in, n_of, field, column}
use Rattle.sheets.specs.BlocksLaws.{verdict_at, RightBlock}
use Rattle.sheets.proofs.BlocksLaws.{block-right}
use Rattle.sheets.proofs.Loading.{length-column, column-at}
use Rattle.volumes.specs.Writing.{book_of}
use Rattle.volumes.proofs.WriteLaws.{length-book}

module _ (Ts ps ss : List ℕ) (few : length Ts ≤ most_n) where
  body : ℕ → List ℕ
  body b = body_of first_edition Ts ps ss b

  block : ℕ → List ℕ
  block b = block_of first_edition Ts ps ss b

  used : ℕ → ℕ
  used b = records_of first_edition (length Ts) b

  records : ℕ → List ℕ
  records b = run_from (record_at Ts ps ss) (b * 41) (used b)

  record-are : (i : ℕ) → AreBytes (record_at Ts ps ss i)
  unfolding record_at record_of
  record-are i =
      append-are (bytes 4 (get_or Ts i 0)) (bytes 4 (get_or ps i 0) ++ bytes 4 (get_or ss i 0)) (bytes-are 4 (get_or Ts i 0))
      (append-are (bytes 4 (get_or ps i 0)) (bytes 4 (get_or ss i 0)) (bytes-are 4 (get_or ps i 0)) (bytes-are 4 (get_or ss i 0)))

  head-are : (n b : ℕ) → AreBytes (head_of first_edition n b)
  unfolding head_of
  head-are n b =
      append-are (bytes 2 b) _ (bytes-are 2 b)
      (append-are (bytes 2 (blocks_of first_edition n)) _ (bytes-are 2 (blocks_of first_edition n))
      (append-are (bytes 2 (records_of first_edition n b)) _ (bytes-are 2 (records_of first_edition n b))
      (append-are (bytes 2 n) (bytes 4 0) (bytes-are 2 n) (bytes-are 4 0))))

  body-are : (b : ℕ) → AreBytes (body b)
  unfolding body body_of
  body-are b =
      append-are (head_of first_edition (length Ts) b) _ (head-are (length Ts) b)
      (append-are (run_from (record_at Ts ps ss) (b * 41) (records_of first_edition (length Ts) b)) _
      (run-are (record_at Ts ps ss) record-are (b * 41) (records_of first_edition (length Ts) b)) (zeros-are ((41 - records_of first_edition (length Ts) b) * 12)))

  body-there : (b : ℕ) → take 504 (block b) ≡ body b
  unfolding block block_of body
  body-there b = take_at (body b) (sums_of (body b)) 504 (length-body Ts ps ss b)

  sums-there : (b : ℕ) → drop 504 (block b) ≡ sums_of (body b)
  unfolding block block_of body
  sums-there b = drop_at (body b) (sums_of (body b)) 504 (length-body Ts ps ss b)

  first-sum : (b : ℕ) → word 4 504 (block b) ≡ byte_sum (take 504 (block b))
  unfolding word sums_of bytes body
  first-sum b =
      let most = byte-sum-most (body b) (body-are b) in
      let long = length-body Ts ps ss b in
      rw (sums-there b, body-there b) (value-bytes 4 (byte_sum (body b)) (omega arith))

  second-sum : (b : ℕ) → word 4 508 (block b) ≡ place_sum 0 (take 504 (block b))
  unfolding word sums_of bytes body
  second-sum b =
      let long = length-body Ts ps ss b in
      let most : place_sum 0 (body b) ≤ 255 * 504 * length (body b) = place-sum-most 504 0 (body b) (body-are b) (omega arith) in
      let e : drop 508 (block b) ≡ drop 4 (sums_of (body b)) = sym (drop-drop 4 504 (block b)) ∙ ap (λ (z : List ℕ). drop 4 z) (sums-there b) in
      rw (e, body-there b) (value-bytes 4 (place_sum 0 (body b)) (omega arith))

  -- what stands behind the head, and behind the used records
  records-long : (b : ℕ) → length (records b) ≡ used b * 12
  unfolding records
  records-long b = length_run (record_at Ts ps ss) 12 (length-record Ts ps ss) (b * 41) (used b)

  behind-head : (b : ℕ) → drop 12 (body b) ≡ records b ++ replicate ((41 - used b) * 12) 0
  unfolding body body_of records used
  behind-head b = drop_at (head_of first_edition (length Ts) b) (records b ++ replicate ((41 - used b) * 12) 0) 12 (length-head (length Ts) b)

  zeros-there : (b : ℕ) → unused first_edition (length Ts) b (block b) ≡ replicate ((41 - used b) * 12) 0
  unfolding unused used
  zeros-there b =
      rw (body-there b, ← drop-drop (used b * 12) 12 (body b), behind-head b)
      (drop_at (records b) (replicate ((41 - used b) * 12) 0) (used b * 12) (records-long b))

  pub written-right : (b : ℕ) → b < blocks_of first_edition (length Ts)
      → RightBlock first_edition (length Ts) (blocks_of first_edition (length Ts)) b (block_of first_edition Ts ps ss b)
  unfolding block block_of body_of head_of bytes word
  written-right b h =
      let blocks = blocks-few first_edition (omega arith) (length Ts) in
      let most = records-most first_edition (omega arith) (length Ts) b in
      record {
        sums = sums;
        fields = record {
          few = few;
          count = refl;
          number = value-bytes 2 b (omega arith);
          blocks = value-bytes 2 (blocks_of first_edition (length Ts)) (omega arith);
          records = value-bytes 2 (records_of first_edition (length Ts) b) (omega arith);
          probes = value-bytes 2 (length Ts) (omega arith);
          zeros = value-bytes 4 0 (omega arith);
        };
        zeros = λ u. u (rw (zeros-there b) (zeros-zero ((41 - used b) * 12)));
      }
    where
      sums : WrongSum (block b) → ⊥
      sums (inl d) = d (first-sum b)
      sums (inr d) = d (second-sum b)

  -- the whole book
  pub block-there : (b : ℕ) → b < blocks_of first_edition (length Ts) → block_at b (book_of first_edition Ts ps ss) ≡ block_of first_edition Ts ps ss b
  unfolding block_at book_of
  block-there b h = run-piece (block_of first_edition Ts ps ss) 512 (length-block Ts ps ss) 0 b (blocks_of first_edition (length Ts)) h ∙ ap (block_of first_edition Ts ps ss) (zero-add b)

  pub blocks-there : blocks_in (book_of first_edition Ts ps ss) ≡ blocks_of first_edition (length Ts)
  unfolding blocks_in
  blocks-there = omega (arith, length-book Ts ps ss)

  pub n-there : n_of (book_of first_edition Ts ps ss) ≡ length Ts
  unfolding n_of block_at
  n-there =
      let some = Rattle.sheets.proofs.LayoutLaws.blocks-some first_edition (omega arith) (length Ts) in
      sym (word-part 2 (0 * 512) 6 512 (book_of first_edition Ts ps ss) (omega arith)) ∙ ap (word 2 6) (block-there 0 some) ∙ (written-right 0 some).fields.probes

  pub book-passes : (b : ℕ) → b < blocks_in (book_of first_edition Ts ps ss) → verdict_at first_edition (book_of first_edition Ts ps ss) b ≡ 0
  book-passes b h =
      let l : b < blocks_of first_edition (length Ts) = omega (arith, blocks-there) in
      rw (n-there, blocks-there, block-there b l) (block-right first_edition (length Ts) (blocks_of first_edition (length Ts)) b (block_of first_edition Ts ps ss b) (written-right b l))

  -- the bytes of record i
  record-there : (b j : ℕ) → j < records_of first_edition (length Ts) b → take 12 (drop (12 + j * 12) (block_of first_edition Ts ps ss b)) ≡ record_at Ts ps ss (b * 41 + j)
  unfolding block used records
  record-there b j h =
      let most = records-most first_edition (omega arith) (length Ts) b in
      sym (part-of-take (12 + j * 12) 12 504 (block b) (omega arith))
      ∙ rw (body-there b, ← drop-drop (j * 12) 12 (body b), behind-head b, part-of-left (j * 12) 12 (records b) (replicate ((41 - used b) * 12) 0) (omega (arith, records-long b)))
      (run-piece (record_at Ts ps ss) 12 (length-record Ts ps ss) (b * 41) j (used b) h)

  held : (i : ℕ) → i < length Ts → i % 41 < records_of first_edition (length Ts) (i / 41)
  held i h = by (dec_lt (i / 41 + 1) (blocks_of first_edition (length Ts)))
    where
      by : Dec (i / 41 + 1 < blocks_of first_edition (length Ts)) → i % 41 < records_of first_edition (length Ts) (i / 41)
      by (yes l) = omega (arith, records-full first_edition (length Ts) (i / 41) l)
      by (no l) = omega (arith, records-rest first_edition (length Ts) (i / 41) (omega arith))

  within : (i : ℕ) → i < length Ts → i / 41 < blocks_of first_edition (length Ts)
  within i h = omega (arith, blocks-room first_edition (omega arith) (length Ts))

  field-there : (f i : ℕ) → f ≤ 2 → i < length Ts → field first_edition (book_of first_edition Ts ps ss) f i ≡ word 4 (f * 4) (record_at Ts ps ss i)
  unfolding field block_at
  field-there f i g h =
      let e : i / 41 * 512 + 12 + i % 41 * 12 + f * 4 ≡ i / 41 * 512 + (12 + i % 41 * 12 + f * 4) = omega arith in
      let i-is : i / 41 * 41 + i % 41 ≡ i = div-add-mod' i 41 in
      ap (λ (at : ℕ). word 4 at (book_of first_edition Ts ps ss)) e
      ∙ sym (word-part 4 (i / 41 * 512) (12 + i % 41 * 12 + f * 4) 512 (book_of first_edition Ts ps ss) (omega arith))
      ∙ ap (word 4 (12 + i % 41 * 12 + f * 4)) (block-there (i / 41) (within i h))
      ∙ sym (word-part 4 (12 + i % 41 * 12) (f * 4) 12 (block_of first_edition Ts ps ss (i / 41)) (omega arith))
      ∙ ap (word 4 (f * 4)) (record-there (i / 41) (i % 41) (held i h) ∙ ap (record_at Ts ps ss) i-is)

  column-is : (f : ℕ) (xs : List ℕ) → f ≤ 2 → length Ts ≡ length xs → ((i : ℕ) → i < length Ts → word 4 (f * 4) (record_at Ts ps ss i) ≡ get_or xs i 0)
      → column first_edition (book_of first_edition Ts ps ss) f 0 (length Ts) ≡ xs
  column-is f xs g same each =
      let long = length-column first_edition (book_of first_edition Ts ps ss) f 0 (length Ts) in
      ext_get_or 0 (column first_edition (book_of first_edition Ts ps ss) f 0 (length Ts)) xs (long ∙ same)
      (λ i h.
      let l : i < length Ts = omega arith in
      column-at first_edition (book_of first_edition Ts ps ss) f 0 (length Ts) i l ∙ rw (zero-add i) (field-there f i g l ∙ each i l))

  pub periods-back : AreWords Ts → column first_edition (book_of first_edition Ts ps ss) 0 0 (length Ts) ≡ Ts
  unfolding word record_at record_of bytes
  periods-back small = column-is 0 Ts (omega arith) refl (λ i h. value-bytes 4 (get_or Ts i 0) (small i))

  pub lengths-back : AreWords ps → length Ts ≡ length ps → column first_edition (book_of first_edition Ts ps ss) 1 0 (length Ts) ≡ ps
  unfolding word record_at record_of bytes
  lengths-back small same = column-is 1 ps (omega arith) same (λ i h. value-bytes 4 (get_or ps i 0) (small i))

  pub starts-back : AreWords ss → length Ts ≡ length ss → column first_edition (book_of first_edition Ts ps ss) 2 0 (length Ts) ≡ ss
  unfolding word record_at record_of bytes
  starts-back small same = column-is 2 ss (omega arith) same (λ i h. value-bytes 4 (get_or ss i 0) (small i))
