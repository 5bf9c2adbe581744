-- THE ROUND TRIPS, of what is computed. specs/ReadThenWrite and proofs/WriteThenRead have the bytes and the columns.
--     done-rest, ..         what a done reading or writing shows
--     read-then-write, write-then-read, form-only   the promises of proofs/Promises, from what is computed
-- Assumes nothing.
use Rattle.std.specs.Prelude.{◌≡◌, Bool, true, false, List, ◌++◌, ℕ, suc, ◌*◌, ◌≤◌, ◌<◌, take}
use Rattle.std.proofs.Math.Path.{refl, sym}
use Rattle.std.proofs.Common.{ap, ◌∙◌, inl, inr, ⊎_elim, arith, take_at}
use Rattle.std.proofs.Math.Decide.{dec_lt, ℕ_discrete}
use Rattle.std.proofs.Math.ListN.{length, drop}
use Rattle.lists.specs.Telling.{tells-false}
use Rattle.words.specs.declared.Answer.{Answer}
use Rattle.words.specs.Answers.{refused}
use Rattle.sheets.specs.Bytes.{AreBytes, AreWords}
use Rattle.sheets.specs.Layout.{first_edition, block_bytes, most_n, blocks_of}
use Rattle.sheets.proofs.LayoutLaws.{blocks-some, blocks-least}
use Rattle.volumes.specs.Reading.{BadSize, bad_size, blocks_in, n_of, judged_blocks, column, Columns, columns, ShortColumn, refused_read, done_read, Reads, read_of}
use Rattle.volumes.specs.Writing.{book_of, Pages, pages, refused_write, done_write, Writes, write_of}
use Rattle.sheets.proofs.BlocksLaws.{judged-right, right-judged, size-tested, bad-size-tells}
use Rattle.sheets.proofs.Loading.{passed, length-column}
use Rattle.volumes.specs.ReadLaws.{read-size, read-block, read_short, read_done, reads_as}
use Rattle.volumes.proofs.WriteLaws.{length-book, write-starts, write-lengths, write-many, write-short, write_done, writes_as}
use Rattle.volumes.specs.ReadThenWrite.{book-back, count-is}
use Rattle.volumes.proofs.WriteThenRead.{n-there, book-passes, periods-back, lengths-back, starts-back}

-- a done reading: no check applied
module _ (bs Ts ps ss : List ℕ) where
  pub record DoneReading : Type 0 where
    pub size : bad_size first_edition bs ≡ false
    pub judged : (judged_blocks first_edition bs).number ≡ 0
    pub is : read_of first_edition bs Ts ps ss ≡ done_read first_edition bs Ts ps ss

  pub done-reading : (read_of first_edition bs Ts ps ss).answer.number ≡ 0 → DoneReading
  done-reading z = by_size (bad_size first_edition bs) refl
    where
      clash : (k : ℕ) (o : Columns) → o ≡ read_of first_edition bs Ts ps ss → o.answer.number ≡ suc k → ⊥
      clash k o e n = absurd (omega (arith, ap (λ (c : Columns). c.answer.number) e))

      by-short : (size : bad_size first_edition bs ≡ false) (zero_is : (judged_blocks first_edition bs).number ≡ 0) → Dec (ShortColumn first_edition bs Ts ps ss) → DoneReading
      by-short size j (yes w) = absurd (clash 23 (refused_read first_edition bs Ts ps ss 24 0) (read_short first_edition bs Ts ps ss size _ refl j w) refl)
      by-short size j (no d) = record { size = size; judged = j; is = sym (read_done first_edition bs Ts ps ss size _ refl j d) }

      three : (Dec (length Ts < n_of bs)) → Dec (length ps < n_of bs) → Dec (length ss < n_of bs) → Dec (ShortColumn first_edition bs Ts ps ss)
      three (yes a) b c = yes (inl a)
      three (no a) (yes b) c = yes (inr (inl b))
      three (no a) (no b) (yes c) = yes (inr (inr c))
      three (no a) (no b) (no c) = no (⊎_elim a (⊎_elim b c))

      by-judged : (size : bad_size first_edition bs ≡ false) → Dec ((judged_blocks first_edition bs).number ≡ 0) → DoneReading
      by-judged size (yes j) = by-short size j (three (dec_lt (length Ts) (n_of bs)) (dec_lt (length ps) (n_of bs)) (dec_lt (length ss) (n_of bs)))
      by-judged size (no d) = absurd (d (ap (λ (c : Columns). c.answer.number) (read-block first_edition bs Ts ps ss size _ refl d) ∙ z))

      by_size : (t : Bool) → bad_size first_edition bs ≡ t → DoneReading
      by_size true e = absurd (clash 19 (refused_read first_edition bs Ts ps ss 20 0) (read-size first_edition bs Ts ps ss e) refl)
      by_size false e = by-judged e (ℕ_discrete (judged_blocks first_edition bs).number 0)

-- reading then writing
module _ (bs : List ℕ) (are : AreBytes bs) (size : bad_size first_edition bs ≡ false) (judged : (judged_blocks first_edition bs).number ≡ 0) where
  written_back : (out : List ℕ) → length bs ≤ length out
      → Writes first_edition (column first_edition bs 0 0 (n_of bs)) (column first_edition bs 1 0 (n_of bs)) (column first_edition bs 2 0 (n_of bs)) out (pages (refused 0 (length bs)) (bs ++ drop (length bs) out))
  unfolding done_write blocks_in
  written_back out room =
      let s = size-tested first_edition bs size in
      let p = passed bs (judged_blocks first_edition bs) size refl judged in
      let right = judged-right first_edition bs judged in
      let long : (f : ℕ) → length (column first_edition bs f 0 (n_of bs)) ≡ n_of bs = λ f. length-column first_edition bs f 0 (n_of bs) in
      let same : blocks_of first_edition (length (column first_edition bs 0 0 (n_of bs))) * 512 ≡ length bs =
      rw (long 0, count-is bs are s.some s.whole right) (omega (arith, s.whole)) in
      let few : n_of bs ≤ most_n = rw (ap (λ (a : Answer). a.index) p.n-is) at p.few in
      let done : done_write first_edition (column first_edition bs 0 0 (n_of bs)) (column first_edition bs 1 0 (n_of bs)) (column first_edition bs 2 0 (n_of bs)) out
      ≡ pages (refused 0 (length bs)) (bs ++ drop (length bs) out) =
      rw (same, book-back bs are s.some s.whole right) in
      writes_as first_edition _ _ _ out _
      (sym done ∙ write_done first_edition _ _ _ out (long 0 ∙ sym (long 2)) (long 0 ∙ sym (long 1)) (omega (arith, long 0)) (omega arith))

pub read-then-write : (bs Ts ps ss out : List ℕ) → AreBytes bs → length bs ≤ length out → (o : Columns) → o ≡ read_of first_edition bs Ts ps ss → o.answer.number ≡ 0
    → Writes first_edition (take o.answer.index o.periods) (take o.answer.index o.lengths) (take o.answer.index o.starts) out
    (pages (refused 0 (length bs)) (bs ++ drop (length bs) out))
unfolding done_read
read-then-write bs Ts ps ss out are room o e z =
    let d = done-reading bs Ts ps ss (rw e at z) in
    let cut : (f : ℕ) (xs : List ℕ) → take (n_of bs) (column first_edition bs f 0 (n_of bs) ++ drop (n_of bs) xs) ≡ column first_edition bs f 0 (n_of bs) =
    λ f xs. take_at (column first_edition bs f 0 (n_of bs)) (drop (n_of bs) xs) (n_of bs) (length-column first_edition bs f 0 (n_of bs)) in
    rw (e, d.is) (rw (cut 0 Ts, cut 1 ps, cut 2 ss) (written_back bs are d.size d.judged out room))

-- writing then reading
module _ (Ts ps ss : List ℕ) (few : length Ts ≤ most_n) where
  right-size-book : BadSize first_edition (book_of first_edition Ts ps ss) → ⊥
  right-size-book = bad
    where
      k : ℕ
      k = blocks_of first_edition (length Ts)

      at_most : Dec (7 < blocks_of first_edition (length Ts)) → blocks_of first_edition (length Ts) ≤ 7
      at_most (yes h) = absurd (omega (arith, blocks-least first_edition (omega arith) (length Ts) 7 h))
      at_most (no h) = omega arith

      bad : BadSize first_edition (book_of first_edition Ts ps ss) → ⊥
      bad (inl e) = absurd (omega (arith, length-book Ts ps ss, blocks-some first_edition (omega arith) (length Ts)))
      bad (inr (inl d)) = d (omega (arith, length-book Ts ps ss))
      bad (inr (inr h)) = absurd (omega (arith, length-book Ts ps ss, at_most (dec_lt 7 (blocks_of first_edition (length Ts)))))

pub form-only : (Ts ps ss Us qs ts : List ℕ) → AreWords Ts → AreWords ps → AreWords ss → length Ts ≤ most_n → length Ts ≡ length ps → length Ts ≡ length ss
    → length Ts ≤ length Us → length Ts ≤ length qs → length Ts ≤ length ts
    → Reads first_edition (book_of first_edition Ts ps ss) Us qs ts (columns (refused 0 (length Ts)) (Ts ++ drop (length Ts) Us) (ps ++ drop (length Ts) qs) (ss ++ drop (length Ts) ts))
unfolding done_read
form-only Ts ps ss Us qs ts a b c few same same' f g h =
    let bs = book_of first_edition Ts ps ss in
    let n = n-there Ts ps ss few in
    let size : bad_size first_edition bs ≡ false = tells-false (bad_size first_edition bs) (bad-size-tells first_edition bs) (right-size-book Ts ps ss few) in
    let judged : (judged_blocks first_edition bs).number ≡ 0 = ap (λ (z : Answer). z.number) (right-judged first_edition bs (book-passes Ts ps ss few)) in
    let done : done_read first_edition bs Us qs ts ≡ columns (refused 0 (length Ts)) (Ts ++ drop (length Ts) Us) (ps ++ drop (length Ts) qs) (ss ++ drop (length Ts) ts) =
    rw (n, periods-back Ts ps ss few a, lengths-back Ts ps ss few b same, starts-back Ts ps ss few c same') in
    reads_as first_edition bs Us qs ts _
    (sym done ∙ read_done first_edition bs Us qs ts size _ refl judged (⊎_elim (λ w. omega arith) (⊎_elim (λ w. omega arith) (λ w. omega arith))))

-- a done writing: no check applied
module _ (Ts ps ss out : List ℕ) where
  pub record DoneWriting : Type 0 where
    pub starts-same : length Ts ≡ length ss
    pub lengths-same : length Ts ≡ length ps
    pub few : length Ts ≤ most_n
    pub room : blocks_of first_edition (length Ts) * block_bytes ≤ length out
    pub is : write_of first_edition Ts ps ss out ≡ done_write first_edition Ts ps ss out

  pub done-writing : (write_of first_edition Ts ps ss out).answer.number ≡ 0 → DoneWriting
  done-writing z = by-starts (ℕ_discrete (length Ts) (length ss))
    where
      clash : (k : ℕ) (o : Pages) → o ≡ write_of first_edition Ts ps ss out → o.answer.number ≡ suc k → ⊥
      clash k o e n = absurd (omega (arith, ap (λ (c : Pages). c.answer.number) e))

      by-room : length Ts ≡ length ss → length Ts ≡ length ps → length Ts ≤ most_n → Dec (length out < blocks_of first_edition (length Ts) * block_bytes) → DoneWriting
      by-room e f few (yes h) = absurd (clash 6 (refused_write first_edition Ts ps ss out 7 0) (write-short first_edition Ts ps ss out e f few h) refl)
      by-room e f few (no h) = record {
        starts-same = e;
        lengths-same = f;
        few = few;
        room = omega arith;
        is = sym (write_done first_edition Ts ps ss out e f few (omega arith));
      }

      by-few : length Ts ≡ length ss → length Ts ≡ length ps → Dec (most_n < length Ts) → DoneWriting
      by-few e f (yes h) = absurd (clash 1 (refused_write first_edition Ts ps ss out 2 0) (write-many first_edition Ts ps ss out e f h) refl)
      by-few e f (no h) = by-room e f (omega arith) (dec_lt (length out) (blocks_of first_edition (length Ts) * block_bytes))

      by_lengths : length Ts ≡ length ss → Dec (length Ts ≡ length ps) → DoneWriting
      by_lengths e (yes f) = by-few e f (dec_lt most_n (length Ts))
      by_lengths e (no d) = absurd (clash 0 (refused_write first_edition Ts ps ss out 1 0) (write-lengths first_edition Ts ps ss out e d) refl)

      by-starts : Dec (length Ts ≡ length ss) → DoneWriting
      by-starts (yes e) = by_lengths e (ℕ_discrete (length Ts) (length ps))
      by-starts (no d) = absurd (clash 0 (refused_write first_edition Ts ps ss out 1 0) (write-starts first_edition Ts ps ss out d) refl)

pub write-then-read : (Ts ps ss out Us qs ts : List ℕ) → AreWords Ts → AreWords ps → AreWords ss → length Ts ≤ length Us → length Ts ≤ length qs → length Ts ≤ length ts
    → (o : Pages) → o ≡ write_of first_edition Ts ps ss out → o.answer.number ≡ 0
    → Reads first_edition (take o.answer.index o.out) Us qs ts (columns (refused 0 (length Ts)) (Ts ++ drop (length Ts) Us) (ps ++ drop (length Ts) qs) (ss ++ drop (length Ts) ts))
unfolding done_write
write-then-read Ts ps ss out Us qs ts a b c f g h o e z =
    let d = done-writing Ts ps ss out (rw e at z) in
    let size : ℕ = blocks_of first_edition (length Ts) * block_bytes in
    rw (e, d.is)
    (rw (take_at (book_of first_edition Ts ps ss) (drop size out) size (length-book Ts ps ss))
    (form-only Ts ps ss Us qs ts a b c d.few d.lengths-same d.starts-same f g h))
