-- LAWS OF READING: the ways out of `read`, and that what is computed meets the promise.
--     read-size, ..         the ways out
--     read_meets            read_of meets Reads
--     done-is               three columns filled are what a done reading leaves
-- Assumes nothing.
use Rattle.std.specs.Prelude.{◌≡◌, refl, Bool, true, false, List, [], ◌∷◌, ◌++◌, ℕ, ltb, length, drop}
use Rattle.std.proofs.Math.Path.{sym, ap}
use Rattle.std.proofs.Common.{◌∙◌}
use Rattle.lists.specs.Pick.{either, Tells}
use Rattle.lists.specs.Telling.{tells-either, tells-lt, tells-true, tells-false}
use Rattle.lists.specs.Refusals.{whole}
use Rattle.lists.specs.Answering.{AllFind, tested, first_of, first-of, first-of-append, finds-whole, all-find-append}
use Rattle.words.specs.declared.Answer.{Answer}
use Rattle.words.specs.Answers.{refused}
use Rattle.sheets.specs.Layout.{Layout}
use Rattle.sheets.specs.BlocksLaws.{judged_from}
use Rattle.sheets.proofs.BlocksLaws.{from-passes, from-stops, bad-size-tells, blocks-find}
use Rattle.volumes.specs.Reading.{BadSize, bad_size, blocks_in, n_of, block_lines, block_findings, judged_blocks, column, Columns, columns, ShortColumn, read_lines, read_findings, refused_read, done_read, Reads, read_of}

-- the ways out
module _ (L : Layout) (bs Ts ps ss : List ℕ) where
  short : Bool
  short = either (ltb (length Ts) (n_of bs)) (either (ltb (length ps) (n_of bs)) (ltb (length ss) (n_of bs)))

  pub short-tells : Tells (either (ltb (length Ts) (n_of bs)) (either (ltb (length ps) (n_of bs)) (ltb (length ss) (n_of bs)))) (ShortColumn L bs Ts ps ss)
  short-tells = tells-either _ _ (tells-lt _ _) (tells-either _ _ (tells-lt _ _) (tells-lt _ _))

  pub read-size : bad_size L bs ≡ true → refused_read L bs Ts ps ss 20 0 ≡ read_of L bs Ts ps ss
  unfolding read_of read_findings first_of
  read-size e = rw e

  module _ (size : bad_size L bs ≡ false) (a : Answer) (judged : a ≡ judged_blocks L bs) where
    after : Columns
    after = first_of (tested 24 short ∷ []) (refused_read L bs Ts ps ss) (done_read L bs Ts ps ss)

    split : read_of L bs Ts ps ss ≡ first_of (block_findings L bs 0 (blocks_in bs)) (refused_read L bs Ts ps ss) after
    unfolding read_of read_findings first_of after short
    split = rw size (first-of-append (block_findings L bs 0 (blocks_in bs)) (tested 24 short ∷ []) (refused_read L bs Ts ps ss) (done_read L bs Ts ps ss))

    pub read-block : (a.number ≡ 0 → ⊥) → columns a Ts ps ss ≡ read_of L bs Ts ps ss
    unfolding judged_blocks judged_from
    read-block n =
        let d : (judged_blocks L bs).number ≡ 0 → ⊥ = rw judged at n in
        let own : a ≡ refused (judged_blocks L bs).number (judged_blocks L bs).index =
        judged ∙ from-stops L bs refused (refused 0 (n_of bs)) 0 (blocks_in bs) d in
        ap (λ (r : Answer). columns r Ts ps ss) own ∙ sym (split ∙ from-stops L bs (refused_read L bs Ts ps ss) after 0 (blocks_in bs) d)

    module _ (right : a.number ≡ 0) where
      passed : read_of L bs Ts ps ss ≡ after
      unfolding judged_blocks judged_from
      passed = split ∙ from-passes L bs (refused_read L bs Ts ps ss) after 0 (blocks_in bs) (rw judged at right)

      pub read_short : ShortColumn L bs Ts ps ss → refused_read L bs Ts ps ss 24 0 ≡ read_of L bs Ts ps ss
      unfolding after short first_of
      read_short w = sym (passed ∙ rw (tells-true short short-tells w))

      pub read_done : (ShortColumn L bs Ts ps ss → ⊥) → done_read L bs Ts ps ss ≡ read_of L bs Ts ps ss
      unfolding after short first_of
      read_done d = sym (passed ∙ rw (tells-false short short-tells d))

-- what is computed meets the promise
pub read-finds : (L : Layout) (bs Ts ps ss : List ℕ) → AllFind (read_lines L bs Ts ps ss) (read_findings L bs Ts ps ss)
unfolding read_findings AllFind
read-finds L bs Ts ps ss = (
  finds-whole 20 (BadSize L bs) (bad_size L bs) (bad-size-tells L bs),
  all-find-append (block_lines L bs 0 (blocks_in bs)) (whole 24 (ShortColumn L bs Ts ps ss) ∷ []) (block_findings L bs 0 (blocks_in bs)) _
      (blocks-find L bs 0 (blocks_in bs)) (finds-whole 24 (ShortColumn L bs Ts ps ss) _ (short-tells L bs Ts ps ss), tt),
)

pub read_meets : (L : Layout) (bs Ts ps ss : List ℕ) → Reads L bs Ts ps ss (read_of L bs Ts ps ss)
unfolding Reads read_of
read_meets L bs Ts ps ss =
    first-of (read_lines L bs Ts ps ss) (read_findings L bs Ts ps ss) (refused_read L bs Ts ps ss) (λ r. r ≡ done_read L bs Ts ps ss) (done_read L bs Ts ps ss)
    (read-finds L bs Ts ps ss) (λ s. refl)

pub reads_as : (L : Layout) (bs Ts ps ss : List ℕ) (o : Columns) → o ≡ read_of L bs Ts ps ss → Reads L bs Ts ps ss o
reads_as L bs Ts ps ss o e = rw e (read_meets L bs Ts ps ss)

pub done-is : (L : Layout) (bs Ts ps ss Ts₁ ps₁ ss₁ : List ℕ) (a : Answer) → a ≡ refused 0 (n_of bs)
    → Ts₁ ≡ column L bs 0 0 a.index ++ drop a.index Ts → ps₁ ≡ column L bs 1 0 a.index ++ drop a.index ps → ss₁ ≡ column L bs 2 0 a.index ++ drop a.index ss
    → columns a Ts₁ ps₁ ss₁ ≡ done_read L bs Ts ps ss
unfolding done_read
done-is L bs Ts ps ss Ts₁ ps₁ ss₁ a e f g h = rw (f, g, h, e)
