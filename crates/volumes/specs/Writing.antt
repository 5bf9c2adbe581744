-- WRITING A BOOK. Document 01, "The book": "Writing refuses by 1, 2, 7 .. a done writing [has] the number of bytes written [as its index]. Refused calls write nothing .. Bytes and
-- entries past the result stay."
--     book_of L Ts ps ss     the book: its blocks one after another
--     Pages                 an answer, and the lent bytes afterwards
--     Writes L Ts ps ss out o    the promise of `write`
--     write_of L Ts ps ss out     the same, computed
-- Assumes nothing.
use Rattle.std.specs.Prelude.{◌≡◌, ◌⊎◌, ◌≢◌, not, List, [], ◌∷◌, ◌++◌, ℕ, ◌*◌, ◌<◌, ltb, eqb, length, drop}
use Rattle.lists.specs.Pick.{either}
use Rattle.lists.specs.Refusals.{Line, whole, First}
use Rattle.lists.specs.Answering.{Found, tested, first_of}
use Rattle.words.specs.declared.Answer.{Answer}
use Rattle.words.specs.Answers.{refused}
use Rattle.sheets.specs.Layout.{Layout, block_bytes, most_n, blocks_of}
use Rattle.sheets.specs.Runs.{run_from}
use Rattle.sheets.specs.Filling.{block_of}

unfoldable pub book_of : Layout → List ℕ → List ℕ → List ℕ → List ℕ
book_of L Ts ps ss = run_from (block_of L Ts ps ss) 0 (blocks_of L (length Ts))

pub record Pages : Type 0 where
  pub answer : Answer
  pub out : List ℕ

abbrev pub pages : Answer → List ℕ → Pages
pages a out = record { answer = a; out = out }

module _ (L : Layout) (Ts ps ss out : List ℕ) where
  abbrev pub write_lines : List Line
  write_lines =
      whole 1 ((length Ts ≢ length ss) ⊎ (length Ts ≢ length ps))
      ∷ whole 2 (most_n < length Ts)
      ∷ whole 7 (length out < blocks_of L (length Ts) * block_bytes)
      ∷ []

  unfoldable pub write_findings : List Found
  write_findings =
      tested 1 (either (not (eqb (length Ts) (length ss))) (not (eqb (length Ts) (length ps))))
      ∷ tested 2 (ltb most_n (length Ts))
      ∷ tested 7 (ltb (length out) (blocks_of L (length Ts) * block_bytes))
      ∷ []

  abbrev pub refused_write : ℕ → ℕ → Pages
  refused_write k i = pages (refused k i) out

  unfoldable pub done_write : Pages
  done_write = pages (refused 0 (blocks_of L (length Ts) * block_bytes)) (book_of L Ts ps ss ++ drop (blocks_of L (length Ts) * block_bytes) out)

  unfoldable pub Writes : Pages → Type 0
  Writes o = First write_lines refused_write (λ r. r ≡ done_write) o

  unfoldable pub write_of : Pages
  write_of = first_of write_findings refused_write done_write
