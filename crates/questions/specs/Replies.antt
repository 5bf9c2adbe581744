-- WHAT A BOOK ANSWERS. Document 01, "Numbers the master shows": an export "judges the book by the reading rules, then the list by the order above".
--     book_lines bs              the lines of reading: 20, then per block ascending 21, 22, 23
--     periods_in, lengths_in, starts_in bs    the columns that stand in the book's records
--     Replies q Ts ps ss a      a is what the library's call that q asks for promises of these columns
--     Answers q bs a            a is the refusal of the first of the book's lines that applies; where none does, Replies holds of the book's columns   (believe this)
--     read_in bs                 the book read into three columns of 256 entries
--     reply_of q bs              the same, computed
-- Edges: 24 is no line here, since no column is lent that could be too short.
-- Assumes nothing.
use Rattle.std.specs.Prelude.{List, ◌∷◌, ℕ, eqb, replicate}
use Rattle.lists.specs.Pick.{pick}
use Rattle.lists.specs.Refusals.{Line, whole, First}
use Rattle.words.specs.declared.Answer.{Answer}
use Rattle.words.specs.Answers.{refused}
use Rattle.sheets.specs.Layout.{first_edition, most_n}
use Rattle.volumes.specs.Reading.{BadSize, blocks_in, n_of, block_lines, column, Columns, read_of}
use Rattle.meetings.specs.Check.{Checks, checked}
use Rattle.hours.specs.Timetable.{Holder, holder_answer, NextFrom, next_answer}
use Rattle.questions.specs.declared.Question.{Question}
use Rattle.questions.specs.declared.Question.TheVariants.{IsClean, HolderAt, StartFrom}

abbrev pub book_lines : List ℕ → List Line
book_lines bs = whole 20 (BadSize first_edition bs) ∷ block_lines first_edition bs 0 (blocks_in bs)

abbrev pub periods_in : List ℕ → List ℕ
periods_in bs = column first_edition bs 0 0 (n_of bs)

abbrev pub lengths_in : List ℕ → List ℕ
lengths_in bs = column first_edition bs 1 0 (n_of bs)

abbrev pub starts_in : List ℕ → List ℕ
starts_in bs = column first_edition bs 2 0 (n_of bs)

unfoldable pub Replies : Question → List ℕ → List ℕ → List ℕ → Answer → Type 0
Replies IsClean Ts ps ss a = Checks Ts ps ss a
Replies (HolderAt t) Ts ps ss a = Holder Ts ps ss t a
Replies (StartFrom t) Ts ps ss a = NextFrom Ts ps ss t a

unfoldable pub Answers : Question → List ℕ → Answer → Type 0
Answers q bs a = First (book_lines bs) refused (Replies q (periods_in bs) (lengths_in bs) (starts_in bs)) a

unfoldable pub replies_of : Question → List ℕ → List ℕ → List ℕ → Answer
replies_of IsClean Ts ps ss = checked Ts ps ss
replies_of (HolderAt t) Ts ps ss = holder_answer Ts ps ss t
replies_of (StartFrom t) Ts ps ss = next_answer Ts ps ss t

unfoldable pub read_in : List ℕ → Columns
read_in bs = read_of first_edition bs (replicate most_n 0) (replicate most_n 0) (replicate most_n 0)

unfoldable pub reply_of : Question → List ℕ → Answer
reply_of q bs = pick (eqb (read_in bs).answer.number 0) (replies_of q (periods_in bs) (lengths_in bs) (starts_in bs)) (read_in bs).answer
