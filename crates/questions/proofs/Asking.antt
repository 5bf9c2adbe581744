-- A BOOK READ INTO THREE COLUMNS OF 256 ZEROS, and what a caller does next: it answers the refusal, or goes on with the first n entries.
--     opened-few                n is at most 256
--     answers-refused           the reading's refusal is the book's answer
--     answers-opened            the library's answer on the first n entries is the book's answer
--     reply-meets               reply_of is an answer
--     answers-unique            and the only one
-- Assumes nothing.
use Rattle.std.specs.Prelude.{◌≡◌, refl, List, ℕ, ◌≤◌, length, take, replicate}
use Rattle.std.proofs.Common.{ap, arith, eq-eqb, ne_eqb}
use Rattle.std.proofs.Math.Decide.{ℕ_discrete}
use Rattle.std.proofs.lemmas.List.{length-replicate}
use Rattle.lists.specs.Refusals.{First, Silents, first-unique, rest-first}
use Rattle.words.specs.declared.Answer.{Answer}
use Rattle.words.specs.Answers.{refused}
use Rattle.sheets.specs.Layout.{first_edition, most_n}
use Rattle.volumes.specs.Reading.{n_of, Columns, columns, Reads}
use Rattle.volumes.specs.ReadLaws.{read_meets}
use Rattle.meetings.proofs.Laws.{checked-meets}
use Rattle.meetings.proofs.Promises.{check-unique}
use Rattle.hours.proofs.HolderLaws.{holder-meets}
use Rattle.hours.proofs.NextLaws.{next-meets}
use Rattle.hours.proofs.Promises.{holder-unique, next-start-unique}
use Rattle.questions.specs.declared.Question.{Question}
use Rattle.questions.specs.declared.Question.TheVariants.{IsClean, HolderAt, StartFrom}
use Rattle.questions.specs.Replies.{book_lines, periods_in, lengths_in, starts_in, Replies, Answers, replies_of, read_in, reply_of}
use Rattle.questions.specs.Opening.{Opened, reads-refused, reads-opened}

zeros : List ℕ
zeros = replicate most_n 0

zeros-long : most_n ≤ length zeros
unfolding zeros
zeros-long = omega (arith, length-replicate {A = ℕ} most_n 0)

module _ (bs : List ℕ) (a : Answer) (Ts ps ss : List ℕ) (r : Reads first_edition bs (replicate most_n 0) (replicate most_n 0) (replicate most_n 0) (columns a Ts ps ss)) where
  opened : a.number ≡ 0 → Silents (book_lines bs) × Opened bs (columns a Ts ps ss)
  unfolding zeros
  opened = reads-opened bs zeros zeros zeros zeros-long zeros-long zeros-long (columns a Ts ps ss) r

  pub opened-n : a.number ≡ 0 → a.index ≡ n_of bs
  opened-n z = ap (λ (x : Answer). x.index) (opened z).1.answer

  pub opened-few : a.number ≡ 0 → a.index ≤ most_n
  opened-few z = rw (opened-n z) (opened z).1.few

  pub opened-silent : a.number ≡ 0 → Silents (book_lines bs)
  opened-silent z = (opened z).0

  pub opened-periods : a.number ≡ 0 → take a.index Ts ≡ periods_in bs
  opened-periods z = rw (opened-n z) (opened z).1.periods

  pub opened-lengths : a.number ≡ 0 → take a.index ps ≡ lengths_in bs
  opened-lengths z = rw (opened-n z) (opened z).1.lengths

  pub opened-starts : a.number ≡ 0 → take a.index ss ≡ starts_in bs
  opened-starts z = rw (opened-n z) (opened z).1.starts

  pub opened-refused : (Rest : Answer → Type 0) → (a.number ≡ 0 → ⊥) → First (book_lines bs) refused Rest a
  unfolding zeros
  opened-refused Rest d =
      reads-refused bs zeros zeros zeros zeros-long zeros-long zeros-long (columns a Ts ps ss) r (λ (c : Columns). c.answer) refused Rest (λ k i. refl) d

  module _ (q : Question) where
    pub answers-refused : (a.number ≡ 0 → ⊥) → Answers q bs a
    unfolding Answers
    answers-refused d = opened-refused (Replies q (periods_in bs) (lengths_in bs) (starts_in bs)) d

    pub answers-opened : a.number ≡ 0 → (b : Answer) → Replies q (take a.index Ts) (take a.index ps) (take a.index ss) b → Answers q bs b
    unfolding Answers
    answers-opened z b h =
        rest-first (book_lines bs) refused (Replies q (periods_in bs) (lengths_in bs) (starts_in bs)) b (opened-silent z)
        (rw (opened-periods z, opened-lengths z, opened-starts z) at h)

-- what is computed meets the promise
pub replies-meet : (q : Question) (Ts ps ss : List ℕ) → Replies q Ts ps ss (replies_of q Ts ps ss)
unfolding Replies replies_of
replies-meet IsClean Ts ps ss = checked-meets Ts ps ss
replies-meet (HolderAt t) Ts ps ss = holder-meets Ts ps ss t
replies-meet (StartFrom t) Ts ps ss = next-meets Ts ps ss t

pub replies-unique : (q : Question) (Ts ps ss : List ℕ) (a b : Answer) → Replies q Ts ps ss a → Replies q Ts ps ss b → a ≡ b
unfolding Replies
replies-unique IsClean Ts ps ss = check-unique Ts ps ss
replies-unique (HolderAt t) Ts ps ss = holder-unique Ts ps ss t
replies-unique (StartFrom t) Ts ps ss = next-start-unique Ts ps ss t

module _ (q : Question) (bs : List ℕ) where
  pub answers-unique : (a b : Answer) → Answers q bs a → Answers q bs b → a ≡ b
  unfolding Answers
  answers-unique =
      first-unique (book_lines bs) refused (Replies q (periods_in bs) (lengths_in bs) (starts_in bs)) (replies-unique q (periods_in bs) (lengths_in bs) (starts_in bs))

  read-in : Reads first_edition bs (replicate most_n 0) (replicate most_n 0) (replicate most_n 0) (read_in bs)
  unfolding read_in
  read-in = read_meets first_edition bs (replicate most_n 0) (replicate most_n 0) (replicate most_n 0)

  pub reply-meets : Answers q bs (reply_of q bs)
  unfolding Answers reply_of
  reply-meets = by (ℕ_discrete (read_in bs).answer.number 0)
    where
      by : Dec ((read_in bs).answer.number ≡ 0) → Answers q bs (reply_of q bs)
      by (yes z) =
          rw (eq-eqb _ _ z)
          (rest-first (book_lines bs) refused (Replies q (periods_in bs) (lengths_in bs) (starts_in bs)) (replies_of q (periods_in bs) (lengths_in bs) (starts_in bs))
          (opened-silent bs (read_in bs).answer (read_in bs).periods (read_in bs).lengths (read_in bs).starts read-in z)
          (replies-meet q (periods_in bs) (lengths_in bs) (starts_in bs)))
      by (no d) =
          rw (ne_eqb _ _ d)
          (opened-refused bs (read_in bs).answer (read_in bs).periods (read_in bs).lengths (read_in bs).starts read-in (Replies q (periods_in bs) (lengths_in bs) (starts_in bs)) d)
