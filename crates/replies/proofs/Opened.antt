-- A BOOK READ INTO THREE COLUMNS OF 256: n probes, or a refusal.
--     opened_few            n is at most 256
--     answers_opened        what the library answers on the first n entries is the book's answer
--     answers_refused       the refusal is the book's answer
--     taken                 the first n entries are n
-- Assumes nothing.
use Rattle.std.specs.Prelude.{◌≡◌, refl, List, ℕ, ◌≤◌, length, take, replicate}
use Rattle.std.proofs.Common.{sym, arith, length-take-le}
use Rattle.words.specs.declared.Answer.{Answer}
use Rattle.words.specs.declared.refusals.Refusal.{Refusal}
use Rattle.words.specs.Answers.{named}
use Rattle.words.specs.Refused.{refusal}
use Rattle.words.proofs.Refused.{refusal-above}
use Rattle.sheets.specs.Layout.{first_edition, most_n}
use Rattle.volumes.specs.Reading.{columns, Reads}
use Rattle.questions.specs.declared.Question.{Question}
use Rattle.questions.specs.Replies.{Replies, Answers}
use Rattle.questions.proofs.Asking.{opened-few, answers-refused, answers-opened}

module _ (bs Ts ps ss : List ℕ) where
  pub opened_few : (n : ℕ) → Reads first_edition bs (replicate most_n 0) (replicate most_n 0) (replicate most_n 0) (columns (named n) Ts ps ss) → n ≤ most_n
  opened_few n r = opened-few bs (named n) Ts ps ss r refl

  pub answers_opened : (n : ℕ) → Reads first_edition bs (replicate most_n 0) (replicate most_n 0) (replicate most_n 0) (columns (named n) Ts ps ss)
      → (q : Question) (b : Answer) → Replies q (take n Ts) (take n ps) (take n ss) b → Answers q bs b
  answers_opened n r q b h = answers-opened bs (named n) Ts ps ss r q refl b h

  pub answers_refused : (e : Refusal) → Reads first_edition bs (replicate most_n 0) (replicate most_n 0) (replicate most_n 0) (columns (refusal e) Ts ps ss)
      → (q : Question) → Answers q bs (refusal e)
  answers_refused e r q = let above = refusal-above e in answers-refused bs (refusal e) Ts ps ss r q (λ z. omega arith)

pub taken : (n : ℕ) (xs : List ℕ) → n ≤ length xs → n ≡ length (take n xs)
taken n xs h = sym (length-take-le n xs h)
