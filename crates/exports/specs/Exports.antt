-- THE EXPORTS. Document 01, "Numbers the master shows": "With fewer than 20 the call returns 7 before all else and writes nothing; bytes past the twentieth stay. Otherwise it judges
-- the book by the reading rules, then the list by the order above, returns the number, and writes number, index and second index in 4 bytes each and the tick in 8, least byte first,
-- refusals included."
--     Given                     the number that comes back, and the lent bytes afterwards
--     export_of q bs out         what an export gives, computed
--     Exports q bs out o        the promise of an export that asks question q of the book bs and is lent the bytes out   (believe this)
-- Edges: the reading's n does not show; 7 has no bytes to stand in.
-- Assumes nothing.
use Rattle.std.specs.Prelude.{◌≡◌, List, [], ◌∷◌, ◌++◌, ℕ, ◌<◌, ltb, length, drop}
use Rattle.lists.specs.Pick.{pick}
use Rattle.lists.specs.Refusals.{Line, whole, First}
use Rattle.words.specs.declared.Answer.{Answer}
use Rattle.telling.specs.Shown.{answer_bytes, shown}
use Rattle.questions.specs.declared.Question.{Question}
use Rattle.questions.specs.Replies.{Answers, reply_of}

pub record Given : Type 0 where
  pub number : ℕ
  pub bytes : List ℕ

abbrev pub given : ℕ → List ℕ → Given
given k bs = record { number = k; bytes = bs }

module _ (q : Question) (bs out : List ℕ) where
  abbrev pub export_lines : List Line
  export_lines = whole 7 (length out < answer_bytes) ∷ []

  -- nothing is written
  abbrev pub refused_export : ℕ → ℕ → Given
  refused_export k i = given k out

  abbrev pub ToldOf : Given → Type 0
  ToldOf o = (a : Answer) × Answers q bs a × (o ≡ given a.number (shown a ++ drop answer_bytes out))

  unfoldable pub Exports : Given → Type 0
  Exports o = First export_lines refused_export ToldOf o

  -- the same, computed
  unfoldable pub export_of : Given
  export_of = pick (ltb (length out) answer_bytes) (given 7 out) (given (reply_of q bs).number (shown (reply_of q bs) ++ drop answer_bytes out))
