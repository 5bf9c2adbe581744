-- LAWS OF THE EXPORTS.
--     exports-short, -long  the two ways out
--     export-meets          what is computed meets the promise
-- Assumes nothing.
use Rattle.std.specs.Prelude.{◌≡◌, Bool, List, ◌++◌, ℕ, ◌+◌, ◌≤◌, ◌<◌, length}
use Rattle.std.proofs.Math.Path.{refl}
use Rattle.std.proofs.Math.Logic.{inl, inr}
use Rattle.std.proofs.Math.Bool.{true, false}
use native.Mathlib.Omega.{arith}
use Rattle.std.proofs.Math.Dec.{ltb}
use Rattle.std.proofs.Math.ListN.{drop}
use Rattle.std.proofs.Common.{ltb-true, ltb-false}
use Rattle.lists.specs.Pick.{pick}
use Rattle.lists.specs.Refusals.{First}
use Rattle.words.specs.declared.Answer.{Answer}
use Rattle.telling.specs.Shown.{answer_bytes, shown}
use Rattle.questions.specs.declared.Question.{Question}
use Rattle.questions.specs.Replies.{Answers, reply_of}
use Rattle.questions.proofs.Asking.{reply-meets}
use Rattle.exports.specs.Exports.{given, Exports, export_of}

module _ (q : Question) (bs out : List ℕ) where
  pub exports-short : length out < answer_bytes → Exports q bs out (given 7 out)
  unfolding Exports First
  exports-short h = inl (0, (omega arith, record { within = omega arith; passed = λ i k. absurd (omega arith); found = λ k. h }), refl)

  pub exports-long : answer_bytes ≤ length out → (a : Answer) → Answers q bs a → (r : ℕ) → r ≡ a.number → (l : List ℕ) → l ≡ shown a ++ drop answer_bytes out → Exports q bs out (given r l)
  unfolding Exports First
  exports-long h a p r e l f = inr (λ i k w. absurd (omega arith), (a, p, rw (e, f)))

  pub export-meets : Exports q bs out (export_of q bs out)
  unfolding export_of
  export-meets = by (ltb (length out) answer_bytes) refl
    where
      by : (b : Bool) → ltb (length out) answer_bytes ≡ b → Exports q bs out (pick b (given 7 out) (given (reply_of q bs).number (shown (reply_of q bs) ++ drop answer_bytes out)))
      by true e = exports-short (ltb-true (length out) answer_bytes e)
      by false e = exports-long (ltb-false (length out) answer_bytes e) (reply_of q bs) (reply-meets q bs) _ refl _ refl
