-- RECTANGLES, BOTH WAYS. Document 01, "Slots and sub-bins": "This conversion moves nothing and doesn't ask for a clean list." Numbers 1 to 6, 7, 9 or 18, in order.
--     ToCorners Ts ps ss xs ys o    the promise of `to_corners`: the refusal, with nothing written; else n corners, and the entries past n stay
--     ToStarts Ts ps xs ys ss o     the promise of `to_starts`
--     corners_of, starts_of       the same, computed
-- The lines stand in crate admitting, specs/Admitting.
-- Assumes nothing.
use Rattle.std.specs.Prelude.{◌≡◌, List, ℕ, length}
use Rattle.lists.specs.Refusals.{First}
use Rattle.lists.specs.Answering.{first_of}
use Rattle.lists.specs.Counted.{filled}
use Rattle.words.specs.declared.Answer.{Answer}
use Rattle.words.specs.Answers.{refused, done}
use Rattle.chain.specs.Grid.{x_at, y_at, start_at}
pub use Rattle.admitting.specs.Admitting.{corner_lines, corner_last, DifferFour, start_lines, start_last}
unfoldable pub use Rattle.admitting.specs.Admitting.{corner_findings, start_findings}

pub record Corners : Type 0 where
  pub answer : Answer
  pub xs : List ℕ
  pub ys : List ℕ

abbrev pub corners : Answer → List ℕ → List ℕ → Corners
corners a xs ys = record { answer = a; xs = xs; ys = ys }

module _ (Ts ps ss xs ys : List ℕ) where
  abbrev pub refused_corners : ℕ → ℕ → Corners
  refused_corners k i = corners (refused k i) xs ys

  unfoldable pub done_corners : Corners
  done_corners = corners done (filled (x_at Ts ss) (length Ts) xs) (filled (y_at Ts ss) (length Ts) ys)

  unfoldable pub ToCorners : Corners → Type 0
  ToCorners o = First (corner_lines Ts ps ss xs ys) refused_corners (λ r. r ≡ done_corners) o

  unfoldable pub corners_of : Corners
  corners_of = first_of (corner_findings Ts ps ss xs ys) refused_corners done_corners

pub record Starts : Type 0 where
  pub answer : Answer
  pub starts : List ℕ

abbrev pub as_starts : Answer → List ℕ → Starts
as_starts a ss = record { answer = a; starts = ss }

module _ (Ts ps xs ys ss : List ℕ) where
  abbrev pub refused_starts : ℕ → ℕ → Starts
  refused_starts k i = as_starts (refused k i) ss

  unfoldable pub done_starts : Starts
  done_starts = as_starts done (filled (start_at Ts xs ys) (length Ts) ss)

  unfoldable pub ToStarts : Starts → Type 0
  ToStarts o = First (start_lines Ts ps xs ys ss) refused_starts (λ r. r ≡ done_starts) o

  unfoldable pub starts_of : Starts
  starts_of = first_of (start_findings Ts ps xs ys ss) refused_starts done_starts
