-- WHAT THE CONVERSIONS ASK FIRST. Document 01, numbers 1 to 6, 7, 9 or 18, in order. (The planner's lines stand with first fit, in stack.)
--     corner_lines ..            the lines of `to_corners`
--     start_lines ..             the lines of `to_starts`
--     corner_findings, start_findings     what the checks find
-- Assumes nothing.
use Rattle.std.specs.Prelude.{◌⊎◌, ◌≢◌, not, List, [], ◌∷◌, ◌++◌, ℕ, ◌<◌, ltb, eqb, length}
use Rattle.lists.specs.Pick.{either}
use Rattle.lists.specs.Lowest.{lowest}
use Rattle.lists.specs.Refusals.{Line, line, whole}
use Rattle.lists.specs.Answering.{Found, found, tested}
use Rattle.probes.specs.Table.{lines, late_line, DifferThree}
use Rattle.probes.specs.Verdict.{findings, late}
use Rattle.chain.specs.Grid.{OffGridAt, off_grid}

module _ (Ts ps ss xs ys : List ℕ) where
  abbrev pub corner_lines : List Line
  corner_lines =
      lines Ts ps (DifferThree Ts ps ss) ++ (whole 7 ((length xs < length Ts) ⊎ (length ys < length Ts)) ∷ late_line Ts ss ∷ [])

  abbrev pub corner_last : List Found
  corner_last =
      tested 7 (either (ltb (length xs) (length Ts)) (ltb (length ys) (length Ts))) ∷ found 9 (length Ts) (lowest (late Ts ss) (length Ts)) ∷ []

  unfoldable pub corner_findings : List Found
  corner_findings = findings (either (not (eqb (length Ts) (length ss))) (not (eqb (length Ts) (length ps)))) Ts ps ++ corner_last

module _ (Ts ps xs ys ss : List ℕ) where
  -- 1 of a call that takes four columns
  abbrev pub DifferFour : Type 0
  DifferFour = (length Ts ≢ length xs) ⊎ ((length Ts ≢ length ys) ⊎ (length Ts ≢ length ps))

  abbrev pub start_lines : List Line
  start_lines = lines Ts ps DifferFour ++ (whole 7 (length ss < length Ts) ∷ line 18 (length Ts) (OffGridAt Ts xs ys) ∷ [])

  abbrev pub start_last : List Found
  start_last = tested 7 (ltb (length ss) (length Ts)) ∷ found 18 (length Ts) (lowest (off_grid Ts xs ys) (length Ts)) ∷ []

  unfoldable pub start_findings : List Found
  start_findings =
      findings (either (not (eqb (length Ts) (length xs))) (either (not (eqb (length Ts) (length ys))) (not (eqb (length Ts) (length ps))))) Ts ps ++ start_last
