-- WHAT THE THREE CALLS COMPUTE MEETS THEIR PROMISES.
-- Assumes nothing.
use Rattle.std.specs.Prelude.{◌≡◌, refl, List, ℕ}
use Rattle.lists.specs.Answering.{first-of}
use Rattle.stack.specs.FirstFit.{plan_lines, plan_findings, refused_plan, placed, planned}
use Rattle.admitting.specs.Checks.{corner-find, start-find, plan-find}
use Rattle.rectangles.specs.Converting.{corner_lines, corner_findings, refused_corners, done_corners, ToCorners, corners_of, start_lines, start_findings, refused_starts, done_starts, ToStarts, starts_of}
use Rattle.rectangles.specs.Plan.{Plans}

module _ (Ts ps ss xs ys : List ℕ) where
  pub corners-meet : ToCorners Ts ps ss xs ys (corners_of Ts ps ss xs ys)
  unfolding ToCorners corners_of
  corners-meet = first-of (corner_lines Ts ps ss xs ys) (corner_findings Ts ps ss xs ys) (refused_corners Ts ps ss xs ys) (λ r. r ≡ done_corners Ts ps ss xs ys) (done_corners Ts ps ss xs ys) (corner-find Ts ps ss xs ys) (λ s. refl)

module _ (Ts ps xs ys ss : List ℕ) where
  pub starts-meet : ToStarts Ts ps xs ys ss (starts_of Ts ps xs ys ss)
  unfolding ToStarts starts_of
  starts-meet = first-of (start_lines Ts ps xs ys ss) (start_findings Ts ps xs ys ss) (refused_starts Ts ps xs ys ss) (λ r. r ≡ done_starts Ts ps xs ys ss) (done_starts Ts ps xs ys ss) (start-find Ts ps xs ys ss) (λ s. refl)

module _ (Ts ps ss fs : List ℕ) where
  pub planned-meets : Plans Ts ps ss fs (planned Ts ps ss fs)
  unfolding Plans planned
  planned-meets = first-of (plan_lines Ts ps ss fs) (plan_findings Ts ps ss fs) (refused_plan Ts ps ss fs) (λ r. r ≡ placed Ts ps ss fs) (placed Ts ps ss fs) (plan-find Ts ps ss fs) (λ s. refl)
