-- THE PLANNER'S PROMISE. Document 01, "First fit" and numbers 1 to 8.
--     Plans Ts ps ss fs o       the refusal by 1 to 7, with nothing written; else what first fit gives, to the tick: answer 0 with n starts and H fills, or 8 with the placed starts, the
--                               marks and the fills as they then stand; the entries past n and past H stay
-- First fit is the executable definition `stack/placed`; `stack/Follows` says the same over rows, and is fixed by it.
-- Assumes nothing.
use Rattle.std.specs.Prelude.{◌≡◌, List, ℕ}
use Rattle.lists.specs.Refusals.{First}
use Rattle.stack.specs.FirstFit.{Outcome, plan_lines, refused_plan, placed}

unfoldable pub Plans : List ℕ → List ℕ → List ℕ → List ℕ → Outcome → Type 0
Plans Ts ps ss fs o = First (plan_lines Ts ps ss fs) (refused_plan Ts ps ss fs) (λ r. r ≡ placed Ts ps ss fs) o
