-- WHICH REFUSALS A PLANNER THAT RAN GIVES: no place, and no other.
--     ran_done              it ran where it is done
--     ran_no_place          and where a probe has no place
--     not_ran               and with no other refusal
-- Assumes nothing.
use Rattle.std.specs.Prelude.{◌≡◌, refl, ℕ, true, false}
use Rattle.words.specs.Refused.{refusal}
use Rattle.words.specs.declared.refusals.Refusal.{Refusal}
use Rattle.words.specs.declared.refusals.Refusal.TheVariants.{ColumnsDiffer, TooManyProbes, BadPeriod, BadLength, Unchained, TooManyRows, NoRoom, NoPlace, Late, Meeting, TooLate, OffGrid, BadSize, WrongSum, WrongField, UsedUnused, ShortColumn}
use Rattle.paper.specs.Printed.{ran}

pub ran_done : ran 0 ≡ true
unfolding ran
ran_done = refl

pub ran_no_place : (r : Refusal) (i : ℕ) → r ≡ NoPlace i → ran (refusal r).number ≡ true
unfolding ran
ran_no_place r i e = rw e

pub not_ran : (r : Refusal) → ((i : ℕ) → r ≡ NoPlace i → ⊥) → ran (refusal r).number ≡ false
unfolding ran
not_ran (NoPlace i) n = absurd (n i refl)
not_ran ColumnsDiffer n = refl
not_ran TooManyProbes n = refl
not_ran (BadPeriod i) n = refl
not_ran (BadLength i) n = refl
not_ran (Unchained i) n = refl
not_ran TooManyRows n = refl
not_ran NoRoom n = refl
not_ran (Late i) n = refl
not_ran (Meeting i j t) n = refl
not_ran TooLate n = refl
not_ran (OffGrid i) n = refl
not_ran BadSize n = refl
not_ran (WrongSum b) n = refl
not_ran (WrongField b) n = refl
not_ran (UsedUnused b) n = refl
not_ran ShortColumn n = refl
