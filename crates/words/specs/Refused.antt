-- REFUSALS. Document 01, "Numbers the master shows" and the reading rules: the number of each refusal, and what it names.
--     refusal r          the answer of a refusal
--     shown, shown_number, shown_held, shown_next     .. of a call that is done with nothing to name, a number, the probe that holds a tick or the mark, the next start or the mark
--     HeldNamed r, NextNamed r     the probe that such a result names is below the mark
--     answered f r       the answer of a call that is done with x, f x, or refused
-- Assumes nothing.
use Rattle.std.specs.Prelude.{ℕ, ◌<◌, Result, Ok, Err, IfOk, Option, Some, None, IfSome}
use Rattle.words.specs.declared.Answer.{Answer}
use Rattle.words.specs.Answers.{pair, refused, named, done, mark}
use Rattle.words.specs.declared.Held.{Held}
use Rattle.words.specs.declared.NextStart.{NextStart}
use Rattle.words.specs.declared.refusals.Refusal.{Refusal}
use Rattle.words.specs.declared.refusals.Refusal.TheVariants.{ColumnsDiffer, TooManyProbes, BadPeriod, BadLength, Unchained, TooManyRows, NoRoom, NoPlace, Late, Meeting, TooLate, OffGrid, BadSize, WrongSum, WrongField, UsedUnused, ShortColumn}

abbrev pub refusal : Refusal → Answer
refusal ColumnsDiffer = refused 1 0
refusal TooManyProbes = refused 2 0
refusal (BadPeriod i) = refused 3 i
refusal (BadLength i) = refused 4 i
refusal (Unchained i) = refused 5 i
refusal TooManyRows = refused 6 0
refusal NoRoom = refused 7 0
refusal (NoPlace i) = refused 8 i
refusal (Late i) = refused 9 i
refusal (Meeting i j t) = pair 10 i j t
refusal TooLate = refused 11 0
refusal (OffGrid i) = refused 18 i
refusal BadSize = refused 20 0
refusal (WrongSum b) = refused 21 b
refusal (WrongField b) = refused 22 b
refusal (UsedUnused b) = refused 23 b
refusal ShortColumn = refused 24 0

abbrev pub answered : {T : Type 0} → (T → Answer) → Result T Refusal → Answer
answered f (Ok x) = f x
answered f (Err r) = refusal r

abbrev pub shown : Result (Unit {0}) Refusal → Answer
shown r = answered (λ u. done) r

abbrev pub shown_number : Result ℕ Refusal → Answer
shown_number r = answered named r

abbrev pub held_shown : Option Held → Answer
held_shown None = named mark
held_shown (Some h) = named h.probe

abbrev pub shown_held : Result (Option Held) Refusal → Answer
shown_held r = answered held_shown r

abbrev pub next_shown : Option NextStart → Answer
next_shown None = named mark
next_shown (Some n) = pair 0 n.probe 0 n.tick

abbrev pub shown_next : Result (Option NextStart) Refusal → Answer
shown_next r = answered next_shown r

-- the probe that is named is a probe's number, and not the mark
abbrev pub HeldNamed : Result (Option Held) Refusal → Type 0
HeldNamed r = IfOk r (λ o. IfSome o (λ h. h.probe < mark))

abbrev pub NextNamed : Result (Option NextStart) Refusal → Type 0
NextNamed r = IfOk r (λ o. IfSome o (λ n. n.probe < mark))
