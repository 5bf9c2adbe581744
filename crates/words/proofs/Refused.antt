-- REFUSALS: no refusal has number 0, and an answer tells which refusal it is.
--     refusal-above     the number of a refusal is above 0
--     refusal-not-done  .. so it is not done
--     told              the refusal of an answer's four numbers
--     passed-on         a refusal that `?` passes on
--     refusal-unique    two refusals with one answer are one
--     shown-unique, shown-number-unique, shown-held-unique, shown-next-unique     two results that are shown alike are one, where a probe that is named is below the mark
-- Assumes nothing.
use Rattle.std.specs.Prelude.{◌≡◌, refl, ℕ, ◌<◌, eqb, cond, Result, Ok, Err, IsErrAnd, Option, None, Some}
use Rattle.std.proofs.Common.{ap, sym, ◌∙◌, arith}
use Rattle.words.specs.declared.Answer.{Answer}
use Rattle.words.specs.declared.refusals.Refusal.{Refusal}
use Rattle.words.specs.declared.refusals.Refusal.TheVariants.{ColumnsDiffer, TooManyProbes, BadPeriod, BadLength, Unchained, TooManyRows, NoRoom, NoPlace, Late, Meeting, TooLate, OffGrid, BadSize, WrongSum, WrongField, UsedUnused, ShortColumn}
use Rattle.words.specs.Answers.{named, done, mark}
use Rattle.words.specs.declared.Held.{Held}
use Rattle.words.specs.declared.NextStart.{NextStart}
use Rattle.words.specs.Refused.{refusal, answered, shown, shown_number, shown_held, held_shown, HeldNamed, shown_next, next_shown, NextNamed}

pub refusal-above : (r : Refusal) → 0 < (refusal r).number
refusal-above ColumnsDiffer = omega arith
refusal-above TooManyProbes = omega arith
refusal-above (BadPeriod i) = omega arith
refusal-above (BadLength i) = omega arith
refusal-above (Unchained i) = omega arith
refusal-above TooManyRows = omega arith
refusal-above NoRoom = omega arith
refusal-above (NoPlace i) = omega arith
refusal-above (Late i) = omega arith
refusal-above (Meeting i j t) = omega arith
refusal-above TooLate = omega arith
refusal-above (OffGrid i) = omega arith
refusal-above BadSize = omega arith
refusal-above (WrongSum b) = omega arith
refusal-above (WrongField b) = omega arith
refusal-above (UsedUnused b) = omega arith
refusal-above ShortColumn = omega arith

pub refusal-not-done : (r : Refusal) → (refusal r).number ≡ 0 → ⊥
refusal-not-done r z = omega (arith, refusal-above r)

-- of a number that no refusal has, any
abbrev pub told_as : ℕ → ℕ → ℕ → ℕ → Refusal
told_as k i j t =
    cond (eqb k 1) ColumnsDiffer (
    cond (eqb k 2) TooManyProbes (
    cond (eqb k 3) (BadPeriod i) (
    cond (eqb k 4) (BadLength i) (
    cond (eqb k 5) (Unchained i) (
    cond (eqb k 6) TooManyRows (
    cond (eqb k 7) NoRoom (
    cond (eqb k 8) (NoPlace i) (
    cond (eqb k 9) (Late i) (
    cond (eqb k 10) (Meeting i j t) (
    cond (eqb k 11) TooLate (
    cond (eqb k 18) (OffGrid i) (
    cond (eqb k 20) BadSize (
    cond (eqb k 21) (WrongSum i) (
    cond (eqb k 22) (WrongField i) (
    cond (eqb k 23) (UsedUnused i) (
    ShortColumn))))))))))))))))

abbrev pub told : Answer → Refusal
told a = told_as a.number a.index a.second a.tick

told-back : (r : Refusal) → told (refusal r) ≡ r
told-back ColumnsDiffer = refl
told-back TooManyProbes = refl
told-back (BadPeriod i) = refl
told-back (BadLength i) = refl
told-back (Unchained i) = refl
told-back TooManyRows = refl
told-back NoRoom = refl
told-back (NoPlace i) = refl
told-back (Late i) = refl
told-back (Meeting i j t) = refl
told-back TooLate = refl
told-back (OffGrid i) = refl
told-back BadSize = refl
told-back (WrongSum b) = refl
told-back (WrongField b) = refl
told-back (UsedUnused b) = refl
told-back ShortColumn = refl

pub refusal-unique : (r s : Refusal) → refusal r ≡ refusal s → r ≡ s
refusal-unique r s e = sym (told-back r) ∙ (ap told e ∙ told-back s)

-- a refusal that `?` passes on is answered as it was
pub passed-on : {T : Type 0} (f : T → Answer) (r : Result T Refusal) (e : Refusal) → IsErrAnd r (λ x. x ≡ e) → answered f r ≡ refusal e
passed-on f (Ok x) e h = absurd h
passed-on f (Err x) e h = ap refusal h

-- what is shown of a result is shown of no other
either-way : {A : Type 0} → (r : Refusal) (a : Answer) → a.number ≡ 0 → a ≡ refusal r → A
either-way r a z e = absurd (refusal-not-done r (rw e at z))

pub shown-unique : (r s : Result (Unit {0}) Refusal) → shown r ≡ shown s → r ≡ s
shown-unique (Ok x) (Ok y) e = refl
shown-unique (Ok x) (Err s) e = either-way s done refl e
shown-unique (Err r) (Ok y) e = either-way r done refl (sym e)
shown-unique (Err r) (Err s) e = ap Err (refusal-unique r s e)

pub shown-number-unique : (r s : Result ℕ Refusal) → shown_number r ≡ shown_number s → r ≡ s
shown-number-unique (Ok x) (Ok y) e = ap (λ (a : Answer). Ok a.index) e
shown-number-unique (Ok x) (Err s) e = either-way s (named x) refl e
shown-number-unique (Err r) (Ok y) e = either-way r (named y) refl (sym e)
shown-number-unique (Err r) (Err s) e = ap Err (refusal-unique r s e)

below-mark : {A : Type 0} (i : ℕ) → i < mark → i ≡ mark → A
below-mark i h e = absurd (omega (arith, e))

held-done : (o : Option Held) → (held_shown o).number ≡ 0
held-done None = refl
held-done (Some h) = refl

next-done : (o : Option NextStart) → (next_shown o).number ≡ 0
next-done None = refl
next-done (Some n) = refl

pub shown-held-unique : (r s : Result (Option Held) Refusal) → HeldNamed r → HeldNamed s → shown_held r ≡ shown_held s → r ≡ s
shown-held-unique (Ok None) (Ok None) g h e = refl
shown-held-unique (Ok None) (Ok (Some y)) g h e = below-mark y.probe h (ap (λ (a : Answer). a.index) (sym e))
shown-held-unique (Ok (Some x)) (Ok None) g h e = below-mark x.probe g (ap (λ (a : Answer). a.index) e)
shown-held-unique (Ok (Some x)) (Ok (Some y)) g h e = ap (λ (a : Answer). Ok (Some (record { probe = a.index }))) e
shown-held-unique (Ok x) (Err s) g h e = either-way s (held_shown x) (held-done x) e
shown-held-unique (Err r) (Ok y) g h e = either-way r (held_shown y) (held-done y) (sym e)
shown-held-unique (Err r) (Err s) g h e = ap Err (refusal-unique r s e)

pub shown-next-unique : (r s : Result (Option NextStart) Refusal) → NextNamed r → NextNamed s → shown_next r ≡ shown_next s → r ≡ s
shown-next-unique (Ok None) (Ok None) g h e = refl
shown-next-unique (Ok None) (Ok (Some y)) g h e = below-mark y.probe h (ap (λ (a : Answer). a.index) (sym e))
shown-next-unique (Ok (Some x)) (Ok None) g h e = below-mark x.probe g (ap (λ (a : Answer). a.index) e)
shown-next-unique (Ok (Some x)) (Ok (Some y)) g h e = ap (λ (a : Answer). Ok (Some (record { probe = a.index; tick = a.tick }))) e
shown-next-unique (Ok x) (Err s) g h e = either-way s (next_shown x) (next-done x) e
shown-next-unique (Err r) (Ok y) g h e = either-way r (next_shown y) (next-done y) (sym e)
shown-next-unique (Err r) (Err s) g h e = ap Err (refusal-unique r s e)
