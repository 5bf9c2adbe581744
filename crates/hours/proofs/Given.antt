-- THE PROMISES AS A CALL'S RESULT SAYS THEM.
--     refused-named       a refusal names no probe
--     holder-given-unique, next-given-unique     two results that satisfy a promise are equal
-- Assumes nothing.
use Rattle.std.specs.Prelude.{◌≡◌, List, ℕ, Result, Ok, Err, IsErrAnd, IfOk, Option}
use Rattle.words.specs.declared.Held.{Held}
use Rattle.words.specs.declared.NextStart.{NextStart}
use Rattle.words.specs.declared.refusals.Refusal.{Refusal}
use Rattle.words.specs.Refused.{shown_held, shown_next}
use Rattle.words.proofs.Refused.{shown-held-unique, shown-next-unique}
use Rattle.hours.specs.Timetable.{HolderGiven, NextGiven}
use Rattle.hours.proofs.Promises.{holder-unique, next-start-unique}

pub refused-named : {T : Type 0} (P : T → Type 0) (r : Result T Refusal) (e : Refusal) → IsErrAnd r (λ x. x ≡ e) → IfOk r P
refused-named P (Ok x) e h = absurd h
refused-named P (Err x) e h = tt

module _ (Ts ps ss : List ℕ) (t : ℕ) where
  pub holder-given-unique : (r s : Result (Option Held) Refusal) → HolderGiven Ts ps ss t r → HolderGiven Ts ps ss t s → r ≡ s
  holder-given-unique r s (g, n) (h, m) = shown-held-unique r s n m (holder-unique Ts ps ss t (shown_held r) (shown_held s) g h)

  pub next-given-unique : (r s : Result (Option NextStart) Refusal) → NextGiven Ts ps ss t r → NextGiven Ts ps ss t s → r ≡ s
  next-given-unique r s (g, n) (h, m) = shown-next-unique r s n m (next-start-unique Ts ps ss t (shown_next r) (shown_next s) g h)
