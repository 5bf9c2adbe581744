-- A CALL THAT ASKS ABOUT A TICK: numbers 1 to 6, 9 and 11, which `holder` and `next_start` share.
--     ask_verdict Ts ps ss t     the refusal of the first line that applies, else done
--     Asked Ts ps ss t          the table is sound, every start lies below its period, starts are as many as periods, and the tick is not too late
--     silent-asked, asked-silent   that is: none of the lines applies
--     Timed Ts ss t             of that, what the next start needs
--     zero-asked                number 0 of the judge says so
--     ask-judged, -late, -done  the ways out of the judge
--     ask-refused, ask-passed   a call that asks the judge first answers the judge's refusal, or what it has to say itself
-- Assumes nothing.
use Rattle.std.specs.Prelude.{◌≡◌, List, [], ◌∷◌, ℕ, ◌≤◌, ◌<◌, length, get_or}
use Rattle.std.proofs.Math.Path.{sym}
use Rattle.std.proofs.Common.{◌∙◌, lt-ltb, le-ltb}
use native.Mathlib.Omega.{arith}
use Rattle.lists.specs.Telling.{tells-lt}
use Rattle.lists.specs.Refusals.{Silents, whole}
use Rattle.lists.specs.Answering.{tested, first_of, first-of-append, AllFind, all-find-append, finds-whole}
use Rattle.words.specs.declared.Answer.{Answer}
use Rattle.words.specs.Answers.{refused, done}
use Rattle.words.specs.Ticks.{last_tick, TooLate, too_late}
use Rattle.probes.specs.Table.{most_probes, Sound, list_lines}
use Rattle.probes.specs.Verdict.{list_findings}
use Rattle.probes.proofs.Laws.{sound-gives}
use Rattle.probes.specs.Composing.{Numbered, list_verdict}
use Rattle.probes.proofs.Composing.{numbered-append, list-find, list-numbered, compose-done, compose-refused, refusal_is}
use Rattle.probes.proofs.Passed.{silent-if, silents-left, silents-right, silents-append, silent-passes, passes-silent, below_of, at_most}
use Rattle.hours.specs.Timetable.{ask_lines, ask_findings}

unfoldable pub ask_verdict : List ℕ → List ℕ → List ℕ → ℕ → Answer
ask_verdict Ts ps ss t = first_of (ask_findings Ts ps ss t) refused done

pub record Asked (Ts ps ss : List ℕ) (t : ℕ) : Type 0 where
  pub sound : Sound Ts ps
  pub below : (i : ℕ) → i < length Ts → get_or ss i 0 < get_or Ts i 0
  pub same : length Ts ≡ length ss
  pub soon : t ≤ last_tick

-- of that, what the next start needs
pub record Timed (Ts ss : List ℕ) (t : ℕ) : Type 0 where
  pub few : length Ts ≤ most_probes
  pub least : (i : ℕ) → i < length Ts → 0 < get_or Ts i 0
  pub same : length Ts ≡ length ss
  pub soon : t ≤ last_tick

pub asked-timed : (Ts ps ss : List ℕ) (t : ℕ) → Asked Ts ps ss t → Timed Ts ss t
asked-timed Ts ps ss t a =
    let s = sound-gives Ts ps a.sound in
    record { few = s.few; least = s.least; same = a.same; soon = a.soon }

module _ (Ts ps ss : List ℕ) (t : ℕ) where
  pub ask-find : AllFind (ask_lines Ts ps ss t) (ask_findings Ts ps ss t)
  unfolding ask_findings AllFind
  ask-find =
      all-find-append (list_lines Ts ps ss) (whole 11 (TooLate t) ∷ []) (list_findings Ts ps ss) (tested 11 (too_late t) ∷ [])
      (list-find Ts ps ss)
      (finds-whole 11 (TooLate t) (too_late t) (tells-lt last_tick t), tt)

  ask-numbered : Numbered (ask_findings Ts ps ss t)
  unfolding ask_findings Numbered
  ask-numbered = numbered-append (list_findings Ts ps ss) (tested 11 (too_late t) ∷ []) (list-numbered Ts ps ss) (omega arith, tt)

  pub silent-asked : Silents (ask_lines Ts ps ss t) → Asked Ts ps ss t
  unfolding Silents
  silent-asked s =
      let p = silent-passes Ts ps ss (silents-left (list_lines Ts ps ss) (whole 11 (TooLate t) ∷ []) s) in
      let r = silents-right (list_lines Ts ps ss) (whole 11 (TooLate t) ∷ []) s in
      record { sound = p.sound; below = below_of Ts ss p.below; same = p.same; soon = at_most t last_tick (λ h. r.0 0 (omega arith) h) }

  pub asked-silent : Asked Ts ps ss t → Silents (ask_lines Ts ps ss t)
  unfolding Silents
  asked-silent a =
      silents-append (list_lines Ts ps ss) (whole 11 (TooLate t) ∷ [])
      (passes-silent Ts ps ss (record { sound = a.sound; below = λ i h l. absurd (omega (arith, a.below i h)); same = a.same }))
      (λ i h l. absurd (omega (arith, a.soon)), tt)

  pub zero-asked : (a : Answer) → a ≡ ask_verdict Ts ps ss t → a.number ≡ 0 → Asked Ts ps ss t
  unfolding ask_verdict
  zero-asked a e z = silent-asked (silent-if (ask_lines Ts ps ss t) (ask_findings Ts ps ss t) ask-find ask-numbered (rw e at z))

  -- the judge of a list first, then the tick
  split : ask_verdict Ts ps ss t ≡ first_of (list_findings Ts ps ss) refused (first_of (tested 11 (too_late t) ∷ []) refused done)
  unfolding ask_verdict ask_findings
  split = first-of-append (list_findings Ts ps ss) (tested 11 (too_late t) ∷ []) refused done

  pub ask-judged : (a : Answer) → a ≡ list_verdict Ts ps ss → (a.number ≡ 0 → ⊥) → a ≡ ask_verdict Ts ps ss t
  unfolding list_verdict
  ask-judged a e n = e ∙ refusal_is (list_findings Ts ps ss) ∙ sym (split ∙ compose-refused (list_findings Ts ps ss) refused _ (rw e at n))

  module _ (a : Answer) (e : a ≡ list_verdict Ts ps ss) (z : a.number ≡ 0) where
    late-part : ask_verdict Ts ps ss t ≡ first_of (tested 11 (too_late t) ∷ []) refused done
    unfolding list_verdict
    late-part = split ∙ compose-done (list_findings Ts ps ss) refused _ (list-numbered Ts ps ss) (rw e at z)

    pub ask-late : last_tick < t → refused 11 0 ≡ ask_verdict Ts ps ss t
    unfolding first_of
    ask-late h = sym (late-part ∙ rw (lt-ltb last_tick t h))

    pub ask-done : t ≤ last_tick → done ≡ ask_verdict Ts ps ss t
    unfolding first_of
    ask-done h = sym (late-part ∙ rw (le-ltb last_tick t h))

  pub ask-refused : (a o : Answer) → a ≡ ask_verdict Ts ps ss t → (a.number ≡ 0 → ⊥) → a ≡ first_of (ask_findings Ts ps ss t) refused o
  unfolding ask_verdict
  ask-refused a o e n = e ∙ refusal_is (ask_findings Ts ps ss t) ∙ sym (compose-refused (ask_findings Ts ps ss t) refused o (rw e at n))

  pub ask-passed : (a o : Answer) → a ≡ ask_verdict Ts ps ss t → a.number ≡ 0 → first_of (ask_findings Ts ps ss t) refused o ≡ o
  unfolding ask_verdict
  ask-passed a o e z = compose-done (ask_findings Ts ps ss t) refused o ask-numbered (rw e at z)
