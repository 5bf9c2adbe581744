-- What follows from the definitions of specs/Passed.
--     silent-if                 checks that answer 0 found nothing: none of their lines applies
--     silents-left, ..          lines one after another
--     sound-with                whatever columns number 1 counts, the table among them is sound
--     silent-passes, passes-silent   it passes exactly when none of the lines 1 to 6 and 9 applies
--     sound-silent              none of 1 to 6 applies to a list of as many starts over a sound table
--     zero-passes               number 0 of the judge of a list says that it passes
-- Assumes nothing.
use Rattle.std.specs.Prelude.{◌≡◌, refl, ◌≢◌, Bool, true, false, List, [], ◌∷◌, ◌++◌, ℕ, ◌≤◌, ◌<◌, ltb, length, get_or}
use Rattle.std.proofs.Common.{inl, arith, ltb-false}
use Rattle.std.proofs.Math.Logic.{inr, ⊎_elim}
use Rattle.std.proofs.Math.Decide.{dec_lt, dec_le, ℕ_discrete}
use Rattle.lists.specs.Refusals.{Line, Silent, Silents}
use Rattle.lists.specs.Answering.{Found, AllFind, first_of}
use Rattle.words.specs.declared.Answer.{Answer}
use Rattle.words.specs.Answers.{refused, done}
use Rattle.probes.specs.Table.{Differ, DifferThree, lines, late_line, list_lines, Sound}
use Rattle.probes.specs.Verdict.{list_findings}
use Rattle.probes.specs.Composing.{Numbered, list_verdict}
use Rattle.probes.proofs.Composing.{list-find, list-numbered}
use Rattle.probes.specs.Passed.{Passes}

-- checks that answer 0 found nothing
pub silent-if : (ls : List Line) (fs : List Found) → AllFind ls fs → Numbered fs → (first_of fs refused done).number ≡ 0 → Silents ls
unfolding AllFind Numbered first_of Silents
silent-if [] [] a n z = tt
silent-if [] (f ∷ fs) a n z = absurd a
silent-if (l ∷ ls) [] a n z = absurd a
silent-if (l ∷ ls) (f ∷ fs) (g, a) (h, n) z = by (ltb f.place f.places) refl (silent-if ls fs a n)
  where
    by : (b : Bool) → ltb f.place f.places ≡ b → ((first_of fs refused done).number ≡ 0 → Silents ls) → Silent l × Silents ls
    by true t ih = absurd (omega (arith, rw t at z))
    by false t ih =
        let over : f.places ≤ f.place = ltb-false f.place f.places t in
        ((λ i k. g.place.passed i (omega (arith, g.places))), ih (rw t at z))

pub silents-left : (ls ms : List Line) → Silents (ls ++ ms) → Silents ls
unfolding Silents
silents-left [] ms s = tt
silents-left (l ∷ ls) ms (s, r) = (s, silents-left ls ms r)

pub silents-right : (ls ms : List Line) → Silents (ls ++ ms) → Silents ms
unfolding Silents
silents-right [] ms s = s
silents-right (l ∷ ls) ms (s, r) = silents-right ls ms r

pub silents-append : (ls ms : List Line) → Silents ls → Silents ms → Silents (ls ++ ms)
unfolding Silents
silents-append [] ms a b = b
silents-append (l ∷ ls) ms (s, r) b = (s, silents-append ls ms r b)

-- whatever columns number 1 counts, the table among them is sound
pub sound-with : (Ts ps : List ℕ) (D : Type 0) → (Differ Ts ps → D) → Silents (lines Ts ps D) → Sound Ts ps
unfolding Silents
sound-with Ts ps D f (s, r) = ((λ i h d. s i h (f d)), r)

pub below_of : (Ts ss : List ℕ) → Silent (late_line Ts ss) → (i : ℕ) → i < length Ts → get_or ss i 0 < get_or Ts i 0
below_of Ts ss s i h = by (dec_lt (get_or ss i 0) (get_or Ts i 0))
  where
    by : Dec (get_or ss i 0 < get_or Ts i 0) → get_or ss i 0 < get_or Ts i 0
    by (yes l) = l
    by (no l) = absurd (s i h (omega arith))

-- what is not refused, as a fact
pub at_most : (m x : ℕ) → (x < m → ⊥) → m ≤ x
at_most m x n = by (dec_le m x)
  where
    by : Dec (m ≤ x) → m ≤ x
    by (yes h) = h
    by (no h) = absurd (n (omega arith))

pub equal : (m n : ℕ) → (m ≢ n → ⊥) → m ≡ n
equal m n k = by (ℕ_discrete m n)
  where
    by : Dec (m ≡ n) → m ≡ n
    by (yes e) = e
    by (no e) = absurd (k e)

module _ (Ts ps ss : List ℕ) where
  pub silent-passes : Silents (list_lines Ts ps ss) → Passes Ts ps ss
  unfolding Silents
  silent-passes s =
      let l = silents-left (lines Ts ps (DifferThree Ts ps ss)) (late_line Ts ss ∷ []) s in
      let r = silents-right (lines Ts ps (DifferThree Ts ps ss)) (late_line Ts ss ∷ []) s in
      record { sound = sound-with Ts ps (DifferThree Ts ps ss) inr l; below = r.0; same = equal (length Ts) (length ss) (λ d. l.0 0 (omega arith) (inl d)) }

  -- a sound table with as many starts: none of 1 to 6 applies to the list
  pub sound-silent : Sound Ts ps → length Ts ≡ length ss → Silents (lines Ts ps (DifferThree Ts ps ss))
  unfolding Silents
  sound-silent (s₁, s) e = (λ i h. ⊎_elim (λ n. n e) (s₁ i h), s)

  pub passes-silent : Passes Ts ps ss → Silents (list_lines Ts ps ss)
  unfolding Silents
  passes-silent p = silents-append (lines Ts ps (DifferThree Ts ps ss)) (late_line Ts ss ∷ []) (sound-silent p.sound p.same) (p.below, tt)

  pub zero-passes : (a : Answer) → a ≡ list_verdict Ts ps ss → a.number ≡ 0 → Passes Ts ps ss
  unfolding list_verdict
  zero-passes a e z = silent-passes (silent-if (list_lines Ts ps ss) (list_findings Ts ps ss) (list-find Ts ps ss) (list-numbered Ts ps ss) (rw e at z))
