-- What follows from the definitions of specs/Composing.
--     compose-done          where the checks so far answer 0, all that is left to say is the rest
--     compose-refused       where they refuse, the refusal is the answer, with whatever columns
--     list-find             the checks of a list find what its lines ask for
-- Assumes nothing.
use Rattle.std.specs.Prelude.{◌≡◌, Bool, not, ℕ, ◌≤◌, ◌<◌, eqb, length}
use Rattle.std.proofs.Math.Path.{refl, sym}
use Rattle.std.proofs.Common.{◌∙◌, arith}
use Rattle.std.proofs.Math.Bool.{true, false}
use mathlib.Core.List.{List, [], ◌∷◌, ◌++◌}
use Rattle.std.proofs.Math.Dec.{ltb}
use borrow.Author.Tests.{eq-eqb, ne_eqb, lt-ltb, le-ltb}
use Rattle.lists.specs.Pick.{pick, either}
use Rattle.lists.specs.Telling.{tells-either, tells-not, tells-eq}
use Rattle.lists.specs.Lowest.{lowest}
use Rattle.lists.specs.Answering.{Found, found, first_of, first-of-append, AllFind, all-find-append}
use Rattle.words.specs.declared.Answer.{Answer}
use Rattle.words.specs.Answers.{refused, done}
use Rattle.probes.specs.Table.{Sound, DifferThree, lines, list_lines, late_line}
use Rattle.probes.specs.Verdict.{findings, late, list_findings, verdict}
use Rattle.probes.proofs.Laws.{findings-find, late_meets, passes-sound}
use Rattle.probes.specs.Composing.{Numbered, list_verdict}

pub numbered-append : (fs gs : List Found) → Numbered fs → Numbered gs → Numbered (fs ++ gs)
unfolding Numbered
numbered-append [] gs a b = b
numbered-append (f ∷ fs) gs (h, a) b = (h, numbered-append fs gs a b)

pub findings-numbered : (d : Bool) (Ts ps : List ℕ) → Numbered (findings d Ts ps)
unfolding Numbered findings
findings-numbered d Ts ps = (omega arith, (omega arith, (omega arith, (omega arith, (omega arith, (omega arith, tt))))))

pub list-numbered : (Ts ps ss : List ℕ) → Numbered (list_findings Ts ps ss)
unfolding Numbered list_findings
list-numbered Ts ps ss = numbered-append (findings _ Ts ps) (found 9 (length Ts) (lowest (late Ts ss) (length Ts)) ∷ []) (findings-numbered _ Ts ps) (omega arith, tt)

module _ {O : Type 0} where
  pub compose-done : (fs : List Found) (refuse : ℕ → ℕ → O) (o : O) → Numbered fs → (first_of fs refused done).number ≡ 0 → first_of fs refuse o ≡ o
  unfolding first_of Numbered
  compose-done [] refuse o n e = refl
  compose-done (f ∷ fs) refuse o (h, n) e = by (ltb f.place f.places) refl (compose-done fs refuse o n)
    where
      by : (b : Bool) → ltb f.place f.places ≡ b → ((first_of fs refused done).number ≡ 0 → first_of fs refuse o ≡ o)
          → pick (ltb f.place f.places) (refuse f.number f.place) (first_of fs refuse o) ≡ o
      by true t ih = absurd (omega (arith, rw t at e))
      by false t ih = rw t (ih (rw t at e))

  pub compose-refused : (fs : List Found) (refuse : ℕ → ℕ → O) (o : O) → ((first_of fs refused done).number ≡ 0 → ⊥)
      → first_of fs refuse o ≡ refuse (first_of fs refused done).number (first_of fs refused done).index
  unfolding first_of
  compose-refused [] refuse o n = absurd (n refl)
  compose-refused (f ∷ fs) refuse o n = by (ltb f.place f.places) refl (compose-refused fs refuse o)
    where
      by : (b : Bool) → ltb f.place f.places ≡ b
          → (((first_of fs refused done).number ≡ 0 → ⊥) → first_of fs refuse o ≡ refuse (first_of fs refused done).number (first_of fs refused done).index)
          → first_of (f ∷ fs) refuse o ≡ refuse (first_of (f ∷ fs) refused done).number (first_of (f ∷ fs) refused done).index
      by true t ih = rw t
      by false t ih = rw t (ih (λ z. n (rw t z)))

-- an answer that checks gave is the refusal of its own number and index
pub refusal_is : (fs : List Found) → first_of fs refused done ≡ refused (first_of fs refused done).number (first_of fs refused done).index
unfolding first_of
refusal_is [] = refl
refusal_is (f ∷ fs) = by (ltb f.place f.places) (refusal_is fs)
  where
    by : (b : Bool) → first_of fs refused done ≡ refused (first_of fs refused done).number (first_of fs refused done).index
        → pick b (refused f.number f.place) (first_of fs refused done)
        ≡ refused (pick b (refused f.number f.place) (first_of fs refused done)).number (pick b (refused f.number f.place) (first_of fs refused done)).index
    by true ih = refl
    by false ih = ih

pub list-find : (Ts ps ss : List ℕ) → AllFind (list_lines Ts ps ss) (list_findings Ts ps ss)
unfolding list_findings AllFind
list-find Ts ps ss =
    all-find-append (lines Ts ps (DifferThree Ts ps ss)) (late_line Ts ss ∷ []) (findings _ Ts ps) (found 9 (length Ts) (lowest (late Ts ss) (length Ts)) ∷ [])
    (findings-find Ts ps (DifferThree Ts ps ss) (either (not (eqb (length Ts) (length ss))) (not (eqb (length Ts) (length ps))))
    (tells-either (not (eqb (length Ts) (length ss))) (not (eqb (length Ts) (length ps))) (tells-not (eqb (length Ts) (length ss)) (tells-eq (length Ts) (length ss))) (tells-not (eqb (length Ts) (length ps)) (tells-eq (length Ts) (length ps)))))
    (record { number = refl; places = refl; place = late_meets Ts ss }, tt)

-- the ways out of the judge of a list
module _ (Ts ps ss : List ℕ) where
  pub list_differ : (length Ts ≡ length ss → ⊥) → refused 1 0 ≡ list_verdict Ts ps ss
  unfolding list_verdict list_findings findings first_of
  list_differ h = simp (ne_eqb _ _ h)

  module _ (same : length Ts ≡ length ss) where
    late-part : Answer
    late-part = first_of (found 9 (length Ts) (lowest (late Ts ss) (length Ts)) ∷ []) refused done

    split : list_verdict Ts ps ss ≡ first_of (findings (not (eqb (length Ts) (length ps))) Ts ps) refused late-part
    unfolding list_verdict list_findings late-part
    split = rw (eq-eqb _ _ same) (first-of-append (findings (not (eqb (length Ts) (length ps))) Ts ps) (found 9 (length Ts) (lowest (late Ts ss) (length Ts)) ∷ []) refused done)

    pub list-refused : (a : Answer) → a ≡ verdict Ts ps → (a.number ≡ 0 → ⊥) → a ≡ list_verdict Ts ps ss
    unfolding verdict
    list-refused a e n =
        e ∙ refusal_is (findings (not (eqb (length Ts) (length ps))) Ts ps)
        ∙ sym (split ∙ compose-refused (findings (not (eqb (length Ts) (length ps))) Ts ps) refused late-part (rw e at n))

    pub list-late : (a : Answer) (i : ℕ) → a ≡ verdict Ts ps → a.number ≡ 0 → i ≡ lowest (late Ts ss) (length Ts) → i < length Ts
        → refused 9 i ≡ list_verdict Ts ps ss
    unfolding verdict late-part first_of
    list-late a i e z f h =
        sym (split ∙ compose-done (findings (not (eqb (length Ts) (length ps))) Ts ps) refused late-part (findings-numbered _ Ts ps) (rw e at z)
        ∙ rw (← f, lt-ltb i (length Ts) h))

    pub list_done : (a : Answer) (i : ℕ) → a ≡ verdict Ts ps → a.number ≡ 0 → i ≡ lowest (late Ts ss) (length Ts) → length Ts ≤ i
        → done ≡ list_verdict Ts ps ss
    unfolding verdict late-part first_of
    list_done a i e z f h =
        sym (split ∙ compose-done (findings (not (eqb (length Ts) (length ps))) Ts ps) refused late-part (findings-numbered _ Ts ps) (rw e at z)
        ∙ rw (← f, le-ltb i (length Ts) h))

-- number 0 of the judge is done, and the table is sound
pub zero-sound : (Ts ps : List ℕ) (a : Answer) → a ≡ verdict Ts ps → a.number ≡ 0 → Sound Ts ps
unfolding verdict
zero-sound Ts ps a e z = passes-sound Ts ps (compose-done (findings (not (eqb (length Ts) (length ps))) Ts ps) refused done (findings-numbered _ Ts ps) (rw e at z))
