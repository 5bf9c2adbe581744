-- THE CHECKS OF THE THREE CALLS: what they find is what their lines ask for, and the ways out of their judges.
--     judged-refused, judged-passed     a judge that asks the table first, and then the checks gs
--     corner-find, start-find, plan-find    the checks find what the lines ask for
-- Assumes nothing.
use Rattle.std.specs.Prelude.{◌≡◌, refl, ◌⊎◌, Bool, not, true, false, List, [], ◌∷◌, ◌++◌, ℕ, ◌≤◌, ◌<◌, ltb, eqb}
use Rattle.std.proofs.Math.Path.{sym}
use Rattle.std.proofs.Common.{◌∙◌, eq-eqb, ne_eqb, lt-ltb, le-ltb}
use native.Mathlib.Omega.{arith}
use Rattle.std.proofs.Math.ListN.{length}
use Rattle.lists.specs.Pick.{either}
use Rattle.lists.specs.Telling.{tells-either, tells-not, tells-eq, tells-lt}
use Rattle.lists.specs.Lowest.{lowest-meets}
use Rattle.lists.specs.Refusals.{line, whole}
use Rattle.lists.specs.Answering.{Found, found, tested, first_of, first-of-append, AllFind, all-find-append, finds-whole}
use Rattle.words.specs.declared.Answer.{Answer}
use Rattle.words.specs.Answers.{refused, done}
use Rattle.probes.specs.Table.{lines, late_line, Differ, DifferThree, rows}
use Rattle.probes.specs.Verdict.{findings, verdict}
use Rattle.probes.proofs.Laws.{findings-find, late_meets}
use Rattle.probes.specs.Composing.{Numbered}
use Rattle.probes.proofs.Composing.{numbered-append, findings-numbered, compose-done, compose-refused, refusal_is}
use Rattle.chain.specs.Grid.{OffGridAt, off_grid}
use Rattle.chain.specs.Grid.{off-grid-tells}
use Rattle.stack.specs.FirstFit.{plan_lines, plan_findings}
use Rattle.admitting.specs.Admitting.{corner_lines, corner_last, corner_findings, DifferFour, start_lines, start_last, start_findings}

-- the judge of the table, and then the checks gs
module _ (Ts ps : List ℕ) (gs : List Found) where
  abbrev first_part : List Found
  first_part = findings (not (eqb (length Ts) (length ps))) Ts ps

  pub judged-refused : (a : Answer) → a ≡ verdict Ts ps → (a.number ≡ 0 → ⊥) → a ≡ first_of (first_part ++ gs) refused done
  unfolding verdict
  judged-refused a e n =
      e ∙ refusal_is first_part
      ∙ sym (first-of-append first_part gs refused done ∙ compose-refused first_part refused (first_of gs refused done) (rw e at n))

  pub judged-passed : (a : Answer) → a ≡ verdict Ts ps → a.number ≡ 0 → first_of (first_part ++ gs) refused done ≡ first_of gs refused done
  unfolding verdict
  judged-passed a e z = first-of-append first_part gs refused done ∙ compose-done first_part refused (first_of gs refused done) (findings-numbered _ Ts ps) (rw e at z)

-- the ways out behind the judge
module _ {O : Type 0} (gs : List Found) (refuse : ℕ → ℕ → O) (o : O) where
  pub short-way : (k : ℕ) (b : Bool) → b ≡ true → first_of (tested k b ∷ gs) refuse o ≡ refuse k 0
  unfolding first_of
  short-way k b e = rw e

  pub long-way : (k : ℕ) (b : Bool) → b ≡ false → first_of (tested k b ∷ gs) refuse o ≡ first_of gs refuse o
  unfolding first_of
  long-way k b e = rw e

pub place-way : (k n i : ℕ) → i < n → first_of (found k n i ∷ []) refused done ≡ refused k i
unfolding first_of
place-way k n i h = rw (lt-ltb i n h)

pub none-way : (k n i : ℕ) → n ≤ i → first_of (found k n i ∷ []) refused done ≡ done
unfolding first_of
none-way k n i h = rw (le-ltb i n h)

pub either_left : (a b : Bool) → a ≡ true → either a b ≡ true
either_left a b e = rw e

pub either-right : (a b : Bool) → b ≡ true → either a b ≡ true
either-right true b e = refl
either-right false b e = e

pub either-none : (a b : Bool) → a ≡ false → b ≡ false → either a b ≡ false
either-none a b e f = rw (e, f)

-- columns of one length
pub same_left : (n m : ℕ) (b : Bool) → n ≡ m → either (not (eqb n m)) b ≡ b
same_left n m b e = rw (eq-eqb n m e)

pub other-left : (n m : ℕ) (b : Bool) → (n ≡ m → ⊥) → either (not (eqb n m)) b ≡ true
other-left n m b e = rw (ne_eqb n m e)

-- number 1, before all others
pub differ-way : (Ts ps : List ℕ) (d : Bool) (gs : List Found) → d ≡ true → first_of (findings d Ts ps ++ gs) refused done ≡ refused 1 0
unfolding first_of findings
differ-way Ts ps d gs e = rw e

module _ (Ts ps ss xs ys : List ℕ) where
  pub corner-numbered : Numbered (corner_findings Ts ps ss xs ys)
  unfolding corner_findings Numbered
  corner-numbered = numbered-append (findings _ Ts ps) (corner_last Ts ps ss xs ys) (findings-numbered _ Ts ps) (omega arith, (omega arith, tt))

  pub corner-find : AllFind (corner_lines Ts ps ss xs ys) (corner_findings Ts ps ss xs ys)
  unfolding corner_findings AllFind
  corner-find =
      all-find-append (lines Ts ps (DifferThree Ts ps ss)) (whole 7 ((length xs < length Ts) ⊎ (length ys < length Ts)) ∷ late_line Ts ss ∷ []) (findings _ Ts ps) (corner_last Ts ps ss xs ys)
      (findings-find Ts ps (DifferThree Ts ps ss) _
      (tells-either (not (eqb (length Ts) (length ss))) (not (eqb (length Ts) (length ps))) (tells-not (eqb (length Ts) (length ss)) (tells-eq (length Ts) (length ss))) (tells-not (eqb (length Ts) (length ps)) (tells-eq (length Ts) (length ps))))) (
        finds-whole 7 _ _ (tells-either (ltb (length xs) (length Ts)) (ltb (length ys) (length Ts)) (tells-lt (length xs) (length Ts)) (tells-lt (length ys) (length Ts))),
        (record { number = refl; places = refl; place = late_meets Ts ss }, tt),
      )

module _ (Ts ps xs ys ss : List ℕ) where
  pub start-numbered : Numbered (start_findings Ts ps xs ys ss)
  unfolding start_findings Numbered
  start-numbered = numbered-append (findings _ Ts ps) (start_last Ts ps xs ys ss) (findings-numbered _ Ts ps) (omega arith, (omega arith, tt))

  pub start-find : AllFind (start_lines Ts ps xs ys ss) (start_findings Ts ps xs ys ss)
  unfolding start_findings AllFind
  start-find =
      all-find-append (lines Ts ps (DifferFour Ts ps xs ys ss)) (whole 7 (length ss < length Ts) ∷ line 18 (length Ts) (OffGridAt Ts xs ys) ∷ []) (findings _ Ts ps) (start_last Ts ps xs ys ss)
      (findings-find Ts ps (DifferFour Ts ps xs ys ss) _
      (tells-either (not (eqb (length Ts) (length xs))) _ (tells-not (eqb (length Ts) (length xs)) (tells-eq (length Ts) (length xs)))
      (tells-either (not (eqb (length Ts) (length ys))) (not (eqb (length Ts) (length ps))) (tells-not (eqb (length Ts) (length ys)) (tells-eq (length Ts) (length ys))) (tells-not (eqb (length Ts) (length ps)) (tells-eq (length Ts) (length ps)))))) (
        finds-whole 7 _ _ (tells-lt (length ss) (length Ts)),
        (record { number = refl; places = refl; place = lowest-meets (off_grid Ts xs ys) (OffGridAt Ts xs ys) (length Ts) (λ i h. off-grid-tells Ts xs ys i) }, tt),
      )

module _ (Ts ps ss fs : List ℕ) where
  abbrev pub plan_last : List Found
  plan_last = tested 7 (either (ltb (length ss) (length Ts)) (ltb (length fs) (rows Ts))) ∷ []

  pub plan-numbered : Numbered (plan_findings Ts ps ss fs)
  unfolding plan_findings Numbered
  plan-numbered = numbered-append (findings _ Ts ps) plan_last (findings-numbered _ Ts ps) (omega arith, tt)

  pub plan-find : AllFind (plan_lines Ts ps ss fs) (plan_findings Ts ps ss fs)
  unfolding plan_findings AllFind
  plan-find =
      all-find-append (lines Ts ps (Differ Ts ps)) (whole 7 ((length ss < length Ts) ⊎ (length fs < rows Ts)) ∷ []) (findings _ Ts ps) plan_last
      (findings-find Ts ps (Differ Ts ps) _ (tells-not (eqb (length Ts) (length ps)) (tells-eq (length Ts) (length ps))))
      (finds-whole 7 _ _ (tells-either (ltb (length ss) (length Ts)) (ltb (length fs) (rows Ts)) (tells-lt (length ss) (length Ts)) (tells-lt (length fs) (rows Ts))), tt)
