-- THE WAYS OUT of the three judges of this crate: what the tests on the way showed, as plain facts, and the answer that they make.
-- Assumes nothing.
use Rattle.std.specs.Prelude.{◌≡◌, Bool, not, ℕ, ◌≤◌, ◌<◌, ltb, eqb, length}
use Rattle.std.proofs.Math.Path.{sym, ap}
use Rattle.std.proofs.Common.{◌∙◌, lt-ltb, le-ltb}
use mathlib.Core.List.{List, [], ◌∷◌, ◌++◌}
use Rattle.lists.specs.Lowest.{lowest}
use Rattle.lists.specs.Answering.{found, first_of}
use Rattle.words.specs.declared.Answer.{Answer}
use Rattle.words.specs.Answers.{refused, done}
use Rattle.probes.specs.Table.{rows}
use Rattle.probes.specs.Verdict.{findings, late, verdict}
use Rattle.chain.specs.Grid.{off_grid}
use Rattle.stack.specs.FirstFit.{plan_findings}
use Rattle.admitting.specs.Admitting.{corner_last, corner_findings, start_last, start_findings}
use Rattle.admitting.specs.Checks.{judged-refused, judged-passed, short-way, long-way, place-way, none-way, either_left, either-right, either-none, same_left, other-left, differ-way, plan_last}

module _ (Ts ps ss xs ys : List ℕ) where
  pub corners-differ : (length Ts ≡ length ss → ⊥) → refused 1 0 ≡ first_of (corner_findings Ts ps ss xs ys) refused done
  unfolding corner_findings
  corners-differ n = sym (differ-way Ts ps _ (corner_last Ts ps ss xs ys) (other-left (length Ts) (length ss) (not (eqb (length Ts) (length ps))) n))

  module _ (same : length Ts ≡ length ss) (a : Answer) (e : a ≡ verdict Ts ps) where
    plain : corner_findings Ts ps ss xs ys ≡ findings (not (eqb (length Ts) (length ps))) Ts ps ++ corner_last Ts ps ss xs ys
    unfolding corner_findings
    plain = ap (λ (d : Bool). findings d Ts ps ++ corner_last Ts ps ss xs ys) (same_left (length Ts) (length ss) (not (eqb (length Ts) (length ps))) same)

    pub corners-refused : (a.number ≡ 0 → ⊥) → a ≡ first_of (corner_findings Ts ps ss xs ys) refused done
    corners-refused n = rw plain (judged-refused Ts ps (corner_last Ts ps ss xs ys) a e n)

    module _ (z : a.number ≡ 0) where
      on : first_of (corner_findings Ts ps ss xs ys) refused done ≡ first_of (corner_last Ts ps ss xs ys) refused done
      on = rw plain (judged-passed Ts ps (corner_last Ts ps ss xs ys) a e z)

      pub corners-short-x : length xs < length Ts → refused 7 0 ≡ first_of (corner_findings Ts ps ss xs ys) refused done
      corners-short-x h = sym (on ∙ short-way _ refused done 7 _ (either_left _ _ (lt-ltb (length xs) (length Ts) h)))

      pub corners-short-y : length ys < length Ts → refused 7 0 ≡ first_of (corner_findings Ts ps ss xs ys) refused done
      corners-short-y h = sym (on ∙ short-way _ refused done 7 _ (either-right (ltb (length xs) (length Ts)) _ (lt-ltb (length ys) (length Ts) h)))

      module _ (long-x : length Ts ≤ length xs) (long-y : length Ts ≤ length ys) (i : ℕ) (f : i ≡ lowest (late Ts ss) (length Ts)) where
        past : first_of (corner_findings Ts ps ss xs ys) refused done ≡ first_of (found 9 (length Ts) i ∷ []) refused done
        past = on ∙ long-way _ refused done 7 _ (either-none _ _ (le-ltb (length xs) (length Ts) long-x) (le-ltb (length ys) (length Ts) long-y)) ∙ rw f

        pub corners-late : i < length Ts → refused 9 i ≡ first_of (corner_findings Ts ps ss xs ys) refused done
        corners-late h = sym (past ∙ place-way 9 (length Ts) i h)

        pub corners-pass : length Ts ≤ i → done ≡ first_of (corner_findings Ts ps ss xs ys) refused done
        corners-pass h = sym (past ∙ none-way 9 (length Ts) i h)

module _ (Ts ps xs ys ss : List ℕ) where
  pub starts-differ-x : (length Ts ≡ length xs → ⊥) → refused 1 0 ≡ first_of (start_findings Ts ps xs ys ss) refused done
  unfolding start_findings
  starts-differ-x n = sym (differ-way Ts ps _ (start_last Ts ps xs ys ss) (other-left (length Ts) (length xs) _ n))

  module _ (same-x : length Ts ≡ length xs) where
    pub starts-differ-y : (length Ts ≡ length ys → ⊥) → refused 1 0 ≡ first_of (start_findings Ts ps xs ys ss) refused done
    unfolding start_findings
    starts-differ-y n = sym (differ-way Ts ps _ (start_last Ts ps xs ys ss) (same_left (length Ts) (length xs) _ same-x ∙ other-left (length Ts) (length ys) _ n))

    module _ (same-y : length Ts ≡ length ys) (a : Answer) (e : a ≡ verdict Ts ps) where
      plain-starts : start_findings Ts ps xs ys ss ≡ findings (not (eqb (length Ts) (length ps))) Ts ps ++ start_last Ts ps xs ys ss
      unfolding start_findings
      plain-starts = ap (λ (d : Bool). findings d Ts ps ++ start_last Ts ps xs ys ss) (same_left (length Ts) (length xs) _ same-x ∙ same_left (length Ts) (length ys) _ same-y)

      pub starts-refused : (a.number ≡ 0 → ⊥) → a ≡ first_of (start_findings Ts ps xs ys ss) refused done
      starts-refused n = rw plain-starts (judged-refused Ts ps (start_last Ts ps xs ys ss) a e n)

      module _ (z : a.number ≡ 0) where
        on-starts : first_of (start_findings Ts ps xs ys ss) refused done ≡ first_of (start_last Ts ps xs ys ss) refused done
        on-starts = rw plain-starts (judged-passed Ts ps (start_last Ts ps xs ys ss) a e z)

        pub starts-short : length ss < length Ts → refused 7 0 ≡ first_of (start_findings Ts ps xs ys ss) refused done
        starts-short h = sym (on-starts ∙ short-way _ refused done 7 _ (lt-ltb (length ss) (length Ts) h))

        module _ (long : length Ts ≤ length ss) (i : ℕ) (f : i ≡ lowest (off_grid Ts xs ys) (length Ts)) where
          past-starts : first_of (start_findings Ts ps xs ys ss) refused done ≡ first_of (found 18 (length Ts) i ∷ []) refused done
          past-starts = on-starts ∙ long-way _ refused done 7 _ (le-ltb (length ss) (length Ts) long) ∙ rw f

          pub starts-off : i < length Ts → refused 18 i ≡ first_of (start_findings Ts ps xs ys ss) refused done
          starts-off h = sym (past-starts ∙ place-way 18 (length Ts) i h)

          pub starts-pass : length Ts ≤ i → done ≡ first_of (start_findings Ts ps xs ys ss) refused done
          starts-pass h = sym (past-starts ∙ none-way 18 (length Ts) i h)

module _ (Ts ps ss fs : List ℕ) (a : Answer) (e : a ≡ verdict Ts ps) where
  pub plan-refused : (a.number ≡ 0 → ⊥) → a ≡ first_of (plan_findings Ts ps ss fs) refused done
  unfolding plan_findings
  plan-refused n = judged-refused Ts ps (plan_last Ts ps ss fs) a e n

  module _ (z : a.number ≡ 0) where
    on-plan : first_of (plan_findings Ts ps ss fs) refused done ≡ first_of (plan_last Ts ps ss fs) refused done
    unfolding plan_findings
    on-plan = judged-passed Ts ps (plan_last Ts ps ss fs) a e z

    pub plan-short-s : length ss < length Ts → refused 7 0 ≡ first_of (plan_findings Ts ps ss fs) refused done
    plan-short-s h = sym (on-plan ∙ short-way [] refused done 7 _ (either_left _ _ (lt-ltb (length ss) (length Ts) h)))

    pub plan-short-f : length fs < rows Ts → refused 7 0 ≡ first_of (plan_findings Ts ps ss fs) refused done
    plan-short-f h = sym (on-plan ∙ short-way [] refused done 7 _ (either-right (ltb (length ss) (length Ts)) _ (lt-ltb (length fs) (rows Ts) h)))

    pub plan-pass : length Ts ≤ length ss → rows Ts ≤ length fs → done ≡ first_of (plan_findings Ts ps ss fs) refused done
    unfolding first_of
    plan-pass g h = sym (on-plan ∙ long-way [] refused done 7 _ (either-none _ _ (le-ltb (length ss) (length Ts) g) (le-ltb (length fs) (rows Ts) h)))
