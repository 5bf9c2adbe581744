-- What follows from the definitions of specs/Programs.
--     never-done-no-planner     one that never says 0 is no planner
--     same-starts-no-planner    nor is one whose starts hang on the lent column alone: the same starts, or the column untouched
--     same-fills-no-planner     nor one whose fills hang on the lent column alone
--     marks-no-planner          nor one that only marks the probes behind the first in planning order
--     one-verdict-no-checker    one with one number for all lists is no checker
--     shared-tick-real          what a checker names with 10 is the first tick that the two probes share
-- Assumes nothing.
use Rattle.std.specs.Prelude.{◌≡◌, ◌≢◌, ℕ, ◌%◌, ◌<◌, length}
use Rattle.std.proofs.Math.Path.{refl, sym, ap}
use Rattle.std.proofs.Common.{◌∙◌, inl, inr}
use mathlib.Core.List.{List, [], ◌∷◌}
use native.Mathlib.Omega.{arith}
use Rattle.std.proofs.Math.ListN.{get_or}
use Rattle.lists.specs.Pick.{In, any_below}
use Rattle.lists.specs.Lowest.{lowest, lowest_from}
use Rattle.lists.specs.Refusals.{first_rest, first-silents}
use Rattle.lists.specs.Answering.{first_of}
use Rattle.words.specs.declared.Answer.{Answer}
use Rattle.words.specs.Answers.{refused, mark}
use Rattle.wire.specs.CleanTest.{FirstSharedAt}
use Rattle.probes.specs.Table.{least_of, greatest_of, shortest, longest, rows, height, widths, list_lines}
use Rattle.probes.specs.Verdict.{divides, chained, bad_period, bad_length, unchained, findings}
use Rattle.probes.proofs.Widths.{widths-none}
use Rattle.order.specs.Order.{before, insert, order_below, order}
use Rattle.stack.specs.Stack.{raised, fits, bins, lowest_bin}
use Rattle.stack.specs.FirstFit.{Outcome, marked, bin_of, start_in, fitted, plan_findings, placed, planned}
use Rattle.rectangles.specs.Checks.{planned-meets}
use Rattle.lists.specs.Standing.{stands}
use Rattle.lists.specs.Standing.{not_in}
use Rattle.rectangles.proofs.Promises.{plan-unique}
use Rattle.meetings.specs.Check.{Judged, Checks}
use Rattle.meetings.proofs.Promises.{check-unique}
use Rattle.shut_out.specs.Starts.{start-x}
use Rattle.shut_out.proofs.Check.{check-shuts-out}
use Rattle.shut_out.specs.Programs.{Planner, Checker}

-- periods 10, 10 with the columns 7777, 7777 and 7777 lent, and these lengths
abbrev pair_of : List ℕ → Outcome
pair_of ps = planned (10 ∷ 10 ∷ []) ps (7777 ∷ 7777 ∷ []) (7777 ∷ [])

module _ (f : List ℕ → List ℕ → List ℕ → List ℕ → Outcome) (meets : Planner f) where
  is : (ps : List ℕ) → f (10 ∷ 10 ∷ []) ps (7777 ∷ 7777 ∷ []) (7777 ∷ []) ≡ pair_of ps
  is ps = plan-unique _ _ _ _ _ _ (meets (10 ∷ 10 ∷ []) ps (7777 ∷ 7777 ∷ []) (7777 ∷ [])) (planned-meets _ _ _ _)

  -- 6 and 4 both fit
  pub never-done-no-planner : ((Ts ps ss fs : List ℕ) → (f Ts ps ss fs).answer.number ≢ 0) → ⊥
  unfolding any_below lowest lowest_from first_of least_of greatest_of shortest longest rows height widths divides chained bad_period bad_length unchained findings before insert order_below order raised fits bins lowest_bin marked bin_of start_in fitted plan_findings placed planned
  never-done-no-planner never = never _ _ _ _ (ap (λ (o : Outcome). o.answer.number) (is (6 ∷ 4 ∷ [])))

  -- of 6 and 5 the second is marked, of 6 and 4 it gets the start 6
  sixth : get_or (f (10 ∷ 10 ∷ []) (6 ∷ 4 ∷ []) (7777 ∷ 7777 ∷ []) (7777 ∷ [])).starts 1 0 % 10 ≡ 6
  unfolding any_below lowest lowest_from first_of least_of greatest_of shortest longest rows height widths divides chained bad_period bad_length unchained findings before insert order_below order raised fits bins lowest_bin marked bin_of start_in fitted plan_findings placed planned
  sixth = ap (λ (o : Outcome). get_or o.starts 1 0 % 10) (is (6 ∷ 4 ∷ [])) ∙ start-x (10 ∷ 10 ∷ []) 10 6 0

  stuck : get_or (f (10 ∷ 10 ∷ []) (6 ∷ 5 ∷ []) (7777 ∷ 7777 ∷ []) (7777 ∷ [])).starts 1 0 ≡ mark
  unfolding any_below lowest lowest_from first_of least_of greatest_of shortest longest rows height widths divides chained bad_period bad_length unchained findings before insert order_below order raised fits bins lowest_bin marked bin_of start_in fitted plan_findings placed planned
  stuck = ap (λ (o : Outcome). get_or o.starts 1 0) (is (6 ∷ 5 ∷ []))

  pub same-starts-no-planner : (g : List ℕ → List ℕ) → ((Ts ps ss fs : List ℕ) → (f Ts ps ss fs).starts ≡ g ss) → ⊥
  same-starts-no-planner g same =
      let e : get_or (g (7777 ∷ 7777 ∷ [])) 1 0 ≡ mark = rw (same (10 ∷ 10 ∷ []) (6 ∷ 5 ∷ []) (7777 ∷ 7777 ∷ []) (7777 ∷ [])) at stuck in
      let h : get_or (g (7777 ∷ 7777 ∷ [])) 1 0 % 10 ≡ 6 = rw (same (10 ∷ 10 ∷ []) (6 ∷ 4 ∷ []) (7777 ∷ 7777 ∷ []) (7777 ∷ [])) at sixth in
      omega arith

  -- the fill is 6 in the one, and 10 in the other
  pub same-fills-no-planner : (g : List ℕ → List ℕ) → ((Ts ps ss fs : List ℕ) → (f Ts ps ss fs).fills ≡ g fs) → ⊥
  unfolding any_below lowest lowest_from first_of least_of greatest_of shortest longest rows height widths divides chained bad_period bad_length unchained findings before insert order_below order raised fits bins lowest_bin marked bin_of start_in fitted plan_findings placed planned
  same-fills-no-planner g same =
      let low : get_or (g (7777 ∷ [])) 0 0 ≡ 6 = ap (λ (l : List ℕ). get_or l 0 0) (sym (same _ _ _ _) ∙ ap (λ (o : Outcome). o.fills) (is (6 ∷ 5 ∷ []))) in
      let high : get_or (g (7777 ∷ [])) 0 0 ≡ 10 = ap (λ (l : List ℕ). get_or l 0 0) (sym (same _ _ _ _) ∙ ap (λ (o : Outcome). o.fills) (is (6 ∷ 4 ∷ []))) in
      omega arith

  pub marks-no-planner : ((Ts ps ss fs : List ℕ) (k : ℕ) → 0 < k → k < length Ts → get_or (f Ts ps ss fs).starts (get_or (order Ts ps) k 0) 0 ≡ mark) → ⊥
  unfolding before insert order_below order
  marks-no-planner marks =
      let behind : 0 < 1 = omega arith in
      let probe : 1 < 2 = omega arith in
      let e : get_or (f (10 ∷ 10 ∷ []) (6 ∷ 4 ∷ []) (7777 ∷ 7777 ∷ []) (7777 ∷ [])).starts 1 0 ≡ mark = marks (10 ∷ 10 ∷ []) (6 ∷ 4 ∷ []) (7777 ∷ 7777 ∷ []) (7777 ∷ []) 1 behind probe in
      omega (arith, sixth)

pub one-verdict-no-checker : (f : List ℕ → List ℕ → List ℕ → Answer) → Checker f → (k : ℕ) → ((Ts ps ss : List ℕ) → (f Ts ps ss).number ≡ k) → ⊥
one-verdict-no-checker f meets k same =
    let meet = ap (λ (r : Answer). r.number) (check-unique _ _ _ _ _ (meets _ _ _) check-shuts-out.0.0) in
    let clean = ap (λ (r : Answer). r.number) (check-unique _ _ _ _ _ (meets _ _ _) check-shuts-out.1.0.0) in
    omega (arith, sym (same _ _ _) ∙ meet, sym (same _ _ _) ∙ clean)

module _ (f : List ℕ → List ℕ → List ℕ → Answer) (meets : Checker f) (Ts ps ss : List ℕ) (ten : (f Ts ps ss).number ≡ 10) where
  judged : Judged Ts (widths 0 ps) ss (f Ts ps ss)
  unfolding Checks stands
  judged =
      let other : (k i : ℕ) → In k (1 ∷ 2 ∷ 3 ∷ 4 ∷ 5 ∷ 6 ∷ 9 ∷ []) → f Ts ps ss ≡ refused k i → ⊥ = λ k i h e.
      let same : 10 ≡ k = sym ten ∙ ap (λ (r : Answer). r.number) e in
      not_in 10 (1 ∷ 2 ∷ 3 ∷ 4 ∷ 5 ∷ 6 ∷ 9 ∷ []) refl (rw (← same) at h) in
      first_rest (list_lines Ts ps ss) refused (Judged Ts (widths 0 ps) ss) (f Ts ps ss) (first-silents (list_lines Ts ps ss) refused (Judged Ts (widths 0 ps) ss) (f Ts ps ss) other (meets Ts ps ss)) (meets Ts ps ss)

  pub shared-tick-real : FirstSharedAt Ts ps ss (f Ts ps ss).index (f Ts ps ss).second (f Ts ps ss).tick
  unfolding Judged
  shared-tick-real = by judged
    where
      by : Judged Ts (widths 0 ps) ss (f Ts ps ss) → FirstSharedAt Ts ps ss (f Ts ps ss).index (f Ts ps ss).second (f Ts ps ss).tick
      by (inl (c, e)) = absurd (omega (arith, ten, ap (λ (r : Answer). r.number) e))
      by (inr (i, j, t, m, e)) = rw e (rw (widths-none ps) at m.shared)
