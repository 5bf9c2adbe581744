-- THE PLANNER'S JUDGE: each way out, and what its done gives.
--     refused_first                  a refusal by 1 to 6
--     short_starts, short_fills      a column that is too short
--     passed                         neither
--     ready, sound                   and what is so where the judge is done
--     ways                           all of these
--     refused_plan, ended_plan       how the planner then meets its promise
-- Assumes nothing.
use Rattle.std.specs.Prelude.{◌≡◌, refl, List, ◌++◌, ℕ, ◌≤◌, ◌<◌, length, replicate, drop}
use Rattle.lists.specs.Answering.{first_of}
use Rattle.words.specs.declared.Answer.{Answer}
use Rattle.words.specs.Answers.{refused, done}
use Rattle.words.specs.Refused.{refusal}
use Rattle.words.specs.declared.refusals.Refusal.{Refusal}
use Rattle.words.proofs.Refused.{refusal-not-done}
use Rattle.probes.specs.Table.{rows}
use Rattle.probes.specs.Verdict.{verdict}
use Rattle.probes.specs.Laws.{Soundness}
use Rattle.probes.proofs.Laws.{sound-gives}
use Rattle.order.specs.Order.{order}
use Rattle.stack.specs.FirstFit.{plan_findings, outcome, fitted}
use Rattle.admitting.specs.Ways.{plan-refused, plan-short-s, plan-short-f, plan-pass}
use Rattle.rectangles.specs.Plan.{Plans}
use Rattle.rectangles.specs.Ends.{PlanReady, plan-ready, plan-refused-end, plan-end}

module _ (Ts ps ss fs : List ℕ) where
  pub refused_first : (r : Refusal) → refusal r ≡ verdict Ts ps → refusal r ≡ first_of (plan_findings Ts ps ss fs) refused done
  refused_first r e = plan-refused Ts ps ss fs (refusal r) e (refusal-not-done r)

  module _ (e : done ≡ verdict Ts ps) where
    pub short_starts : length ss < length Ts → refused 7 0 ≡ first_of (plan_findings Ts ps ss fs) refused done
    short_starts h = plan-short-s Ts ps ss fs done e refl h

    pub short_fills : length fs < rows Ts → refused 7 0 ≡ first_of (plan_findings Ts ps ss fs) refused done
    short_fills h = plan-short-f Ts ps ss fs done e refl h

    module _ (g : length Ts ≤ length ss) (h : rows Ts ≤ length fs) where
      pub passed : done ≡ first_of (plan_findings Ts ps ss fs) refused done
      passed = plan-pass Ts ps ss fs done e refl g h

      pub ready : PlanReady Ts ps ss fs
      ready = plan-ready Ts ps ss fs done passed refl

      pub sound : Soundness Ts ps
      sound = sound-gives Ts ps ready.sound

  pub refused_plan : (r : Refusal) → refusal r ≡ first_of (plan_findings Ts ps ss fs) refused done → Plans Ts ps ss fs (outcome (refusal r) ss fs)
  refused_plan r e = plan-refused-end Ts ps ss fs (refusal r) e (refusal-not-done r)

  pub ended_plan : (m k : ℕ) (a : Answer) (zs gs cs : List ℕ) → done ≡ first_of (plan_findings Ts ps ss fs) refused done → m ≡ rows Ts → k ≡ rows Ts → cs ≡ replicate k 0
      → outcome a zs gs ≡ fitted Ts ps (order Ts ps) ss cs → Plans Ts ps ss fs (outcome a zs (gs ++ drop m fs))
  ended_plan m k a zs gs cs e d f z g = plan-end Ts ps ss fs done e refl m d a zs gs cs g (rw f at z)

pub ruleset ways = (refused_first, short_starts, short_fills, passed, ready, sound)
