-- WHAT THE PLANNER DOES TO A SOUND TABLE WITH ROOM FOR THE RESULT. Document 01, "First fit".
--     plan-placed           it is first fit
--     plan-follows          first fit over rows, and nothing else
--     plan-ended            it ends with 0, or with 8 at the probe where first fit stops
-- Assumes nothing.
use Rattle.std.specs.Prelude.{◌≡◌, refl, ◌↔◌, ◌⊎◌, Bool, true, false, List, [], ◌∷◌, ◌++◌, ℕ, ◌*◌, ◌≤◌, ◌<◌, ltb, get_or, set, replicate}
use Rattle.std.proofs.Common.{sym, ◌∙◌, inl, inr, arith}
use Rattle.std.proofs.Math.Path.{ap}
use Rattle.std.proofs.Math.Logic.{⊎_elim}
use Rattle.std.proofs.Math.ListN.{length, drop}
use Rattle.lists.specs.Pick.{pick}
use Rattle.lists.specs.Refusals.{Silents, whole, first_rest}
use Rattle.words.specs.Answers.{refused, done}
use Rattle.probes.specs.Table.{Sound, lines, Differ, rows, height, widths}
use Rattle.probes.proofs.Widths.{widths-none}
use Rattle.order.specs.Order.{order}
use Rattle.stack.specs.Stack.{raised, bins}
use Rattle.stack.specs.FirstFit.{Outcome, outcome, marked, bin_of, start_in, fitted, plan_lines, refused_plan, placed}
use Rattle.stack.specs.Follows.{Follows, follows-fitted, follows-unique}
use Rattle.stack.specs.Eight.{StopsAt, eight-sound}
use Rattle.rectangles.specs.Plan.{Plans}
use Rattle.rectangles.specs.Sound.{silents-append}

-- first fit ends with 0, or with 8
fitted-ended : (Ts qs is ss fs : List ℕ) → ((fitted Ts qs is ss fs).answer ≡ done) ⊎ ((i : ℕ) × ((fitted Ts qs is ss fs).answer ≡ refused 8 i))
unfolding fitted
fitted-ended Ts qs [] ss fs = inl refl
fitted-ended Ts qs (i ∷ is) ss fs =
    by (ltb (bin_of Ts qs i fs) (bins fs (height Ts (get_or Ts i 0)))) _
    (fitted-ended Ts qs is (set ss i (start_in Ts qs i fs (bin_of Ts qs i fs))) (raised fs (bin_of Ts qs i fs * height Ts (get_or Ts i 0)) (height Ts (get_or Ts i 0)) (get_or qs i 0)))
  where
    stuck : Outcome
    stuck = outcome (refused 8 i) (marked (i ∷ is) ss) fs

    by : (b : Bool) (o : Outcome) → (o.answer ≡ done) ⊎ ((k : ℕ) × (o.answer ≡ refused 8 k)) → ((pick b o stuck).answer ≡ done) ⊎ ((k : ℕ) × ((pick b o stuck).answer ≡ refused 8 k))
    by true o h = h
    by false o h = inr (i, refl)

module _ (Ts ps ss fs : List ℕ) (sound : Sound Ts ps) (long-s : length Ts ≤ length ss) (long-f : rows Ts ≤ length fs) (o : Outcome) (p : Plans Ts ps ss fs o) where
  pub plan-placed : o ≡ placed Ts ps ss fs
  unfolding Plans Silents
  plan-placed =
      first_rest (plan_lines Ts ps ss fs) (refused_plan Ts ps ss fs) (λ r. r ≡ placed Ts ps ss fs) o
      (silents-append (lines Ts ps (Differ Ts ps)) (whole 7 ((length ss < length Ts) ⊎ (length fs < rows Ts)) ∷ []) sound ((λ i h. ⊎_elim (λ c. omega arith) (λ c. omega arith)), tt))
      p

  -- what first fit gives: its rows are the fills that are written
  abbrev fit : Outcome
  fit = fitted Ts ps (order Ts ps) ss (replicate (rows Ts) 0)

  fit_is : fitted Ts (widths 0 ps) (order Ts ps) ss (replicate (rows Ts) 0) ≡ fit
  fit_is = ap (λ (qs : List ℕ). fitted Ts qs (order Ts ps) ss (replicate (rows Ts) 0)) (widths-none ps)

  plan-fit : o ≡ outcome fit.answer fit.starts (fit.fills ++ drop (rows Ts) fs)
  unfolding placed
  plan-fit = plan-placed ∙ ap (λ (r : Outcome). outcome r.answer r.starts (r.fills ++ drop (rows Ts) fs)) fit_is

  pub plan-fills : o.fills ≡ fit.fills ++ drop (rows Ts) fs
  plan-fills = ap (λ (r : Outcome). r.fills) plan-fit

  written : outcome o.answer o.starts fit.fills ≡ fit
  written = ap (λ (r : Outcome). outcome r.answer r.starts fit.fills) plan-fit

  pub plan-follows : (r : Outcome) → Follows Ts ps (order Ts ps) ss (replicate (rows Ts) 0) r ↔ (r ≡ outcome o.answer o.starts fit.fills)
  plan-follows r = (
    λ f. follows-unique Ts ps (order Ts ps) ss (replicate (rows Ts) 0) r f ∙ sym written,
    λ e. rw (e ∙ written) (follows-fitted Ts ps (order Ts ps) ss (replicate (rows Ts) 0)),
  )

  pub plan-ended : (o.answer ≡ done) ⊎ ((i : ℕ) × (o.answer ≡ refused 8 i) × StopsAt Ts ps (order Ts ps) ss (replicate (rows Ts) 0) i)
  plan-ended = by (fitted-ended Ts ps (order Ts ps) ss (replicate (rows Ts) 0))
    where
      same : o.answer ≡ fit.answer
      same = ap (λ (r : Outcome). r.answer) plan-fit

      by : (fit.answer ≡ done) ⊎ ((i : ℕ) × (fit.answer ≡ refused 8 i)) → (o.answer ≡ done) ⊎ ((i : ℕ) × (o.answer ≡ refused 8 i) × StopsAt Ts ps (order Ts ps) ss (replicate (rows Ts) 0) i)
      by (inl e) = inl (same ∙ e)
      by (inr (i, e)) = inr (i, same ∙ e, (eight-sound Ts ps (order Ts ps) ss (replicate (rows Ts) 0) i e).0)
