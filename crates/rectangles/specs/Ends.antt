-- THE ENDS OF THE THREE CALLS: what a passed judge gives, and how answer and columns then meet the promise.
--     CornersReady, StartsReady, PlanReady     what a judge that answers 0 gives
--     corners-end, starts-end, plan-end        a refusal leaves the columns; else they are what the definitions say
-- Assumes nothing.
use Rattle.std.specs.Prelude.{◌≡◌, refl, ◌⊎◌, List, [], ◌∷◌, ◌++◌, ℕ, ◌≤◌, ◌<◌, length, get_or, replicate}
use Rattle.std.proofs.Math.Path.{sym, ap}
use Rattle.std.proofs.Common.{◌∙◌, inl, inr, arith}
use Rattle.std.proofs.Math.ListN.{drop}
use Rattle.lists.specs.Pick.{In}
use Rattle.lists.specs.Standing.{stands, not_in}
use Rattle.lists.specs.Refusals.{Silents, line, whole, first-silents, first_rest}
use Rattle.lists.specs.Answering.{Found, first_of}
use Rattle.lists.specs.Counted.{filled}
use Rattle.words.specs.declared.Answer.{Answer}
use Rattle.words.specs.Answers.{refused, done}
use Rattle.probes.specs.Table.{Differ, DifferThree, lines, late_line, Sound, rows, widths}
use Rattle.probes.proofs.Widths.{widths-none}
use Rattle.probes.proofs.Passed.{silent-if, silents-left, silents-right, sound-with, below_of, at_most, equal}
use Rattle.probes.specs.Composing.{Numbered}
use Rattle.probes.proofs.Composing.{compose-done, compose-refused, refusal_is}
use Rattle.chain.specs.CornerLaws.{OnGrid}
use Rattle.chain.proofs.CornerLaws.{grid-complete}
use Rattle.chain.specs.Grid.{x_at, y_at, start_at, OffGridAt}
use Rattle.order.specs.Order.{order}
use Rattle.stack.specs.FirstFit.{Outcome, outcome, fitted, plan_lines, plan_findings, refused_plan, placed, planned}
use Rattle.rectangles.specs.Converting.{Corners, corners, corner_lines, corner_findings, refused_corners, done_corners, ToCorners, corners_of, DifferFour, Starts, as_starts, start_lines, start_findings, refused_starts, done_starts, ToStarts, starts_of}
use Rattle.rectangles.specs.Plan.{Plans}
use Rattle.admitting.specs.Checks.{corner-numbered, corner-find, start-numbered, start-find, plan-numbered, plan-find}
use Rattle.rectangles.specs.Checks.{corners-meet, starts-meet, planned-meets}

module _ {O : Type 0} (fs : List Found) (refuse : ℕ → ℕ → O) (o : O) (a : Answer) (e : a ≡ first_of fs refused done) where
  refused_end : (wrap : Answer → O) → ((k i : ℕ) → refuse k i ≡ wrap (refused k i)) → (a.number ≡ 0 → ⊥) → wrap a ≡ first_of fs refuse o
  refused_end wrap same n =
      ap wrap (e ∙ refusal_is fs) ∙ sym (same (first_of fs refused done).number (first_of fs refused done).index) ∙ sym (compose-refused fs refuse o (rw e at n))

  done_end : Numbered fs → a.number ≡ 0 → (a ≡ done) × (first_of fs refuse o ≡ o)
  done_end m z = (e ∙ compose-done fs refused done m (rw e at z), compose-done fs refuse o m (rw e at z))

pub record CornersReady (Ts ps ss xs ys : List ℕ) : Type 0 where
  pub sound : Sound Ts ps
  pub same : length Ts ≡ length ss
  pub long-x : length Ts ≤ length xs
  pub long-y : length Ts ≤ length ys
  pub below : (i : ℕ) → i < length Ts → get_or ss i 0 < get_or Ts i 0

corners-given : (Ts ps ss xs ys : List ℕ) → Silents (corner_lines Ts ps ss xs ys) → CornersReady Ts ps ss xs ys
unfolding Silents
corners-given Ts ps ss xs ys s =
    let l = silents-left (lines Ts ps (DifferThree Ts ps ss)) (whole 7 ((length xs < length Ts) ⊎ (length ys < length Ts)) ∷ late_line Ts ss ∷ []) s in
    let r = silents-right (lines Ts ps (DifferThree Ts ps ss)) (whole 7 ((length xs < length Ts) ⊎ (length ys < length Ts)) ∷ late_line Ts ss ∷ []) s in
    record {
      sound = sound-with Ts ps (DifferThree Ts ps ss) inr l;
      same = equal (length Ts) (length ss) (λ d. l.0 0 (omega arith) (inl d));
      long-x = at_most (length Ts) (length xs) (λ h. r.0 0 (omega arith) (inl h));
      long-y = at_most (length Ts) (length ys) (λ h. r.0 0 (omega arith) (inr h));
      below = below_of Ts ss r.1.0;
    }

-- a result with number 0 is the done one, and the judge passed
pub silent-corners : (Ts ps ss xs ys : List ℕ) (o : Corners) → ToCorners Ts ps ss xs ys o → o.answer.number ≡ 0 → (o ≡ done_corners Ts ps ss xs ys) × CornersReady Ts ps ss xs ys
unfolding ToCorners stands
silent-corners Ts ps ss xs ys o p z =
    let quiet = first-silents (corner_lines Ts ps ss xs ys) (refused_corners Ts ps ss xs ys) (λ r. r ≡ done_corners Ts ps ss xs ys) o other p in
    (first_rest (corner_lines Ts ps ss xs ys) (refused_corners Ts ps ss xs ys) (λ r. r ≡ done_corners Ts ps ss xs ys) o quiet p, corners-given Ts ps ss xs ys quiet)
  where
    other : (k i : ℕ) → In k (1 ∷ 2 ∷ 3 ∷ 4 ∷ 5 ∷ 6 ∷ 7 ∷ 9 ∷ []) → o ≡ refused_corners Ts ps ss xs ys k i → ⊥
    other k i h e =
        let same : 0 ≡ k = sym z ∙ ap (λ (r : Corners). r.answer.number) e in
        not_in 0 (1 ∷ 2 ∷ 3 ∷ 4 ∷ 5 ∷ 6 ∷ 7 ∷ 9 ∷ []) refl (rw (← same) at h)

module _ (Ts ps ss xs ys : List ℕ) (a : Answer) (e : a ≡ first_of (corner_findings Ts ps ss xs ys) refused done) where
  pub corners-ready : a.number ≡ 0 → CornersReady Ts ps ss xs ys
  corners-ready z =
      corners-given Ts ps ss xs ys (silent-if (corner_lines Ts ps ss xs ys) (corner_findings Ts ps ss xs ys) (corner-find Ts ps ss xs ys) (corner-numbered Ts ps ss xs ys) (rw e at z))

  pub corners-refused-end : (a.number ≡ 0 → ⊥) → ToCorners Ts ps ss xs ys (corners a xs ys)
  unfolding corners_of
  corners-refused-end n =
      let q = refused_end (corner_findings Ts ps ss xs ys) (refused_corners Ts ps ss xs ys) (done_corners Ts ps ss xs ys) a e (λ b. corners b xs ys) (λ k i. refl) n in
      rw q (corners-meet Ts ps ss xs ys)

  pub corners-end : a.number ≡ 0 → (us vs : List ℕ) → us ≡ filled (x_at Ts ss) (length Ts) xs → vs ≡ filled (y_at Ts ss) (length Ts) ys → ToCorners Ts ps ss xs ys (corners a us vs)
  unfolding corners_of done_corners
  corners-end z us vs eu ev =
      let d = done_end (corner_findings Ts ps ss xs ys) (refused_corners Ts ps ss xs ys) (done_corners Ts ps ss xs ys) a e (corner-numbered Ts ps ss xs ys) z in
      rw (d.0, eu, ev) (rw d.1 at (corners-meet Ts ps ss xs ys))

pub record StartsReady (Ts ps xs ys ss : List ℕ) : Type 0 where
  pub sound : Sound Ts ps
  pub same-x : length Ts ≡ length xs
  pub same-y : length Ts ≡ length ys
  pub long : length Ts ≤ length ss
  pub on-grid : (i : ℕ) → i < length Ts → OnGrid Ts (get_or Ts i 0) (get_or xs i 0) (get_or ys i 0)

starts-given : (Ts ps xs ys ss : List ℕ) → Silents (start_lines Ts ps xs ys ss) → StartsReady Ts ps xs ys ss
unfolding Silents
starts-given Ts ps xs ys ss s =
    let l = silents-left (lines Ts ps (DifferFour Ts ps xs ys ss)) (whole 7 (length ss < length Ts) ∷ line 18 (length Ts) (OffGridAt Ts xs ys) ∷ []) s in
    let r = silents-right (lines Ts ps (DifferFour Ts ps xs ys ss)) (whole 7 (length ss < length Ts) ∷ line 18 (length Ts) (OffGridAt Ts xs ys) ∷ []) s in
    record {
      sound = sound-with Ts ps (DifferFour Ts ps xs ys ss) (λ d. inr (inr d)) l;
      same-x = equal (length Ts) (length xs) (λ d. l.0 0 (omega arith) (inl d));
      same-y = equal (length Ts) (length ys) (λ d. l.0 0 (omega arith) (inr (inl d)));
      long = at_most (length Ts) (length ss) (λ h. r.0 0 (omega arith) h);
      on-grid = λ i h. grid-complete Ts (get_or Ts i 0) (get_or xs i 0) (get_or ys i 0) (r.1.0 i h);
    }

pub silent-starts : (Ts ps xs ys ss : List ℕ) (o : Starts) → ToStarts Ts ps xs ys ss o → o.answer.number ≡ 0 → (o ≡ done_starts Ts ps xs ys ss) × StartsReady Ts ps xs ys ss
unfolding ToStarts stands
silent-starts Ts ps xs ys ss o p z =
    let quiet = first-silents (start_lines Ts ps xs ys ss) (refused_starts Ts ps xs ys ss) (λ r. r ≡ done_starts Ts ps xs ys ss) o other p in
    (first_rest (start_lines Ts ps xs ys ss) (refused_starts Ts ps xs ys ss) (λ r. r ≡ done_starts Ts ps xs ys ss) o quiet p, starts-given Ts ps xs ys ss quiet)
  where
    other : (k i : ℕ) → In k (1 ∷ 2 ∷ 3 ∷ 4 ∷ 5 ∷ 6 ∷ 7 ∷ 18 ∷ []) → o ≡ refused_starts Ts ps xs ys ss k i → ⊥
    other k i h e =
        let same : 0 ≡ k = sym z ∙ ap (λ (r : Starts). r.answer.number) e in
        not_in 0 (1 ∷ 2 ∷ 3 ∷ 4 ∷ 5 ∷ 6 ∷ 7 ∷ 18 ∷ []) refl (rw (← same) at h)

module _ (Ts ps xs ys ss : List ℕ) (a : Answer) (e : a ≡ first_of (start_findings Ts ps xs ys ss) refused done) where
  pub starts-ready : a.number ≡ 0 → StartsReady Ts ps xs ys ss
  starts-ready z =
      starts-given Ts ps xs ys ss (silent-if (start_lines Ts ps xs ys ss) (start_findings Ts ps xs ys ss) (start-find Ts ps xs ys ss) (start-numbered Ts ps xs ys ss) (rw e at z))

  pub starts-refused-end : (a.number ≡ 0 → ⊥) → ToStarts Ts ps xs ys ss (as_starts a ss)
  unfolding starts_of
  starts-refused-end n =
      let q = refused_end (start_findings Ts ps xs ys ss) (refused_starts Ts ps xs ys ss) (done_starts Ts ps xs ys ss) a e (λ b. as_starts b ss) (λ k i. refl) n in
      rw q (starts-meet Ts ps xs ys ss)

  pub starts-end : a.number ≡ 0 → (us : List ℕ) → us ≡ filled (start_at Ts xs ys) (length Ts) ss → ToStarts Ts ps xs ys ss (as_starts a us)
  unfolding starts_of done_starts
  starts-end z us eu =
      let d = done_end (start_findings Ts ps xs ys ss) (refused_starts Ts ps xs ys ss) (done_starts Ts ps xs ys ss) a e (start-numbered Ts ps xs ys ss) z in
      rw (d.0, eu) (rw d.1 at (starts-meet Ts ps xs ys ss))

pub record PlanReady (Ts ps ss fs : List ℕ) : Type 0 where
  pub sound : Sound Ts ps
  pub long-s : length Ts ≤ length ss
  pub long-f : rows Ts ≤ length fs

plan-given : (Ts ps ss fs : List ℕ) → Silents (plan_lines Ts ps ss fs) → PlanReady Ts ps ss fs
unfolding Silents
plan-given Ts ps ss fs s =
    let r = silents-right (lines Ts ps (Differ Ts ps)) (whole 7 ((length ss < length Ts) ⊎ (length fs < rows Ts)) ∷ []) s in
    record {
      sound = silents-left (lines Ts ps (Differ Ts ps)) (whole 7 ((length ss < length Ts) ⊎ (length fs < rows Ts)) ∷ []) s;
      long-s = at_most (length Ts) (length ss) (λ h. r.0 0 (omega arith) (inl h));
      long-f = at_most (rows Ts) (length fs) (λ h. r.0 0 (omega arith) (inr h));
    }

-- the planner ran: 0 or 8
pub silent-plan : (Ts ps ss fs : List ℕ) (o : Outcome) → Plans Ts ps ss fs o → (o.answer.number ≡ 0) ⊎ (o.answer.number ≡ 8) → (o ≡ placed Ts ps ss fs) × PlanReady Ts ps ss fs
unfolding Plans stands
silent-plan Ts ps ss fs o p ran =
    let quiet = first-silents (plan_lines Ts ps ss fs) (refused_plan Ts ps ss fs) (λ r. r ≡ placed Ts ps ss fs) o (other ran) p in
    (first_rest (plan_lines Ts ps ss fs) (refused_plan Ts ps ss fs) (λ r. r ≡ placed Ts ps ss fs) o quiet p, plan-given Ts ps ss fs quiet)
  where
    other : (o.answer.number ≡ 0) ⊎ (o.answer.number ≡ 8) → (k i : ℕ) → In k (1 ∷ 2 ∷ 3 ∷ 4 ∷ 5 ∷ 6 ∷ 7 ∷ []) → o ≡ refused_plan Ts ps ss fs k i → ⊥
    other (inl z) k i h e =
        let same : 0 ≡ k = sym z ∙ ap (λ (r : Outcome). r.answer.number) e in
        not_in 0 (1 ∷ 2 ∷ 3 ∷ 4 ∷ 5 ∷ 6 ∷ 7 ∷ []) refl (rw (← same) at h)
    other (inr z) k i h e =
        let same : 8 ≡ k = sym z ∙ ap (λ (r : Outcome). r.answer.number) e in
        not_in 8 (1 ∷ 2 ∷ 3 ∷ 4 ∷ 5 ∷ 6 ∷ 7 ∷ []) refl (rw (← same) at h)

module _ (Ts ps ss fs : List ℕ) (a : Answer) (e : a ≡ first_of (plan_findings Ts ps ss fs) refused done) where
  pub plan-ready : a.number ≡ 0 → PlanReady Ts ps ss fs
  plan-ready z = plan-given Ts ps ss fs (silent-if (plan_lines Ts ps ss fs) (plan_findings Ts ps ss fs) (plan-find Ts ps ss fs) (plan-numbered Ts ps ss fs) (rw e at z))

  pub plan-refused-end : (a.number ≡ 0 → ⊥) → Plans Ts ps ss fs (outcome a ss fs)
  unfolding planned
  plan-refused-end n =
      let q = refused_end (plan_findings Ts ps ss fs) (refused_plan Ts ps ss fs) (placed Ts ps ss fs) a e (λ b. outcome b ss fs) (λ k i. refl) n in
      rw q (planned-meets Ts ps ss fs)

  pub plan-end : a.number ≡ 0 → (m : ℕ) → m ≡ rows Ts → (r : Answer) (zs gs cs : List ℕ) → outcome r zs gs ≡ fitted Ts ps (order Ts ps) ss cs → cs ≡ replicate (rows Ts) 0
      → Plans Ts ps ss fs (outcome r zs (gs ++ drop m fs))
  unfolding planned placed
  plan-end z m em r zs gs cs f k =
      let d = done_end (plan_findings Ts ps ss fs) (refused_plan Ts ps ss fs) (placed Ts ps ss fs) a e (plan-numbered Ts ps ss fs) z in
      let g : outcome r zs gs ≡ fitted Ts (widths 0 ps) (order Ts ps) ss (replicate (rows Ts) 0) = rw (widths-none ps, ← k) f in
      let q : outcome r zs (gs ++ drop (rows Ts) fs) ≡ placed Ts ps ss fs = ap (λ (o : Outcome). outcome o.answer o.starts (o.fills ++ drop (rows Ts) fs)) g in
      rw (em, q ∙ sym d.1) (planned-meets Ts ps ss fs)
