-- What follows from the definitions of specs/Plan.
--     plan-shuts-out                 every claim of the table is settled so
--     plan-not-one                   no outcome serves all tables
-- Assumes nothing.
use Rattle.std.specs.Prelude.{◌≡◌, refl, false, List, [], ◌∷◌, ℕ, ◌%◌, ◌≤◌, ◌<◌, eqb, get_or}
use Rattle.std.proofs.Common.{sym, ap, ◌∙◌, arith}
use Rattle.lists.specs.Pick.{any_below}
use Rattle.lists.specs.Lowest.{lowest, lowest_from}
use Rattle.lists.specs.Answering.{first_of}
use Rattle.words.specs.declared.Answer.{Answer}
use Rattle.words.specs.Answers.{refused, done, mark}
use Rattle.wire.specs.Wire.{Holds}
use Rattle.probes.specs.Table.{least_of, greatest_of, shortest, longest, rows, height, widths}
use Rattle.probes.specs.Verdict.{divides, chained, bad_period, bad_length, unchained, findings, verdict}
use Rattle.probes.proofs.Laws.{passes-sound, sound-gives}
use Rattle.probes.proofs.Widths.{sound-positive}
use Rattle.order.specs.Order.{before, insert, order_below, order}
use Rattle.stack.specs.Stack.{raised, fits, bins, lowest_bin}
use Rattle.stack.specs.FirstFit.{Outcome, outcome, marked, bin_of, start_in, fitted, plan_findings, placed, planned}
use Rattle.stack.specs.Planning.{fit, fit-clean}
use Rattle.rectangles.specs.Plan.{Plans}
use Rattle.rectangles.specs.Checks.{planned-meets}
use Rattle.rectangles.proofs.Promises.{plan-unique}
use Rattle.shut_out.specs.Claims.{Each, ◌also◌, differs}
use Rattle.shut_out.specs.Starts.{start-x}
use Rattle.shut_out.specs.Plan.{Claim, five, full, even, seven, six, reads, lent, sub_bins, claims, Settled}

-- each outcome that meets the promise is the one that is computed
is-planned : (Ts ps ss fs : List ℕ) (o : Outcome) → Plans Ts ps ss fs o → o ≡ planned Ts ps ss fs
is-planned Ts ps ss fs o p = plan-unique Ts ps ss fs o (planned Ts ps ss fs) p (planned-meets Ts ps ss fs)

-- each table is planned once, whatever the wrong outcome is; a claim is then settled by what its wrong outcome shows in the answer, in a fill or in the starts
module _ (c : Claim) where
  abbrev plan-of : Outcome
  plan-of = planned c.periods c.lengths c.starts c.fills

  abbrev Right : Type 0
  Right = (plan-of.answer ≡ c.answer) × (plan-of.fills ≡ c.filled)

  settled-by : Right → (c.wrong ≡ plan-of → ⊥) → Settled c
  settled-by r other = (
    λ o p. (ap (λ (s : Outcome). s.answer) (is-planned _ _ _ _ o p) ∙ r.0, ap (λ (s : Outcome). s.fills) (is-planned _ _ _ _ o p) ∙ r.1),
    λ p. other (is-planned _ _ _ _ c.wrong p),
  )

  in-answer : Right → (see : Answer → ℕ) (m : ℕ) → see c.answer ≡ m → eqb (see c.wrong.answer) m ≡ false → Settled c
  in-answer r see m e n = settled-by r (differs (λ (s : Outcome). see s.answer) plan-of c.wrong m (ap see r.0 ∙ e) n)

  in-fill : Right → (k m : ℕ) → get_or c.filled k 0 ≡ m → eqb (get_or c.wrong.fills k 0) m ≡ false → Settled c
  in-fill r k m e n = settled-by r (differs (λ (s : Outcome). get_or s.fills k 0) plan-of c.wrong m (ap (λ (fs : List ℕ). get_or fs k 0) r.1 ∙ e) n)

  in-starts : Right → (see : Outcome → ℕ) (m : ℕ) → see plan-of ≡ m → eqb (see c.wrong) m ≡ false → Settled c
  in-starts r see m e n = settled-by r (differs see plan-of c.wrong m e n)

abbrev number : Answer → ℕ
number a = a.number

abbrev index : Answer → ℕ
index a = a.index

abbrev start : ℕ → Outcome → ℕ
start i o = get_or o.starts i 0

holds_as : (T q s u t : ℕ) → s ≡ u → Holds T q s t → Holds T q u t
holds_as T q s u t e h = rw (← e) h

-- a plan is clean, and start 47 meets probe 2 at tick 47
sub-bins-meet : sub_bins ≡ planned six reads lent lent → ⊥
unfolding any_below lowest lowest_from first_of least_of greatest_of shortest longest rows height widths divides chained bad_period bad_length unchained findings verdict before insert order_below order raised fits bins lowest_bin marked bin_of start_in fitted plan_findings placed planned fit
sub-bins-meet e =
    let sound = sound-gives six reads (passes-sound six reads refl) in
    let long : 6 ≤ 6 = omega arith in
    let clean = fit-clean six reads (widths 0 reads) lent sound.harmonic (sound-positive six reads sound) long refl in
    let third : 2 < 6 = omega arith in
    let sixth : 5 < 6 = omega arith in
    let one : ◌≡◌ {A = ℕ} 2 5 =
    clean 47 2 5 third sixth (holds_as 20 5 3 _ 47 (ap (start 2) e) (omega arith, omega arith)) (holds_as 60 3 47 _ 47 (ap (start 5) e) (omega arith, omega arith)) in
    omega (arith, one)

-- the plans of the four tables; the wrong outcome has no part in them
abbrev nothing : Outcome
nothing = outcome done [] []

five-right : Right (five nothing)
unfolding any_below lowest lowest_from first_of least_of greatest_of shortest longest rows height widths divides chained bad_period bad_length unchained findings before insert order_below order raised fits bins lowest_bin marked bin_of start_in fitted plan_findings placed planned
five-right = (refl, refl)

full-right : Right (full nothing)
unfolding any_below lowest lowest_from first_of least_of greatest_of shortest longest rows height widths divides chained bad_period bad_length unchained findings before insert order_below order raised fits bins lowest_bin marked bin_of start_in fitted plan_findings placed planned
full-right = (refl, refl)

even-right : Right (even nothing)
unfolding any_below lowest lowest_from first_of least_of greatest_of shortest longest rows height widths divides chained bad_period bad_length unchained findings before insert order_below order raised fits bins lowest_bin marked bin_of start_in fitted plan_findings placed planned
even-right = (refl, refl)

seven-right : Right (seven nothing)
unfolding any_below lowest lowest_from first_of least_of greatest_of shortest longest rows height widths divides chained bad_period bad_length unchained findings before insert order_below order raised fits bins lowest_bin marked bin_of start_in fitted plan_findings placed planned
seven-right = (refl, refl)

pub plan-shuts-out : Each Settled claims
unfolding any_below lowest lowest_from first_of least_of greatest_of shortest longest rows height widths divides chained bad_period bad_length unchained findings before insert order_below order raised fits bins lowest_bin marked bin_of start_in fitted plan_findings placed planned
plan-shuts-out =
    in-answer _ five-right number 0 refl refl
    also in-starts _ five-right (λ o. start 0 o % 10) 0 (start-x (10 ∷ 20 ∷ 20 ∷ 60 ∷ 60 ∷ []) 10 0 0) refl
    also in-fill _ five-right 0 10 refl refl
    also in-fill _ five-right 0 10 refl refl
    also in-answer _ five-right number 0 refl refl
    also in-starts _ seven-right (λ o. start 1 o % 8) 2 (start-x (8 ∷ 16 ∷ 16 ∷ 32 ∷ 32 ∷ 32 ∷ 32 ∷ []) 16 2 0) refl
    also in-fill _ five-right 5 7 refl refl
    also in-fill _ full-right 0 6 refl refl
    also in-fill _ full-right 0 6 refl refl
    also in-fill _ full-right 0 6 refl refl
    also in-starts _ full-right (start 1) mark refl refl
    also in-answer _ full-right index 1 refl refl
    also in-answer _ even-right number 0 refl refl
    also in-starts _ even-right (start 2) 7777 refl refl
    also in-fill _ even-right 1 7777 refl refl
    also in-starts _ even-right (λ o. start 0 o % 10) 0 (start-x (10 ∷ 10 ∷ []) 10 0 0) refl
    also in-answer _ (refl, refl) index 0 refl refl
    also in-answer _ (refl, refl) number 7 refl refl
    also in-fill _ (refl, refl) 0 7777 refl refl
    also settled-by _ (refl, refl) sub-bins-meet
    also tt

-- no outcome serves all tables
pub plan-not-one : (o : Outcome) → ((Ts ps ss fs : List ℕ) → Plans Ts ps ss fs o) → ⊥
plan-not-one o all =
    let placed-all : o.answer ≡ done = (plan-shuts-out.0.0 o (all _ _ _ _)).0 in
    let stuck : o.answer ≡ refused 8 5 = (plan-shuts-out.1.1.1.1.1.0.0 o (all _ _ _ _)).0 in
    omega (arith, ap (λ (r : Answer). r.number) (sym placed-all ∙ stuck))
