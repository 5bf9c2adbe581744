-- SENTENCES BESIDE THE THREE DEMANDS THAT ARE FALSE. Each is stated as it would be promised, and refuted by numbers.
--     ProbeByProbe              beside demand 1: no probe before the one that a refusal names has a bad length
--     RefusalsWriteNothing      beside demand 1: with any number but 0 the fills are as they were lent
--     FirstPeriodOnly           beside demand 2: a list in which no tick of the first longest period is held by two probes is clean
--     EitherPeriod              beside demand 2: the published condition may be taken by the longer period
--     PlannedIfClean            beside demand 2: where some list of starts is clean, first fit places every probe
--     FromAnyTick               beside demand 3: also from before a probe's first start, of the next T ticks exactly p are the probe's
--     BusyOnly                  beside demand 3: no probe is left without a place where the busy ticks of one longest period come to at most that period
-- Assumes nothing.
use Rattle.std.specs.Prelude.{◌≡◌, refl, ◌≢◌, List, [], ◌∷◌, ℕ, zero, suc, ◌≤◌, ◌<◌, length, get_or}
use Rattle.std.proofs.Common.{ap, inl, arith}
use Rattle.std.specs.Int.{◌∣◌}
use Rattle.std.proofs.Math.Nat.{dvd_of_mod-eq-zero}
use Rattle.lists.specs.Pick.{any_below}
use Rattle.lists.specs.Lowest.{lowest, lowest_from}
use Rattle.lists.specs.Answering.{first_of}
use Rattle.words.specs.declared.Answer.{Answer}
use Rattle.words.specs.Answers.{refused, done}
use Rattle.wire.specs.Wire.{NeverMeet, HoldsAt, Clean}
use Rattle.wire.specs.Meeting.{lag, Apart, apart, shared_tick, apart_at, tick_at, apart_below, clean_below, clean}
use Rattle.wire.proofs.CleanTest.{clean-tells}
use Rattle.wire.specs.Window.{held, held_in}
use Rattle.probes.specs.Table.{Sound, BadLength, least_of, greatest_of, shortest, longest, rows, height, widths}
use Rattle.probes.specs.Verdict.{Validates, divides, chained, bad_period, bad_length, unchained, late, findings, list_findings, verdict}
use Rattle.probes.proofs.Laws.{verdict-meets, passes-sound, sound-gives}
use Rattle.probes.specs.Composing.{list_verdict}
use Rattle.order.specs.Order.{before, insert, order_below, order}
use Rattle.stack.specs.Stack.{raised, fits, bins, lowest_bin}
use Rattle.stack.specs.FirstFit.{Outcome, marked, bin_of, start_in, fitted, plan_findings, placed, planned}
use Rattle.stack.specs.Room.{busy_of, busy_ticks}
use Rattle.rectangles.specs.Plan.{Plans}
use Rattle.rectangles.specs.Checks.{planned-meets}
use Rattle.meetings.specs.Check.{partner, opener, meeting_of, Checks, checked}
use Rattle.meetings.specs.Passing.{Passes, zero-passes}
use Rattle.meetings.proofs.Promises.{check-total}

abbrev pub ProbeByProbe : Type 0
ProbeByProbe = (Ts ps : List ℕ) (a : Answer) → Validates Ts ps a → (k : ℕ) → k < a.index → BadLength Ts ps k → ⊥

-- periods 10 and 1,048,577, lengths 0 and 1: 3 with index 1, though probe 0 has a bad length
pub not-probe-by-probe : ProbeByProbe → ⊥
unfolding any_below lowest lowest_from first_of least_of greatest_of shortest longest rows divides chained bad_period bad_length unchained findings verdict
not-probe-by-probe f =
    let first : 0 < 1 = omega arith in
    f (10 ∷ 1048577 ∷ []) (0 ∷ 1 ∷ []) (refused 3 1) (verdict-meets (10 ∷ 1048577 ∷ []) (0 ∷ 1 ∷ [])) 0 first (inl refl)

abbrev pub RefusalsWriteNothing : Type 0
RefusalsWriteNothing = (Ts ps ss fs : List ℕ) (o : Outcome) → Plans Ts ps ss fs o → o.answer.number ≢ 0 → o.fills ≡ fs

-- periods 10, 10, lengths 6, 5: 8, and the fill 6 stands
pub not-refusals-write-nothing : RefusalsWriteNothing → ⊥
unfolding any_below lowest lowest_from first_of least_of greatest_of shortest longest rows height widths divides chained bad_period bad_length unchained findings before insert order_below order raised fits bins lowest_bin marked bin_of start_in fitted plan_findings placed planned
not-refusals-write-nothing f =
    let o : Outcome = planned (10 ∷ 10 ∷ []) (6 ∷ 5 ∷ []) (7777 ∷ 7777 ∷ []) (7777 ∷ []) in
    let eight : o.answer.number ≢ 0 = λ e. let z : ◌≡◌ {A = ℕ} 8 0 = e in omega arith in
    let same : ◌≡◌ {A = ℕ} 6 7777 = ap (λ (l : List ℕ). get_or l 0 0) (f (10 ∷ 10 ∷ []) (6 ∷ 5 ∷ []) (7777 ∷ 7777 ∷ []) (7777 ∷ []) o (planned-meets _ _ _ _) eight) in
    omega arith

abbrev pub FirstPeriodOnly : Type 0
FirstPeriodOnly =
    (Ts ps ss : List ℕ) → Passes Ts ps ss
    → ((t i j : ℕ) → t < longest Ts → i < length Ts → j < length Ts → HoldsAt Ts ps ss i t → HoldsAt Ts ps ss j t → i ≡ j)
    → Clean Ts ps ss

-- periods 10, 20, lengths 5, 1, starts 8, 1: the first shared tick is 21
pub not-first-period-only : FirstPeriodOnly → ⊥
unfolding any_below lowest lowest_from first_of least_of greatest_of shortest longest rows divides chained bad_period bad_length unchained late findings list_findings list_verdict
not-first-period-only f =
    let Ts : List ℕ = 10 ∷ 20 ∷ [] in
    let ps : List ℕ = 5 ∷ 1 ∷ [] in
    let ss : List ℕ = 8 ∷ 1 ∷ [] in
    let first : 0 < 2 = omega arith in
    let second : 1 < 2 = omega arith in
    let one : ◌≡◌ {A = ℕ} 0 1 = f Ts ps ss (zero-passes Ts ps ss (list_verdict Ts ps ss) refl refl) early 21 0 1 first second (omega arith, omega arith) (omega arith, omega arith) in
    omega arith
  where
    early : (t i j : ℕ) → t < 20 → i < 2 → j < 2 → HoldsAt (10 ∷ 20 ∷ []) (5 ∷ 1 ∷ []) (8 ∷ 1 ∷ []) i t → HoldsAt (10 ∷ 20 ∷ []) (5 ∷ 1 ∷ []) (8 ∷ 1 ∷ []) j t → i ≡ j
    early t zero zero l hi hj a b = refl
    early t zero (suc zero) l hi hj a b = absurd (omega arith)
    early t (suc zero) zero l hi hj a b = absurd (omega arith)
    early t (suc zero) (suc zero) l hi hj a b = refl
    early t (suc (suc i)) j l hi hj a b = absurd (omega arith)
    early t zero (suc (suc j)) l hi hj a b = absurd (omega arith)
    early t (suc zero) (suc (suc j)) l hi hj a b = absurd (omega arith)

abbrev pub EitherPeriod : Type 0
EitherPeriod = (T q s U r u : ℕ) → U ∣ T → 0 < T → q ≤ U → r ≤ U → s < T → u < U → Apart T q s U r u → NeverMeet T q s U r u

-- the same two, the period 20 first: d = 7 lies between 1 and 20 - 5, and tick 21 is shared
pub not-either-period : EitherPeriod → ⊥
unfolding lag
not-either-period f =
    f 20 1 1 10 5 8 (dvd_of_mod-eq-zero 10 refl) (omega arith) (omega arith) (omega arith) (omega arith) (omega arith) (omega arith, omega arith) 21
    (omega arith, omega arith) (omega arith, omega arith)

-- periods 8, 16, 16, 32 four times, lengths 2, 2, 2, 4 four times: number 8, though the list 0, 2, 10, 4, 12, 20, 28 is clean and the busy ticks are 32
abbrev seven : List ℕ
seven = 8 ∷ 16 ∷ 16 ∷ 32 ∷ 32 ∷ 32 ∷ 32 ∷ []

abbrev reads : List ℕ
reads = 2 ∷ 2 ∷ 2 ∷ 4 ∷ 4 ∷ 4 ∷ 4 ∷ []

abbrev starts : List ℕ
starts = 0 ∷ 2 ∷ 10 ∷ 4 ∷ 12 ∷ 20 ∷ 28 ∷ []

abbrev lent : List ℕ
lent = 7777 ∷ 7777 ∷ 7777 ∷ 7777 ∷ 7777 ∷ 7777 ∷ 7777 ∷ []

abbrev lent_rows : List ℕ
lent_rows = 7777 ∷ 7777 ∷ 7777 ∷ 7777 ∷ []

seven-sound : Sound seven reads
unfolding any_below lowest lowest_from first_of least_of greatest_of shortest longest rows divides chained bad_period bad_length unchained findings verdict
seven-sound = passes-sound seven reads refl

seven-passes : Passes seven reads starts
unfolding any_below lowest lowest_from first_of least_of greatest_of shortest longest rows divides chained bad_period bad_length unchained late findings list_findings list_verdict
seven-passes = zero-passes seven reads starts (list_verdict seven reads starts) refl refl

seven-clean : Clean seven reads starts
unfolding lag apart apart_at apart_below clean_below clean
seven-clean = (clean-tells seven reads starts (sound-gives seven reads seven-sound).harmonic (sound-gives seven reads seven-sound).reads).yes refl

seven-stuck : (planned seven reads lent lent_rows).answer ≡ done → ⊥
unfolding any_below lowest lowest_from first_of least_of greatest_of shortest longest rows height widths divides chained bad_period bad_length unchained findings before insert order_below order raised fits bins lowest_bin marked bin_of start_in fitted plan_findings placed planned
seven-stuck e =
    let z : ◌≡◌ {A = ℕ} 8 0 = ap (λ (a : Answer). a.number) e in
    omega arith

abbrev pub PlannedIfClean : Type 0
PlannedIfClean =
    (Ts ps zs ss fs : List ℕ) → Passes Ts ps zs → Clean Ts ps zs → length Ts ≤ length ss → rows Ts ≤ length fs
    → (o : Outcome) → Plans Ts ps ss fs o → o.answer ≡ done

pub not-planned-if-clean : PlannedIfClean → ⊥
unfolding least_of greatest_of shortest longest rows
not-planned-if-clean f =
    let wide : 7 ≤ 7 = omega arith in
    let high : 4 ≤ 4 = omega arith in
    seven-stuck (f seven reads starts lent lent_rows seven-passes seven-clean wide high (planned seven reads lent lent_rows) (planned-meets _ _ _ _))

abbrev pub BusyOnly : Type 0
BusyOnly =
    (Ts ps ss fs : List ℕ) → Sound Ts ps → busy_ticks Ts ps ≤ longest Ts → length Ts ≤ length ss → rows Ts ≤ length fs
    → (o : Outcome) → Plans Ts ps ss fs o → o.answer ≡ done

pub not-busy-only : BusyOnly → ⊥
unfolding least_of greatest_of shortest longest rows height busy_of busy_ticks
not-busy-only f =
    let wide : 7 ≤ 7 = omega arith in
    let high : 4 ≤ 4 = omega arith in
    let most : 32 ≤ 32 = omega arith in
    seven-stuck (f seven reads lent lent_rows seven-sound most wide high (planned seven reads lent lent_rows) (planned-meets _ _ _ _))

abbrev pub FromAnyTick : Type 0
FromAnyTick =
    (Ts ps ss : List ℕ) → Checks Ts ps ss done → (i a : ℕ) → i < length Ts
    → held_in (get_or Ts i 0) (get_or ps i 0) (get_or ss i 0) a (get_or Ts i 0) ≡ get_or ps i 0

-- period 10, length 5, start 8: of the ticks 0 to 9 two are the probe's
pub not-from-any-tick : FromAnyTick → ⊥
unfolding checked first_of list_findings findings bad_period bad_length unchained chained divides late lowest lowest_from any_below shortest least_of longest greatest_of rows
    meeting_of opener partner apart_at tick_at apart shared_tick lag widths held held_in
not-from-any-tick f =
    let first : 0 < 1 = omega arith in
    let two : ◌≡◌ {A = ℕ} 2 5 = f (10 ∷ []) (5 ∷ []) (8 ∷ []) (check-total (10 ∷ []) (5 ∷ []) (8 ∷ [])) 0 0 first in
    omega arith
