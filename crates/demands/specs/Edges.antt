-- EDGES THAT DOCUMENT 01 NAMES: the empty table, and the entries that no call writes.
--     empty-table           "The empty table is sound: it plans with answer 0, has 0 rows, is clean, and writes nothing."
--     plan-past, plan-past-fills   "Entries past the table's n probes or H rows are never written": of starts and fills, whatever the answer
-- Not said here: the same of the other calls. The results that their promises name end in `drop n` of what was lent (packing/done_corners, book/done_read, ..).
-- Assumes nothing.
use Rattle.std.specs.Prelude.{◌≡◌, ◌⊎◌, Bool, ℕ, zero, suc, ◌+◌, ◌-◌, ◌*◌, ◌≤◌, ◌<◌, ltb, length, set, take, drop, replicate}
use Rattle.std.proofs.Math.Path.{refl}
use Rattle.std.proofs.Common.{ap, ◌∙◌, inl, inr, ⊎_elim, arith, length-append, length-take, length-drop, le-ltb}
use Rattle.std.proofs.Math.Bool.{true, false}
use mathlib.Core.List.{List, [], ◌∷◌, ◌++◌}
use Rattle.std.proofs.Math.ListN.{get_or}
use Rattle.std.proofs.lemmas.List.{length-replicate}
use Rattle.std.proofs.Math.Seq.{get_or-set_other}
use Rattle.lists.specs.Pick.{pick}
use Rattle.lists.specs.Lowest.{lowest, lowest_from}
use Rattle.lists.specs.Answering.{first_of}
use Rattle.lists.specs.Refusals.{Line, First}
use Rattle.words.specs.Answers.{refused, done, mark}
use Rattle.wire.specs.Wire.{Clean}
use Rattle.probes.specs.Table.{Sound, greatest_of, shortest, longest, rows, height, widths}
use Rattle.probes.specs.Verdict.{findings, verdict}
use Rattle.probes.proofs.Laws.{passes-sound}
use Rattle.order.specs.Order.{order_below, order}
use Rattle.order.proofs.Listed.{order-length, order-probe}
use Rattle.stack.specs.Stack.{raise, raised, bins}
use Rattle.stack.specs.Rows.{length-map}
use Rattle.stack.specs.FirstFit.{Outcome, outcome, marked, bin_of, start_in, fitted, plan_lines, plan_findings, refused_plan, placed, planned}
use Rattle.rectangles.specs.Plan.{Plans}
use Rattle.rectangles.specs.Checks.{planned-meets}
use Rattle.rectangles.proofs.Promises.{plan-unique}

-- of the empty table, with whatever columns are lent
pub record EmptyTable : Type 0 where
  pub sound : Sound [] []
  pub rows : rows [] ≡ 0
  pub clean : Clean [] [] []
  pub plans : (ss fs : List ℕ) (o : Outcome) → Plans [] [] ss fs o → o ≡ outcome done ss fs

empty-planned : (ss fs : List ℕ) → planned [] [] ss fs ≡ outcome done ss fs
unfolding lowest lowest_from first_of greatest_of shortest longest rows findings order_below order fitted plan_findings placed planned
empty-planned ss fs = rw (le-ltb (length ss) 0 (omega arith), le-ltb (length fs) 0 (omega arith)) refl

pub empty-table : EmptyTable
unfolding lowest lowest_from first_of greatest_of shortest longest rows findings verdict
empty-table = record {
  sound = passes-sound [] [] refl;
  rows = refl;
  clean = λ t i j h. absurd (omega arith);
  plans = λ ss fs o p. plan-unique [] [] ss fs o (planned [] [] ss fs) p (planned-meets [] [] ss fs) ∙ empty-planned ss fs;
}

-- a refusal, or what comes after the lines
refused-or : {O : Type 0} (ls : List Line) (refuse : ℕ → ℕ → O) (Rest : O → Type 0) (o : O) → First ls refuse Rest o → ((k : ℕ) × (i : ℕ) × (o ≡ refuse k i)) ⊎ Rest o
unfolding First
refused-or [] refuse Rest o p = inr p
refused-or (l ∷ ls) refuse Rest o (inl (i, at, e)) = inl (l.number, i, e)
refused-or (l ∷ ls) refuse Rest o (inr (s, p)) = refused-or ls refuse Rest o p

-- places of the column that lie past every probe of a list of probes
abbrev Before : ℕ → List ℕ → Type 0
Before n is = (k : ℕ) → k < length is → get_or is k 0 < n

marked-past : (n j : ℕ) → n ≤ j → (is ss : List ℕ) → Before n is → get_or (marked is ss) j 0 ≡ get_or ss j 0
unfolding marked
marked-past n j h [] ss b = refl
marked-past n j h (i ∷ is) ss b =
    marked-past n j h is (set ss i mark) (λ k l. b (suc k) (omega arith)) ∙ get_or-set_other ss i j mark 0 (λ e. absurd (omega (arith, b 0 (omega arith))))

module _ (Ts qs : List ℕ) (n j : ℕ) (past : n ≤ j) where
  fitted-past : (is ss fs : List ℕ) → Before n is → get_or (fitted Ts qs is ss fs).starts j 0 ≡ get_or ss j 0
  unfolding fitted
  fitted-past [] ss fs b = refl
  fitted-past (i ∷ is) ss fs b =
      by (ltb (bin_of Ts qs i fs) (bins fs (height Ts (get_or Ts i 0)))) _
      (fitted-past is (set ss i (start_in Ts qs i fs (bin_of Ts qs i fs)))
      (raised fs (bin_of Ts qs i fs * height Ts (get_or Ts i 0)) (height Ts (get_or Ts i 0)) (get_or qs i 0)) (λ k l. b (suc k) (omega arith))
      ∙ get_or-set_other ss i j _ 0 (λ e. absurd (omega (arith, b 0 (omega arith)))))
    where
      by : (t : Bool) (o : Outcome) → get_or o.starts j 0 ≡ get_or ss j 0 → get_or (pick t o (outcome (refused 8 i) (marked (i ∷ is) ss) fs)).starts j 0 ≡ get_or ss j 0
      by true o e = e
      by false o e = marked-past n j past (i ∷ is) ss b

-- of every answer
pub plan-past : (Ts ps ss fs : List ℕ) (o : Outcome) → Plans Ts ps ss fs o → (j : ℕ) → length Ts ≤ j → get_or o.starts j 0 ≡ get_or ss j 0
unfolding Plans placed
plan-past Ts ps ss fs o p j h =
    ⊎_elim (λ (k, i, e). ap (λ (r : Outcome). get_or r.starts j 0) e)
    (λ e. ap (λ (r : Outcome). get_or r.starts j 0) e
    ∙ fitted-past Ts (widths 0 ps) (length Ts) j h (order Ts ps) ss (replicate (rows Ts) 0) (λ k l. order-probe Ts ps k (omega (arith, order-length Ts ps))))
    (refused-or (plan_lines Ts ps ss fs) (refused_plan Ts ps ss fs) (λ r. r ≡ placed Ts ps ss fs) o p)

-- a row column keeps its length, wherever it is raised
length-kept : (fs : List ℕ) (y h q : ℕ) → length (raised fs y h q) ≡ length fs
unfolding raised
length-kept fs y h q =
    length-append (take y fs) (raise q (take h (drop y fs)) ++ drop (y + h) fs)
    ∙ omega (
      arith,
      length-take y fs,
      length-append (raise q (take h (drop y fs))) (drop (y + h) fs),
      length-map (λ (x : ℕ). x + q) (take h (drop y fs)),
      length-take h (drop y fs),
      length-drop y fs,
      length-drop (y + h) fs,
    )

fitted-long : (Ts qs is ss fs : List ℕ) → length (fitted Ts qs is ss fs).fills ≡ length fs
unfolding fitted
fitted-long Ts qs [] ss fs = refl
fitted-long Ts qs (i ∷ is) ss fs =
    by (ltb (bin_of Ts qs i fs) (bins fs (height Ts (get_or Ts i 0)))) _
    (fitted-long Ts qs is (set ss i (start_in Ts qs i fs (bin_of Ts qs i fs))) (raised fs (bin_of Ts qs i fs * height Ts (get_or Ts i 0)) (height Ts (get_or Ts i 0)) (get_or qs i 0))
    ∙ length-kept fs (bin_of Ts qs i fs * height Ts (get_or Ts i 0)) (height Ts (get_or Ts i 0)) (get_or qs i 0))
  where
    by : (t : Bool) (o : Outcome) → length o.fills ≡ length fs → length (pick t o (outcome (refused 8 i) (marked (i ∷ is) ss) fs)).fills ≡ length fs
    by true o e = e
    by false o e = refl

-- behind a list of n entries stands what was there from n on
behind : (gs fs : List ℕ) (n j : ℕ) → length gs ≡ n → n ≤ j → get_or (gs ++ drop n fs) j 0 ≡ get_or fs j 0
behind [] fs zero j e h = refl
behind [] fs (suc n) j e h = absurd (omega arith)
behind (g ∷ gs) fs zero j e h = absurd (omega arith)
behind (g ∷ gs) fs (suc n) zero e h = absurd (omega arith)
behind (g ∷ gs) [] (suc n) (suc j) e h = past gs n j (omega arith) (omega arith)
  where
    past : (xs : List ℕ) (m k : ℕ) → length xs ≡ m → m ≤ k → get_or (xs ++ []) k 0 ≡ 0
    past [] m k e l = refl
    past (x ∷ xs) zero k e l = absurd (omega arith)
    past (x ∷ xs) (suc m) zero e l = absurd (omega arith)
    past (x ∷ xs) (suc m) (suc k) e l = past xs m k (omega arith) (omega arith)
behind (g ∷ gs) (f ∷ fs) (suc n) (suc j) e h = behind gs fs n j (omega arith) (omega arith)

-- of every answer
pub plan-past-fills : (Ts ps ss fs : List ℕ) (o : Outcome) → Plans Ts ps ss fs o → (j : ℕ) → rows Ts ≤ j → get_or o.fills j 0 ≡ get_or fs j 0
unfolding Plans placed
plan-past-fills Ts ps ss fs o p j h =
    ⊎_elim (λ (k, i, e). ap (λ (r : Outcome). get_or r.fills j 0) e)
    (λ e. ap (λ (r : Outcome). get_or r.fills j 0) e
    ∙ behind (fitted Ts (widths 0 ps) (order Ts ps) ss (replicate (rows Ts) 0)).fills fs (rows Ts) j
    (fitted-long Ts (widths 0 ps) (order Ts ps) ss (replicate (rows Ts) 0) ∙ length-replicate {A = ℕ} (rows Ts) 0) h)
    (refused-or (plan_lines Ts ps ss fs) (refused_plan Ts ps ss fs) (λ r. r ≡ placed Ts ps ss fs) o p)
