-- THE TIMETABLE. Document 01, "Timetable": "the lowest-numbered probe holding tick t, or idle; and the least tick from t on at which some probe starts a read, with the
-- lowest such probe. The probe stands as the index and the start's tick as the tick; idle, or no start, has the index 4,294,967,295."
--     ask_lines Ts ps ss t      the lines 1 to 6, 9 and 11, in order
--     HeldBy Ts qs ss t a      a names the lowest-numbered probe that holds t, or idle                                    (believe this)
--     Holder Ts ps ss t a      the promise of `holder`
--     Starts T s x             a probe of period T and start s starts a read at tick x
--     NextStart Ts ss t a      a names the least tick from t on at which some probe starts a read, and the lowest such probe; or no start   (believe this)
--     NextFrom Ts ps ss t a    the promise of `next_start`
--     HolderGiven, NextGiven     the promises as a call's result says them: the answer that is shown, and a probe that is named is below the mark
--     phase T s t              ticks since the start of the read or pause that t lies in; t is not before s
--     candidate T s t          the first start of one probe from t on
--     holder_of, next_of         the same, computed: one pass over the probes
-- Edges: clean or not; the empty table answers idle, or no start; after a read's last tick the wire is free.
-- Assumes nothing.
use Rattle.std.specs.Prelude.{◌≡◌, ◌⊎◌, Bool, List, [], ◌∷◌, ◌++◌, ℕ, zero, suc, ◌-◌, ◌%◌, ◌≤◌, ◌<◌, leb, ltb, length, get_or, Result, Option}
use Rattle.lists.specs.Pick.{pick, both}
use Rattle.lists.specs.Lowest.{Lowest, lowest}
use Rattle.lists.specs.Refusals.{Line, whole, First}
use Rattle.lists.specs.Answering.{Found, tested, first_of}
use Rattle.words.specs.declared.Answer.{Answer}
use Rattle.words.specs.Answers.{refused, pair, mark}
use Rattle.words.specs.Ticks.{TooLate, too_late}
use Rattle.words.specs.declared.Held.{Held}
use Rattle.words.specs.declared.NextStart.{NextStart as Next}
use Rattle.words.specs.declared.refusals.Refusal.{Refusal}
use Rattle.words.specs.Refused.{shown_held, HeldNamed, shown_next, NextNamed}
use Rattle.wire.specs.Wire.{HoldsAt}
use Rattle.probes.specs.Table.{widths, list_lines}
use Rattle.probes.specs.Verdict.{list_findings}
unfoldable pub use Rattle.moments.specs.Moments.{phase, candidate}

abbrev pub ask_lines : List ℕ → List ℕ → List ℕ → ℕ → List Line
ask_lines Ts ps ss t = list_lines Ts ps ss ++ (whole 11 (TooLate t) ∷ [])

unfoldable pub ask_findings : List ℕ → List ℕ → List ℕ → ℕ → List Found
ask_findings Ts ps ss t = list_findings Ts ps ss ++ (tested 11 (too_late t) ∷ [])

module _ (Ts qs ss : List ℕ) (t : ℕ) where
  -- r is the lowest probe that holds t, and the number of probes where none does
  unfoldable pub HeldBy : Answer → Type 0
  HeldBy a = (r : ℕ) × Lowest (λ i. HoldsAt Ts qs ss i t) (length Ts) r × (a ≡ refused 0 (pick (ltb r (length Ts)) r mark))

  unfoldable pub holds_test : ℕ → Bool
  holds_test i = both (leb (get_or ss i 0) t) (ltb (phase (get_or Ts i 0) (get_or ss i 0) t) (get_or qs i 0))

  unfoldable pub holder_of : Answer
  holder_of = refused 0 (pick (ltb (lowest holds_test (length Ts)) (length Ts)) (lowest holds_test (length Ts)) mark)

unfoldable pub Holder : List ℕ → List ℕ → List ℕ → ℕ → Answer → Type 0
Holder Ts ps ss t a = First (ask_lines Ts ps ss t) refused (HeldBy Ts (widths 0 ps) ss t) a

abbrev pub HolderGiven : List ℕ → List ℕ → List ℕ → ℕ → Result (Option Held) Refusal → Type 0
HolderGiven Ts ps ss t r = Holder Ts ps ss t (shown_held r) × HeldNamed r

unfoldable pub holder_answer : List ℕ → List ℕ → List ℕ → ℕ → Answer
holder_answer Ts ps ss t = first_of (ask_findings Ts ps ss t) refused (holder_of Ts (widths 0 ps) ss t)

abbrev pub Starts : ℕ → ℕ → ℕ → Type 0
Starts T s x = (s ≤ x) × ((x - s) % T ≡ 0)

module _ (Ts ss : List ℕ) (t : ℕ) where
  abbrev pub StartsAt : ℕ → ℕ → Type 0
  StartsAt i x = Starts (get_or Ts i 0) (get_or ss i 0) x

  -- probe i starts a read at x, no probe starts one from t on before x, and no lower probe starts one at x
  pub record IsNextStart (i x : ℕ) : Type 0 where
    pub probe : i < length Ts
    pub from : t ≤ x
    pub starts : StartsAt i x
    pub none_before : (k y : ℕ) → k < length Ts → t ≤ y → y < x → StartsAt k y → ⊥
    pub none-lower : (k : ℕ) → k < i → StartsAt k x → ⊥

  unfoldable pub NextStart : Answer → Type 0
  NextStart a =
      (((k y : ℕ) → k < length Ts → t ≤ y → StartsAt k y → ⊥) × (a ≡ refused 0 mark))
      ⊎ ((i : ℕ) × (x : ℕ) × IsNextStart i x × (a ≡ pair 0 i 0 x))

unfoldable pub NextFrom : List ℕ → List ℕ → List ℕ → ℕ → Answer → Type 0
NextFrom Ts ps ss t a = First (ask_lines Ts ps ss t) refused (NextStart Ts ss t) a

abbrev pub NextGiven : List ℕ → List ℕ → List ℕ → ℕ → Result (Option Next) Refusal → Type 0
NextGiven Ts ps ss t r = NextFrom Ts ps ss t (shown_next r) × NextNamed r

-- "none" or a probe and its start, folded over the probes from the first
unfoldable pub next_of : List ℕ → List ℕ → ℕ → ℕ → Answer
next_of Ts ss t zero = refused 0 mark
next_of Ts ss t (suc k) =
    let x : ℕ = candidate (get_or Ts k 0) (get_or ss k 0) t in
    let best : Answer = next_of Ts ss t k in
    pick (both (ltb 0 k) (leb best.tick x)) best (pair 0 k 0 x)

unfoldable pub next_answer : List ℕ → List ℕ → List ℕ → ℕ → Answer
next_answer Ts ps ss t = first_of (ask_findings Ts ps ss t) refused (next_of Ts ss t (length Ts))
