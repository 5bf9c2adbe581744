-- THE THREE DEMANDS OF THE CUSTOMER, as three statements; proofs/Demands has the theorems. Open this file first: each statement is in words of the definitions alone.
--     DemandOne                 Any input is answered: by the refusal of the first line that applies, in 01's order and at its lowest place, with the lent columns as they were; and where
--                               none applies, by what the call is for. That each call ends is no sentence of this page: the verdict of its crate says it.
--     DemandTwo                 Over a sound table: passing is that no two probes ever hold the same tick, the published condition says the same, planning is first fit, and starts
--                               and rectangles turn into one another without loss.
--     DemandThree               In a list that passes each probe has its share of the wire, and has it alone; where there is room every probe gets a place.
-- Words: Ts ps ss are periods, lengths and starts; n is length Ts; a probe is its place i; what is said of a call is said of every result o that meets its promise.
--     Validates, ToCorners, ToStarts, Plans, Checks, Holder, NextFrom, Reads, Writes     the promises of the nine calls      (table, packing, checker, timetable, book)
--     Exports, PlanPrints, CheckPrints     those of the three exports, and of the two pages                                  (masters, pages)
--     ToldOf q bs out o         o shows what the book bs answers to the question q: the refusal of the reading rules, or of the list, or the answer                (masters/Exports)
--     First ls refuse Rest o    o is the refusal of the first of the lines that applies, at its lowest place; where none does, Rest holds of o                   (lists/Refusals)
--     lines, corner_lines, ..    the lines of 01's table that a call asks, each number with its exact condition                                                   (table/Table, ..)
--     numbers ls                the numbers of the lines, in order; per_block k has those of a book of k blocks
--     Sound Ts ps               "A table is sound when none of 1 to 6 applies"                                                                                   (table/Table)
--     HoldsAt Ts ps ss i t      probe i holds tick t; held_in counts the ticks of a stretch that one probe holds                                                  (wire/Wire, wire/Window)
--     Clean Ts ps ss            no tick is held by two probes, over every tick there is                                                                          (wire/Wire)
--     Published Ts ps ss        the published collision condition, of every pair                                                                                 (specs/Meeting)
--     Before, order             the planning order with 01's ties                                                                                                (order/Order)
--     Follows, StopsAt          first fit over rows; the probe at which it stops                                                                                 (stack/Follows, stack/Eight)
--     Packs Ts ps ps ss         the packing verdict, with its move to o                                                                                          (stack/Packing)
--     OffGrid Ts T x y          number 18 refuses the corner                                                                                                     (chain/Corners)
--     Room Ts ps                busy ticks of one longest period, and the longest read once for each shortest period in it, come to at most that period          (stack/Room)
-- Edges: no call asks anything of its input; the empty table is sound.
-- Assumes nothing.
use Rattle.std.specs.Prelude.{◌≡◌, ◌↔◌, ◌⊎◌, ◌≢◌, List, [], ◌∷◌, ◌++◌, ℕ, ◌+◌, ◌≤◌, ◌<◌, length, get_or, take, drop, replicate}
use Rattle.lists.specs.Pick.{In}
use Rattle.lists.specs.Refusals.{Line, First, numbers}
use Rattle.lists.specs.Sums.{sum_below}
use Rattle.words.specs.declared.Answer.{Answer}
use Rattle.words.specs.Answers.{refused, done, mark}
use Rattle.wire.specs.Wire.{HoldsAt, Clean}
use Rattle.wire.specs.Window.{held_in}
use Rattle.probes.specs.Table.{lines, list_lines, Differ, Sound, longest, rows, widths}
use Rattle.probes.specs.Verdict.{Validates, verdict}
use Rattle.chain.specs.Corners.{OffGrid}
use Rattle.order.specs.Order.{Before, order}
use Rattle.stack.specs.FirstFit.{Outcome, outcome, plan_lines, placed}
use Rattle.stack.specs.Follows.{Follows}
use Rattle.stack.specs.Eight.{StopsAt}
use Rattle.stack.specs.Packing.{Packs}
use Rattle.stack.specs.Room.{busy_ticks, Room}
use Rattle.rectangles.specs.Converting.{Corners, corners, corner_lines, done_corners, ToCorners, Starts, as_starts, start_lines, done_starts, ToStarts}
use Rattle.rectangles.specs.Plan.{Plans}
use Rattle.meetings.specs.Check.{Judged, Checks, checked}
use Rattle.hours.specs.Timetable.{ask_lines, HeldBy, Holder, NextStart, NextFrom}
use Rattle.sheets.specs.Layout.{first_edition}
use Rattle.volumes.specs.Reading.{blocks_in, columns, read_lines, done_read, Reads}
use Rattle.volumes.specs.Writing.{pages, write_lines, done_write, Writes}
use Rattle.questions.specs.declared.Question.TheVariants.{IsClean, HolderAt, StartFrom}
use Rattle.exports.specs.Exports.{given, export_lines, ToldOf, Exports}
use Rattle.lines.specs.Laws.{most_check}
use Rattle.paper.specs.Printed.{plan_page, check_page}
use Rattle.paper.specs.Paper.{most_plan, paper, paper_lines, done_paper, PlanPrints, CheckPrints}
use Rattle.demands.specs.Meeting.{Published}
use Rattle.demands.specs.BookOrder.{per_block}

-- DEMAND 1, of one call with the promise P: there is a result, and no second one; it is the first line's that applies, and where none does it is Rest's; the lines are asked in
-- the order ns; and no number is given but those of all
pub record Determined {O : Type 0} (P : O → Type 0) (number : O → ℕ) (ls : List Line) (refuse : ℕ → ℕ → O) (Rest : O → Type 0) (ns all : List ℕ) : Type 0 where
  pub some : (o : O) × P o
  pub one : (a b : O) → P a → P b → a ≡ b
  pub first : (o : O) → P o ↔ First ls refuse Rest o
  pub asked : numbers ls ≡ ns
  pub listed : (o : O) → P o → In (number o) all

-- of every call: each refusal of the lines leaves the lent columns as they were
pub record DemandOne : Type 0 where
  pub validate : (Ts ps : List ℕ)
      → Determined (Validates Ts ps) (λ a. a.number) (lines Ts ps (Differ Ts ps)) refused (λ a. a ≡ done)
      (1 ∷ 2 ∷ 3 ∷ 4 ∷ 5 ∷ 6 ∷ []) (0 ∷ 1 ∷ 2 ∷ 3 ∷ 4 ∷ 5 ∷ 6 ∷ [])
  pub to-corners : (Ts ps ss xs ys : List ℕ)
      → Determined (ToCorners Ts ps ss xs ys) (λ o. o.answer.number) (corner_lines Ts ps ss xs ys) (λ k i. corners (refused k i) xs ys) (λ o. o ≡ done_corners Ts ps ss xs ys)
      (1 ∷ 2 ∷ 3 ∷ 4 ∷ 5 ∷ 6 ∷ 7 ∷ 9 ∷ []) (0 ∷ 1 ∷ 2 ∷ 3 ∷ 4 ∷ 5 ∷ 6 ∷ 7 ∷ 9 ∷ [])
  pub to-starts : (Ts ps xs ys ss : List ℕ)
      → Determined (ToStarts Ts ps xs ys ss) (λ o. o.answer.number) (start_lines Ts ps xs ys ss) (λ k i. as_starts (refused k i) ss) (λ o. o ≡ done_starts Ts ps xs ys ss)
      (1 ∷ 2 ∷ 3 ∷ 4 ∷ 5 ∷ 6 ∷ 7 ∷ 18 ∷ []) (0 ∷ 1 ∷ 2 ∷ 3 ∷ 4 ∷ 5 ∷ 6 ∷ 7 ∷ 18 ∷ [])
  pub plan : (Ts ps ss fs : List ℕ)
      → Determined (Plans Ts ps ss fs) (λ o. o.answer.number) (plan_lines Ts ps ss fs) (λ k i. outcome (refused k i) ss fs) (λ o. o ≡ placed Ts ps ss fs)
      (1 ∷ 2 ∷ 3 ∷ 4 ∷ 5 ∷ 6 ∷ 7 ∷ []) (0 ∷ 1 ∷ 2 ∷ 3 ∷ 4 ∷ 5 ∷ 6 ∷ 7 ∷ 8 ∷ [])
  pub check : (Ts ps ss : List ℕ)
      → Determined (Checks Ts ps ss) (λ a. a.number) (list_lines Ts ps ss) refused (Judged Ts (widths 0 ps) ss)
      (1 ∷ 2 ∷ 3 ∷ 4 ∷ 5 ∷ 6 ∷ 9 ∷ []) (0 ∷ 1 ∷ 2 ∷ 3 ∷ 4 ∷ 5 ∷ 6 ∷ 9 ∷ 10 ∷ [])
  pub holder : (Ts ps ss : List ℕ) (t : ℕ)
      → Determined (Holder Ts ps ss t) (λ a. a.number) (ask_lines Ts ps ss t) refused (HeldBy Ts (widths 0 ps) ss t)
      (1 ∷ 2 ∷ 3 ∷ 4 ∷ 5 ∷ 6 ∷ 9 ∷ 11 ∷ []) (0 ∷ 1 ∷ 2 ∷ 3 ∷ 4 ∷ 5 ∷ 6 ∷ 9 ∷ 11 ∷ [])
  pub next_start : (Ts ps ss : List ℕ) (t : ℕ)
      → Determined (NextFrom Ts ps ss t) (λ a. a.number) (ask_lines Ts ps ss t) refused (NextStart Ts ss t)
      (1 ∷ 2 ∷ 3 ∷ 4 ∷ 5 ∷ 6 ∷ 9 ∷ 11 ∷ []) (0 ∷ 1 ∷ 2 ∷ 3 ∷ 4 ∷ 5 ∷ 6 ∷ 9 ∷ 11 ∷ [])
  pub read : (bs Ts ps ss : List ℕ)
      → Determined (Reads first_edition bs Ts ps ss) (λ o. o.answer.number) (read_lines first_edition bs Ts ps ss) (λ k i. columns (refused k i) Ts ps ss)
      (λ o. o ≡ done_read first_edition bs Ts ps ss) (20 ∷ per_block (blocks_in bs)) (0 ∷ 20 ∷ 21 ∷ 22 ∷ 23 ∷ 24 ∷ [])
  pub write : (Ts ps ss out : List ℕ)
      → Determined (Writes first_edition Ts ps ss out) (λ o. o.answer.number) (write_lines first_edition Ts ps ss out) (λ k i. pages (refused k i) out)
      (λ o. o ≡ done_write first_edition Ts ps ss out) (1 ∷ 2 ∷ 7 ∷ []) (0 ∷ 1 ∷ 2 ∷ 7 ∷ [])
  -- the exports: where 7 does not apply, the bytes show what the book answers, refusals included
  pub line-check : (bs out : List ℕ)
      → Determined (Exports IsClean bs out) (λ o. o.number) (export_lines IsClean bs out) (λ k i. given k out) (ToldOf IsClean bs out)
      (7 ∷ []) (7 ∷ 20 ∷ 21 ∷ 22 ∷ 23 ∷ 3 ∷ 4 ∷ 5 ∷ 6 ∷ 9 ∷ 0 ∷ 10 ∷ [])
  pub line-holder : (bs out : List ℕ) (t : ℕ)
      → Determined (Exports (HolderAt t) bs out) (λ o. o.number) (export_lines (HolderAt t) bs out) (λ k i. given k out) (ToldOf (HolderAt t) bs out)
      (7 ∷ []) (7 ∷ 20 ∷ 21 ∷ 22 ∷ 23 ∷ 3 ∷ 4 ∷ 5 ∷ 6 ∷ 9 ∷ 11 ∷ 0 ∷ [])
  pub line-next-start : (bs out : List ℕ) (t : ℕ)
      → Determined (Exports (StartFrom t) bs out) (λ o. o.number) (export_lines (StartFrom t) bs out) (λ k i. given k out) (ToldOf (StartFrom t) bs out)
      (7 ∷ []) (7 ∷ 20 ∷ 21 ∷ 22 ∷ 23 ∷ 3 ∷ 4 ∷ 5 ∷ 6 ∷ 9 ∷ 11 ∷ 0 ∷ [])
  -- what the programs print, put into lent bytes
  pub plan-page : (bs out : List ℕ)
      → Determined (PlanPrints bs out) (λ o. o.answer.number) (paper_lines most_plan (plan_page bs) out) (λ k i. paper (refused k i) out) (λ o. o ≡ done_paper most_plan (plan_page bs) out)
      (7 ∷ []) (0 ∷ 7 ∷ [])
  pub check-page : (bs out : List ℕ)
      → Determined (CheckPrints bs out) (λ o. o.answer.number) (paper_lines most_check (check_page bs) out) (λ k i. paper (refused k i) out) (λ o. o ≡ done_paper most_check (check_page bs) out)
      (7 ∷ []) (0 ∷ 7 ∷ [])

-- DEMAND 2, planning: the starts and the first H fills are what first fit over empty rows gives, and nothing else is; it ends with 0, or with 8 where first fit stops; the starts of 0
-- lie below their periods, are clean and pass the checker
pub record FirstFit (Ts ps ss fs : List ℕ) (o : Outcome) : Type 0 where
  pub after : List ℕ
  pub fills : o.fills ≡ after ++ drop (rows Ts) fs
  pub follows : (r : Outcome) → Follows Ts ps (order Ts ps) ss (replicate (rows Ts) 0) r ↔ (r ≡ outcome o.answer o.starts after)
  pub ended : (o.answer ≡ done) ⊎ ((i : ℕ) × (o.answer ≡ refused 8 i) × StopsAt Ts ps (order Ts ps) ss (replicate (rows Ts) 0) i)
  pub below : o.answer ≡ done → (i : ℕ) → i < length Ts → get_or o.starts i 0 < get_or Ts i 0
  pub clean : o.answer ≡ done → Clean Ts ps o.starts
  pub checked : o.answer ≡ done → (a : Answer) → Checks Ts ps (take (length Ts) o.starts) a → a ≡ done

pub record DemandTwo (Ts ps : List ℕ) : Type 0 where
  -- the checker's answer to starts that lie below their periods is 0 exactly when no tick there is, ever, is held by two probes
  pub passes : (ss : List ℕ) → length Ts ≡ length ss → ((i : ℕ) → i < length Ts → get_or ss i 0 < get_or Ts i 0) → (a : Answer) → Checks Ts ps ss a → (a ≡ done) ↔ Clean Ts ps ss
  -- and exactly when the published condition holds of every pair
  pub condition : (ss : List ℕ) → Clean Ts ps ss ↔ Published Ts ps ss
  -- and exactly when the rectangles, moved to o, lie inside the width and apart
  pub verdict : (ss : List ℕ) → length Ts ≡ length ss → ((i : ℕ) → i < length Ts → get_or ss i 0 < get_or Ts i 0) → Packs Ts ps ps ss ↔ Clean Ts ps ss
  -- planning is first fit, in an order that has every probe once and 01's ties
  pub planning : (ss fs : List ℕ) → length Ts ≤ length ss → rows Ts ≤ length fs → (o : Outcome) → Plans Ts ps ss fs o → FirstFit Ts ps ss fs o
  pub as-many : length (order Ts ps) ≡ length Ts
  pub ties : (k l : ℕ) → k < l → l < length Ts → Before Ts ps (get_or (order Ts ps) k 0) (get_or (order Ts ps) l 0)
  pub every : (i : ℕ) → i < length Ts → (k : ℕ) × (k < length Ts) × (get_or (order Ts ps) k 0 ≡ i) × ((l : ℕ) → l < length Ts → get_or (order Ts ps) l 0 ≡ i → l ≡ k)
  -- starts below their periods turn into rectangles, and these into the same starts
  pub rectangles : (ss xs ys zs : List ℕ) → length Ts ≡ length ss → ((i : ℕ) → i < length Ts → get_or ss i 0 < get_or Ts i 0)
      → length Ts ≤ length xs → length Ts ≤ length ys → length Ts ≤ length zs → (o : Corners) (r : Starts) → ToCorners Ts ps ss xs ys o
      → ToStarts Ts ps (take (length Ts) o.xs) (take (length Ts) o.ys) zs r
      → (o.answer ≡ done) × (r ≡ as_starts done (ss ++ drop (length Ts) zs))
  -- corners that 18 doesn't refuse turn into starts, and these into the same corners
  pub starts : (xs ys ss us vs : List ℕ) → length Ts ≡ length xs → length Ts ≡ length ys → ((i : ℕ) → i < length Ts → OffGrid Ts (get_or Ts i 0) (get_or xs i 0) (get_or ys i 0) → ⊥)
      → length Ts ≤ length ss → length Ts ≤ length us → length Ts ≤ length vs → (o : Starts) (r : Corners) → ToStarts Ts ps xs ys ss o
      → ToCorners Ts ps (take (length Ts) o.starts) us vs r
      → (o.answer ≡ done) × (r ≡ corners done (xs ++ drop (length Ts) us) (ys ++ drop (length Ts) vs))

pub record DemandThree (Ts ps : List ℕ) : Type 0 where
  -- counted from any tick that is not before the probe's first start: of the next T ticks exactly p are the probe's, and none of these is another's too
  pub share : (ss : List ℕ) → Checks Ts ps ss done → (i a : ℕ) → i < length Ts → get_or ss i 0 ≤ a
      → (held_in (get_or Ts i 0) (get_or ps i 0) (get_or ss i 0) a (get_or Ts i 0) ≡ get_or ps i 0)
      × ((j t : ℕ) → j < length Ts → i ≢ j → a ≤ t → t < a + get_or Ts i 0 → HoldsAt Ts ps ss i t → HoldsAt Ts ps ss j t → ⊥)
  -- a sound table with Room, planned into columns that are long enough: done, and no start is the mark
  pub room : Sound Ts ps → Room Ts ps → (ss fs : List ℕ) → length Ts ≤ length ss → rows Ts ≤ length fs → (o : Outcome) → Plans Ts ps ss fs o
      → (o.answer ≡ done) × ((i : ℕ) → i < length Ts → get_or o.starts i 0 ≢ mark)
  -- the busy ticks of Room are ticks of the wire: those that the probes hold in M ticks in a row, from all their starts on
  pub busy : Sound Ts ps → (ss : List ℕ) (a : ℕ) → ((i : ℕ) → i < length Ts → get_or ss i 0 ≤ a)
      → sum_below (λ i. held_in (get_or Ts i 0) (get_or ps i 0) (get_or ss i 0) a (longest Ts)) (length Ts) ≡ busy_ticks Ts ps
