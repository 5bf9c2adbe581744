-- CORNERS THAT THE PROMISE OF `to_corners` SHUTS OUT. Document 01, "Slots and sub-bins" and "Shortcuts that look right".
--     claim Ts ps ss xs ys a rs wrong   a list with its lent columns, the answer and the x column that the promise has for it, and what a wrong program leaves behind
--     Settled c                         each result that meets the promise has that answer and that x column, and the wrong result does not meet it
--     to-corners-shuts-out              every claim of the table is settled so
--     slot-no-bin                       periods 10, 20, 40: slot 2 of 40 is not its own sub-bin, where slot 0 of 20 is
-- Assumes nothing.
use Rattle.std.specs.Prelude.{◌≡◌, refl, false, List, [], ◌∷◌, ℕ, ◌≤◌, ◌<◌, eqb, get_or}
use Rattle.std.proofs.Common.{ap, ◌∙◌, arith}
use Rattle.lists.specs.Pick.{any_below}
use Rattle.lists.specs.Lowest.{lowest, lowest_from}
use Rattle.lists.specs.Answering.{first_of}
use Rattle.lists.specs.Counted.{counted}
use Rattle.lists.specs.Harmonic.{Harmonic}
use Rattle.words.specs.declared.Answer.{Answer}
use Rattle.words.specs.Answers.{refused, done, pair, mark}
use Rattle.probes.specs.Table.{least_of, greatest_of, shortest, longest, rows, height}
use Rattle.probes.specs.Verdict.{divides, chained, bad_period, bad_length, unchained, late, findings, verdict}
use Rattle.probes.proofs.Laws.{passes-sound, sound-gives}
use Rattle.chain.proofs.FlipLaws.{flip-prefix}
use Rattle.chain.specs.Ratios.{ratios}
use Rattle.chain.proofs.RatioLaws.{ratios-level, ratios-positive}
use Rattle.chain.specs.Corners.{corner_x, corner_y}
use Rattle.rectangles.specs.Converting.{Corners, corners, corner_findings, done_corners, ToCorners, corners_of}
use Rattle.rectangles.specs.Checks.{corners-meet}
use Rattle.rectangles.proofs.Promises.{to-corners-unique}
use Rattle.shut_out.specs.Claims.{Each, ◌also◌, differs}

pub record Claim : Type 0 where
  pub periods : List ℕ
  pub lengths : List ℕ
  pub starts : List ℕ
  pub xs : List ℕ
  pub ys : List ℕ
  pub answer : Answer
  pub right : List ℕ
  pub wrong : Corners

abbrev claim : List ℕ → List ℕ → List ℕ → List ℕ → List ℕ → Answer → List ℕ → Corners → Claim
claim Ts ps ss xs ys a rs wrong = record { periods = Ts; lengths = ps; starts = ss; xs = xs; ys = ys; answer = a; right = rs; wrong = wrong }

-- 10 with 5 and start 8: the rectangle pokes out; one entry too many is lent in each column
abbrev one : Corners → Claim
one wrong = claim (10 ∷ []) (5 ∷ []) (8 ∷ []) (7777 ∷ 7777 ∷ []) (7777 ∷ 7777 ∷ []) done (8 ∷ 7777 ∷ []) wrong

-- 10, 20 with 3, 4 and starts 0, 13
abbrev two : Corners → Claim
two wrong = claim (10 ∷ 20 ∷ []) (3 ∷ 4 ∷ []) (0 ∷ 13 ∷ []) (7777 ∷ 7777 ∷ []) (7777 ∷ 7777 ∷ []) done (0 ∷ 3 ∷ []) wrong

-- 10 with 5 and a start that is its period
abbrev late-one : Corners → Claim
late-one wrong = claim (10 ∷ []) (5 ∷ []) (10 ∷ []) (7777 ∷ []) (7777 ∷ []) (refused 9 0) (7777 ∷ []) wrong

abbrev pub doubled : List ℕ
doubled = 10 ∷ 20 ∷ 40 ∷ []

abbrev pub ones : List ℕ
ones = 1 ∷ 1 ∷ 1 ∷ []

abbrev lent : List ℕ
lent = 7777 ∷ 7777 ∷ 7777 ∷ []

-- slot 2 taken for sub-bin 2
abbrev slots : Corners
slots = corners done (0 ∷ 0 ∷ 0 ∷ []) (0 ∷ 0 ∷ 2 ∷ [])

abbrev pub claims : List Claim
claims =
    -- a conversion that always refuses
    one (corners (refused 9 0) (7777 ∷ 7777 ∷ []) (7777 ∷ 7777 ∷ []))
    -- one "that leaves the columns untouched and says 0"
    ∷ one (corners done (7777 ∷ 7777 ∷ []) (7777 ∷ 7777 ∷ []))
    -- "This conversion moves nothing": the list moved to o
    ∷ one (corners done (0 ∷ 7777 ∷ []) (0 ∷ 7777 ∷ []))
    -- an entry past the probes written
    ∷ one (corners done (8 ∷ 0 ∷ []) (0 ∷ 7777 ∷ []))
    -- "and doesn't ask for a clean list": two that meet refused by 10
    ∷ claim (10 ∷ 10 ∷ []) (6 ∷ 5 ∷ []) (0 ∷ 5 ∷ []) (7777 ∷ 7777 ∷ []) (7777 ∷ 7777 ∷ []) done (0 ∷ 5 ∷ []) (corners (pair 10 0 1 5) (7777 ∷ 7777 ∷ []) (7777 ∷ 7777 ∷ []))
    -- x and y swapped
    ∷ two (corners done (0 ∷ 1 ∷ []) (0 ∷ 3 ∷ []))
    -- x as the start itself
    ∷ two (corners done (0 ∷ 13 ∷ []) (0 ∷ 1 ∷ []))
    -- a start of T taken
    ∷ late-one (corners done (0 ∷ []) (0 ∷ []))
    -- a start of T refused by 18, a number "whose input it doesn't take"
    ∷ late-one (corners (refused 18 0) (7777 ∷ []) (7777 ∷ []))
    -- "Numbers 1 to 7, 9, 18 and 11 write nothing"
    ∷ late-one (corners (refused 9 0) (0 ∷ []) (7777 ∷ []))
    -- the mark taken for a start: "handed back in a list it is refused as 9"
    ∷ claim (10 ∷ []) (5 ∷ []) (mark ∷ []) (7777 ∷ []) (7777 ∷ []) (refused 9 0) (7777 ∷ []) (corners done (mark ∷ []) (0 ∷ []))
    -- 9 before 7
    ∷ claim (10 ∷ []) (5 ∷ []) (10 ∷ []) [] (7777 ∷ []) (refused 7 0) [] (corners (refused 9 0) [] (7777 ∷ []))
    -- "Using the sub-bin number as the slot number", from a slot
    ∷ claim doubled ones (0 ∷ 0 ∷ 20 ∷ []) lent lent done (0 ∷ 0 ∷ 0 ∷ []) slots
    ∷ []

abbrev pub Meets : Claim → Corners → Type 0
Meets c o = ToCorners c.periods c.lengths c.starts c.xs c.ys o

abbrev pub Settled : Claim → Type 0
Settled c = ((o : Corners) → Meets c o → (o.answer ≡ c.answer) × (o.xs ≡ c.right)) × (Meets c c.wrong → ⊥)

module _ (c : Claim) where
  abbrev made : Corners
  made = corners_of c.periods c.lengths c.starts c.xs c.ys

  only : (o : Corners) → Meets c o → o ≡ made
  only o p = to-corners-unique _ _ _ _ _ o made p (corners-meet _ _ _ _ _)

  settled-by : made.answer ≡ c.answer → made.xs ≡ c.right → (c.wrong ≡ made → ⊥) → Settled c
  settled-by a f other = (λ o p. (ap (λ (r : Corners). r.answer) (only o p) ∙ a, ap (λ (r : Corners). r.xs) (only o p) ∙ f), λ p. other (only c.wrong p))

  settled : made.answer ≡ c.answer → made.xs ≡ c.right → (see : Corners → ℕ) (m : ℕ) → see made ≡ m → eqb (see c.wrong) m ≡ false → Settled c
  settled a f see m e n = settled-by a f (differs see made c.wrong m e n)

abbrev number : Corners → ℕ
number o = o.answer.number

abbrev x_of : ℕ → Corners → ℕ
x_of i o = get_or o.xs i 0

abbrev y_of : ℕ → Corners → ℕ
y_of i o = get_or o.ys i 0

pub doubled-harmonic : Harmonic doubled
unfolding any_below lowest lowest_from first_of least_of greatest_of shortest longest rows divides chained bad_period bad_length unchained findings verdict
doubled-harmonic = (sound-gives doubled ones (passes-sound doubled ones refl)).harmonic

-- by the prefix law alone
pub slot-no-bin : 0 ≡ corner_y doubled 20 0 → 2 ≡ corner_y doubled 40 20 → ⊥
unfolding corner_y height shortest least_of longest greatest_of
slot-no-bin a b =
    let ha = doubled-harmonic in
    let second : 1 < 3 = omega arith in
    let third : 2 < 3 = omega arith in
    let less : 2 ≤ 4 = omega arith in
    let e = flip-prefix (ratios doubled) 2 4 (ratios-positive doubled ha) (ratios-level doubled ha 1 second) (ratios-level doubled ha 2 third) less 2 in
    omega (arith, e)

slots-wrong : slots ≡ corners_of doubled ones (0 ∷ 0 ∷ 20 ∷ []) lent lent → ⊥
unfolding any_below lowest lowest_from first_of least_of greatest_of shortest longest rows divides chained bad_period bad_length unchained late findings corner_findings done_corners corners_of counted
slots-wrong e = slot-no-bin (ap (y_of 1) e) (ap (y_of 2) e)

pub to-corners-shuts-out : Each Settled claims
unfolding any_below lowest lowest_from first_of least_of greatest_of shortest longest rows divides chained bad_period bad_length unchained late findings corner_findings done_corners corners_of counted corner_x
to-corners-shuts-out =
    settled _ refl refl number 0 refl refl
    also settled _ refl refl (x_of 0) 8 refl refl
    also settled _ refl refl (x_of 0) 8 refl refl
    also settled _ refl refl (x_of 1) 7777 refl refl
    also settled _ refl refl number 0 refl refl
    also settled _ refl refl (x_of 1) 3 refl refl
    also settled _ refl refl (x_of 1) 3 refl refl
    also settled _ refl refl number 9 refl refl
    also settled _ refl refl number 9 refl refl
    also settled _ refl refl (x_of 0) 7777 refl refl
    also settled _ refl refl number 9 refl refl
    also settled _ refl refl number 7 refl refl
    also settled-by _ refl refl slots-wrong
    also tt
