-- STARTS THAT THE PROMISE OF `to_starts` SHUTS OUT. Document 01, "Slots and sub-bins", number 18 and "Shortcuts that look right".
--     claim Ts ps xs ys ss a wrong   a table with its corners and the lent starts, the answer that the promise has for them, and what a wrong program leaves behind
--     Settled c                      each result that meets the promise has that answer, and the wrong result does not meet it
--     to-starts-shuts-out            every claim of the table is settled so
--     start-x                        the remainder by w of a start, whatever slot it has, is that of its x
-- Assumes nothing.
use Rattle.std.specs.Prelude.{◌≡◌, refl, false, List, [], ◌∷◌, ℕ, ◌%◌, ◌<◌, eqb, get_or}
use Rattle.std.proofs.Common.{sym, ap, ◌∙◌, arith}
use Rattle.std.proofs.Math.Nat.{add-mul-mod_self_left}
use Rattle.lists.specs.Pick.{any_below}
use Rattle.lists.specs.Lowest.{lowest, lowest_from}
use Rattle.lists.specs.Answering.{first_of}
use Rattle.lists.specs.Counted.{counted}
use Rattle.words.specs.declared.Answer.{Answer}
use Rattle.words.specs.Answers.{refused, done}
use Rattle.probes.specs.Table.{least_of, greatest_of, shortest, longest, rows, height}
use Rattle.probes.specs.Verdict.{divides, chained, bad_period, bad_length, unchained, findings}
use Rattle.chain.specs.Corners.{corner_y, start_of}
use Rattle.chain.proofs.CornerLaws.{grid-complete, corner-of-start}
use Rattle.chain.specs.Grid.{off_grid}
use Rattle.chain.specs.Grid.{off-grid-tells}
use Rattle.rectangles.specs.Converting.{Starts, as_starts, start_findings, done_starts, ToStarts, starts_of}
use Rattle.rectangles.specs.Checks.{starts-meet}
use Rattle.rectangles.proofs.Promises.{to-starts-unique}
use Rattle.shut_out.specs.Claims.{Each, ◌also◌, differs}
use Rattle.shut_out.specs.Corners.{doubled, ones, doubled-harmonic, slot-no-bin}

pub start-x : (Ts : List ℕ) (T x y : ℕ) → start_of Ts T x y % shortest Ts ≡ x % shortest Ts
unfolding start_of
start-x Ts T x y = add-mul-mod_self_left x (shortest Ts) _

pub record Claim : Type 0 where
  pub periods : List ℕ
  pub lengths : List ℕ
  pub xs : List ℕ
  pub ys : List ℕ
  pub starts : List ℕ
  pub answer : Answer
  pub wrong : Starts

abbrev claim : List ℕ → List ℕ → List ℕ → List ℕ → List ℕ → Answer → Starts → Claim
claim Ts ps xs ys ss a wrong = record { periods = Ts; lengths = ps; xs = xs; ys = ys; starts = ss; answer = a; wrong = wrong }

-- 10 with 5 and the corner 8, 0: the rectangle pokes out; one entry too many is lent
abbrev one : Starts → Claim
one wrong = claim (10 ∷ []) (5 ∷ []) (8 ∷ []) (0 ∷ []) (7777 ∷ 7777 ∷ []) done wrong

-- 10, 20 with 3, 4: heights 2 and 1 in two rows
abbrev two : List ℕ → List ℕ → Answer → Starts → Claim
two xs ys a wrong = claim (10 ∷ 20 ∷ []) (3 ∷ 4 ∷ []) xs ys (7777 ∷ 7777 ∷ []) a wrong

abbrev lent : List ℕ
lent = 7777 ∷ 7777 ∷ 7777 ∷ []

-- sub-bin 2 taken for slot 2
abbrev slots : Starts
slots = as_starts done (0 ∷ 0 ∷ 20 ∷ [])

abbrev pub claims : List Claim
claims =
    -- a conversion that always refuses; and one that refuses a rectangle that pokes out
    one (as_starts (refused 18 0) (7777 ∷ 7777 ∷ []))
    -- one "that leaves the columns untouched and says 0"
    ∷ one (as_starts done (7777 ∷ 7777 ∷ []))
    -- one "that returns the same starts": 0 for every corner
    ∷ one (as_starts done (0 ∷ 7777 ∷ []))
    -- an entry past the probes written
    ∷ one (as_starts done (8 ∷ 0 ∷ []))
    -- x and y swapped
    ∷ two (0 ∷ 3 ∷ []) (0 ∷ 1 ∷ []) done (as_starts done (0 ∷ 11 ∷ []))
    -- "a corner has x >= w": taken
    ∷ two (10 ∷ 3 ∷ []) (0 ∷ 1 ∷ []) (refused 18 0) (as_starts done (10 ∷ 13 ∷ []))
    -- "y not a multiple of h": taken
    ∷ two (0 ∷ 3 ∷ []) (1 ∷ 1 ∷ []) (refused 18 0) (as_starts done (0 ∷ 13 ∷ []))
    -- "or y >= H": taken
    ∷ two (0 ∷ 3 ∷ []) (0 ∷ 2 ∷ []) (refused 18 1) (as_starts done (0 ∷ 3 ∷ []))
    -- a corner off the grid refused by 9, a number "whose input it doesn't take"
    ∷ two (0 ∷ 3 ∷ []) (0 ∷ 2 ∷ []) (refused 18 1) (as_starts (refused 9 1) (7777 ∷ 7777 ∷ []))
    -- "Numbers 1 to 7, 9, 18 and 11 write nothing": the corner before it written
    ∷ two (0 ∷ 3 ∷ []) (0 ∷ 2 ∷ []) (refused 18 1) (as_starts (refused 18 1) (0 ∷ 7777 ∷ []))
    -- 18 before 7
    ∷ claim (10 ∷ []) (5 ∷ []) (10 ∷ []) (0 ∷ []) [] (refused 7 0) (as_starts (refused 18 0) [])
    -- a corner that is missing taken for 0
    ∷ claim (10 ∷ []) (5 ∷ []) (8 ∷ []) [] (7777 ∷ []) (refused 1 0) (as_starts done (8 ∷ []))
    -- "Using the sub-bin number as the slot number"
    ∷ claim doubled ones (0 ∷ 0 ∷ 0 ∷ []) (0 ∷ 0 ∷ 2 ∷ []) lent done slots
    ∷ []

abbrev pub Meets : Claim → Starts → Type 0
Meets c o = ToStarts c.periods c.lengths c.xs c.ys c.starts o

abbrev pub Settled : Claim → Type 0
Settled c = ((o : Starts) → Meets c o → o.answer ≡ c.answer) × (Meets c c.wrong → ⊥)

module _ (c : Claim) where
  abbrev made : Starts
  made = starts_of c.periods c.lengths c.xs c.ys c.starts

  only : (o : Starts) → Meets c o → o ≡ made
  only o p = to-starts-unique _ _ _ _ _ o made p (starts-meet _ _ _ _ _)

  settled-by : made.answer ≡ c.answer → (c.wrong ≡ made → ⊥) → Settled c
  settled-by a other = (λ o p. ap (λ (r : Starts). r.answer) (only o p) ∙ a, λ p. other (only c.wrong p))

  settled : made.answer ≡ c.answer → (see : Starts → ℕ) (m : ℕ) → see made ≡ m → eqb (see c.wrong) m ≡ false → Settled c
  settled a see m e n = settled-by a (differs see made c.wrong m e n)

abbrev number : Starts → ℕ
number o = o.answer.number

abbrev start : ℕ → Starts → ℕ
start i o = get_or o.starts i 0

-- the corner of the start that corner 0, y of probe i has
back : (i y : ℕ) → i < 3 → off_grid doubled (0 ∷ 0 ∷ 0 ∷ []) (0 ∷ 0 ∷ 2 ∷ []) i ≡ false → get_or (0 ∷ 0 ∷ 2 ∷ []) i 0 ≡ y
    → corner_y doubled (get_or doubled i 0) (start_of doubled (get_or doubled i 0) (get_or (0 ∷ 0 ∷ 0 ∷ []) i 0) y) ≡ y
back i y h g e =
    rw e at
    (corner-of-start doubled doubled-harmonic i h _ _ (grid-complete _ _ _ _ ((off-grid-tells doubled (0 ∷ 0 ∷ 0 ∷ []) (0 ∷ 0 ∷ 2 ∷ []) i).no g))).1

slots-wrong : slots ≡ starts_of doubled ones (0 ∷ 0 ∷ 0 ∷ []) (0 ∷ 0 ∷ 2 ∷ []) lent → ⊥
unfolding any_below lowest lowest_from first_of least_of greatest_of shortest longest rows height divides chained bad_period bad_length unchained findings off_grid start_findings done_starts starts_of counted
slots-wrong e =
    let second : 1 < 3 = omega arith in
    let third : 2 < 3 = omega arith in
    slot-no-bin (sym (ap (corner_y doubled 20) (ap (start 1) e) ∙ back 1 0 second refl refl)) (sym (ap (corner_y doubled 40) (ap (start 2) e) ∙ back 2 2 third refl refl))

pub to-starts-shuts-out : Each Settled claims
unfolding any_below lowest lowest_from first_of least_of greatest_of shortest longest rows height divides chained bad_period bad_length unchained findings off_grid start_findings done_starts starts_of counted
to-starts-shuts-out =
    settled _ refl number 0 refl refl
    also settled _ refl (λ o. start 0 o % 10) 8 (start-x (10 ∷ []) 10 8 0) refl
    also settled _ refl (λ o. start 0 o % 10) 8 (start-x (10 ∷ []) 10 8 0) refl
    also settled _ refl (start 1) 7777 refl refl
    also settled _ refl (λ o. start 1 o % 10) 3 (start-x (10 ∷ 20 ∷ []) 20 3 1) refl
    also settled _ refl number 18 refl refl
    also settled _ refl number 18 refl refl
    also settled _ refl number 18 refl refl
    also settled _ refl number 18 refl refl
    also settled _ refl (start 0) 7777 refl refl
    also settled _ refl number 7 refl refl
    also settled _ refl number 1 refl refl
    also settled-by _ refl slots-wrong
    also tt
