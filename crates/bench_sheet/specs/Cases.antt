-- THE BENCH SHEET: THE CASES MARKED P. Document 01, "Bench sheet". One table; specs/Proved has the one theorem.
--     Flips bs m v j            with ratios bs, slot v of m slots flips to j
--     Plans Ts ps a ss fs text  the table is planned with answer a, starts ss and fills fs, and `plan` prints text of it, whole
--     Checked Ts ps ss a        the checker's answer to the list
--     IsClean Ts ps ss          no tick is held by two probes, over every tick there is
--     Judged Ts ps a            the answer of validation
--     Sums Ts ps ss a b         the two sums of the first block of the book
--     True c                    what the case says, in words of the definitions
-- The lent columns are as long as the result, and hold 7 before the call.
-- Assumes nothing.
use Rattle.std.specs.Prelude.{◌≡◌, List, [], ◌∷◌, ℕ, length, replicate}
use Prim.Native.String.{String}
use Rattle.words.specs.declared.Answer.{Answer}
use Rattle.words.specs.Answers.{done, refused, pair, mark}
use Rattle.wire.specs.Wire.{Clean}
use Rattle.probes.specs.Table.{rows, widths}
use Rattle.probes.specs.Verdict.{verdict}
use Rattle.chain.specs.Flip.{flip}
use Rattle.stack.specs.FirstFit.{outcome, planned}
use Rattle.meetings.specs.Check.{checked}
use Rattle.sheets.specs.Bytes.{word}
use Rattle.sheets.specs.Layout.{first_edition, sum_place, sum_place2}
use Rattle.volumes.specs.Writing.{book_of}
use Rattle.text.specs.Text.{letters}
use Rattle.paper.specs.Printed.{plan_text}

pub data Case : Type 0 where
  Flips : List ℕ → ℕ → ℕ → ℕ → Case
  Plans : List ℕ → List ℕ → Answer → List ℕ → List ℕ → String → Case
  Checked : List ℕ → List ℕ → List ℕ → Answer → Case
  IsClean : List ℕ → List ℕ → List ℕ → Case
  Judged : List ℕ → List ℕ → Answer → Case
  Sums : List ℕ → List ℕ → List ℕ → ℕ → ℕ → Case

abbrev pub True : Case → Type 0
True (Flips bs m v j) = flip bs m v ≡ j
True (Plans Ts ps a ss fs text) =
    (planned Ts ps (replicate (length Ts) 7) (replicate (rows Ts) 7) ≡ outcome a ss fs)
    × (plan_text Ts ps (planned Ts ps (replicate (length Ts) 7) (replicate (rows Ts) 7)) ≡ letters text)
True (Checked Ts ps ss a) = checked Ts ps ss ≡ a
True (IsClean Ts ps ss) = Clean Ts (widths 0 ps) ss
True (Judged Ts ps a) = verdict Ts ps ≡ a
True (Sums Ts ps ss a b) = (word 4 sum_place (book_of first_edition Ts ps ss) ≡ a) × (word 4 sum_place2 (book_of first_edition Ts ps ss) ≡ b)

abbrev pub AllTrue : List Case → Type 0
AllTrue [] = Unit {0}
AllTrue (c ∷ cs) = True c × AllTrue cs

abbrev pub cases : List Case
cases =
    -- "ratios 2, 2, 3, slot 10 flips to 5"
    Flips (2 ∷ 2 ∷ 3 ∷ []) 12 10 5
    -- "periods 10, 20, 20, 60, 60, lengths 3, 4, 5, 2, 3: starts 0, 13, 3, 8, 17; fills 10, 8, 8, 10, 7, 7. `plan` prints, whole"
    ∷ Plans (10 ∷ 20 ∷ 20 ∷ 60 ∷ 60 ∷ []) (3 ∷ 4 ∷ 5 ∷ 2 ∷ 3 ∷ []) done (0 ∷ 13 ∷ 3 ∷ 8 ∷ 17 ∷ []) (10 ∷ 8 ∷ 8 ∷ 10 ∷ 7 ∷ 7 ∷ [])
    "0 5 6\n0 10 3 0\n1 20 4 13\n2 20 5 3\n3 60 2 8\n4 60 3 17\n"
    -- "the same with a sixth probe, 60 and 3: it starts at 37"
    ∷ Plans (10 ∷ 20 ∷ 20 ∷ 60 ∷ 60 ∷ 60 ∷ []) (3 ∷ 4 ∷ 5 ∷ 2 ∷ 3 ∷ 3 ∷ []) done (0 ∷ 13 ∷ 3 ∷ 8 ∷ 17 ∷ 37 ∷ []) (10 ∷ 8 ∷ 8 ∷ 10 ∷ 10 ∷ 7 ∷ [])
    "0 6 6\n0 10 3 0\n1 20 4 13\n2 20 5 3\n3 60 2 8\n4 60 3 17\n5 60 3 37\n"
    -- "Start 47 gives number 10, probes 2 and 5, tick 47"
    ∷ Checked (10 ∷ 20 ∷ 20 ∷ 60 ∷ 60 ∷ 60 ∷ []) (3 ∷ 4 ∷ 5 ∷ 2 ∷ 3 ∷ 3 ∷ []) (0 ∷ 13 ∷ 3 ∷ 8 ∷ 17 ∷ 47 ∷ []) (pair 10 2 5 47)
    -- "periods 10, 10, lengths 6, 5: number 8, index 1, fill 6, starts 0 and the mark"
    ∷ Plans (10 ∷ 10 ∷ []) (6 ∷ 5 ∷ []) (refused 8 1) (0 ∷ mark ∷ []) (6 ∷ []) "8 2 1\n0 10 6 0\n1 10 5 -\n"
    -- "Lengths 6, 4: starts 0, 6"
    ∷ Plans (10 ∷ 10 ∷ []) (6 ∷ 4 ∷ []) done (0 ∷ 6 ∷ []) (10 ∷ []) "0 2 1\n0 10 6 0\n1 10 4 6\n"
    -- "periods 8, 16, 16, 32 four times, lengths 2, 2, 2, 4 four times: number 8, index 5; starts 0, 2, 4, 10, 26, then two marks; fills 6, 6, 6, 6"
    ∷ Plans (8 ∷ 16 ∷ 16 ∷ 32 ∷ 32 ∷ 32 ∷ 32 ∷ []) (2 ∷ 2 ∷ 2 ∷ 4 ∷ 4 ∷ 4 ∷ 4 ∷ []) (refused 8 5) (0 ∷ 2 ∷ 4 ∷ 10 ∷ 26 ∷ mark ∷ mark ∷ []) (6 ∷ 6 ∷ 6 ∷ 6 ∷ [])
    "8 7 4\n0 8 2 0\n1 16 2 2\n2 16 2 4\n3 32 4 10\n4 32 4 26\n5 32 4 -\n6 32 4 -\n"
    -- "The list 0, 2, 10, 4, 12, 20, 28 is clean"
    ∷ IsClean (8 ∷ 16 ∷ 16 ∷ 32 ∷ 32 ∷ 32 ∷ 32 ∷ []) (2 ∷ 2 ∷ 2 ∷ 4 ∷ 4 ∷ 4 ∷ 4 ∷ []) (0 ∷ 2 ∷ 10 ∷ 4 ∷ 12 ∷ 20 ∷ 28 ∷ [])
    -- "periods 10, 20, lengths 5, 1, starts 8, 1: number 10, tick 21"
    ∷ Checked (10 ∷ 20 ∷ []) (5 ∷ 1 ∷ []) (8 ∷ 1 ∷ []) (pair 10 0 1 21)
    -- "one probe, 10 and 10: start 0. Length 11: number 4"
    ∷ Plans (10 ∷ []) (10 ∷ []) done (0 ∷ []) (10 ∷ []) "0 1 1\n0 10 10 0\n"
    ∷ Judged (10 ∷ []) (11 ∷ []) (refused 4 0)
    -- "all lengths 1: periods 4, 6: number 5, index 1. Periods 1 and 4,096 pass validation; 1 and 8,192 give 6"
    ∷ Judged (4 ∷ 6 ∷ []) (1 ∷ 1 ∷ []) (refused 5 1)
    ∷ Judged (1 ∷ 4096 ∷ []) (1 ∷ 1 ∷ []) done
    ∷ Judged (1 ∷ 8192 ∷ []) (1 ∷ 1 ∷ []) (refused 6 0)
    -- "the empty book has sums 1 and 3"
    ∷ Sums [] [] [] 1 3
    ∷ []
