-- COLUMNS THAT THE PROMISE OF `read` SHUTS OUT. Document 01, "The book" and "What the inspector asks of each promise".
--     reading bs Ts ps ss right wrong   the bytes of a book and the lent columns, the result that the promise has for them, and what a wrong program leaves behind
--     two                               the book of two probes: periods 10, 20, lengths 3, 4, starts 0, 13
--     summed body                       a block of these 504 bytes, with the sums that they have
--     read-shuts-out                    every claim of the table is settled: the right result meets the promise, and the wrong one does not
-- Assumes nothing.
use Rattle.std.specs.Prelude.{◌≡◌, refl, Bool, List, [], ◌∷◌, ◌++◌, ℕ, take, set, replicate}
use Rattle.std.proofs.Common.{ap}
use Rattle.lists.specs.Pick.{both, Tells}
use Rattle.lists.specs.Telling.{tells_both, tells_as}
use Rattle.lists.specs.Answering.{first_of}
use Rattle.words.specs.Answers.{refused}
use Rattle.sheets.specs.Bytes.{bytes, value, word, byte_sum, place_sum, all_zero}
use Rattle.sheets.specs.Layout.{first_edition, blocks_of, records_of}
use Rattle.sheets.specs.Runs.{run_from}
use Rattle.sheets.specs.Block.{wrong_sum, wrong_field, unused, used_unused}
use Rattle.sheets.specs.Filling.{record_of, record_at, head_of, body_of, sums_of}
use Rattle.volumes.specs.Reading.{bad_size, block_at, blocks_in, n_of, block_findings, field, column, Columns, columns, read_findings, done_read, Reads, read_of}
use Rattle.volumes.specs.ReadLaws.{read_meets}
use Rattle.volumes.proofs.Promises.{read-unique}
use Rattle.shut_out.specs.Claims.{Claim, claim, Each, Settled, same_answer, same-answer-tells, same_list, same-list-tells, all_settled}

-- the bytes, and the lent periods, lengths and starts
abbrev pub Lent : Type 0
Lent = List ℕ × List ℕ × List ℕ × List ℕ

abbrev pub Meets : Lent → Columns → Type 0
Meets (bs, Ts, ps, ss) o = Reads first_edition bs Ts ps ss o

abbrev reading : List ℕ → List ℕ → List ℕ → List ℕ → Columns → Columns → Claim Lent Columns
reading bs Ts ps ss right wrong = claim (bs, Ts, ps, ss) right wrong

abbrev pub summed : List ℕ → List ℕ
summed body = body ++ sums_of body

abbrev body : List ℕ
body = body_of first_edition (10 ∷ 20 ∷ []) (3 ∷ 4 ∷ []) (0 ∷ 13 ∷ []) 0

abbrev pub two : List ℕ
two = summed body

-- the first two blocks of 42 probes
abbrev many : ℕ → List ℕ
many b = body_of first_edition (replicate 42 1) (replicate 42 1) (replicate 42 0) b

-- the book of two probes, read into columns of three entries
abbrev good : Columns → Claim Lent Columns
good wrong =
    reading two (7 ∷ 7 ∷ 7 ∷ []) (8 ∷ 8 ∷ 8 ∷ []) (9 ∷ 9 ∷ 9 ∷ []) (columns (refused 0 2) (10 ∷ 20 ∷ 7 ∷ []) (3 ∷ 4 ∷ 8 ∷ []) (0 ∷ 13 ∷ 9 ∷ [])) wrong

-- bytes that are refused by k with index i, into columns of two entries
abbrev bad : List ℕ → ℕ → ℕ → Columns → Claim Lent Columns
bad bs k i wrong = reading bs (7 ∷ 7 ∷ []) (8 ∷ 8 ∷ []) (9 ∷ 9 ∷ []) (columns (refused k i) (7 ∷ 7 ∷ []) (8 ∷ 8 ∷ []) (9 ∷ 9 ∷ [])) wrong

-- read as if nothing were wrong
abbrev taken : Columns
taken = columns (refused 0 2) (10 ∷ 20 ∷ []) (3 ∷ 4 ∷ []) (0 ∷ 13 ∷ [])

-- the answer alone is wrong
abbrev says : ℕ → ℕ → Columns
says k i = columns (refused k i) (7 ∷ 7 ∷ []) (8 ∷ 8 ∷ []) (9 ∷ 9 ∷ [])

abbrev pub claims : List (Claim Lent Columns)
claims =
    -- a reading that always refuses
    good (columns (refused 20 0) (7 ∷ 7 ∷ 7 ∷ []) (8 ∷ 8 ∷ 8 ∷ []) (9 ∷ 9 ∷ 9 ∷ []))
    -- one "that leaves the columns untouched and says 0"
    ∷ good (columns (refused 0 2) (7 ∷ 7 ∷ 7 ∷ []) (8 ∷ 8 ∷ 8 ∷ []) (9 ∷ 9 ∷ 9 ∷ []))
    -- "A done reading has n as its index": 0
    ∷ good (columns (refused 0 0) (10 ∷ 20 ∷ 7 ∷ []) (3 ∷ 4 ∷ 8 ∷ []) (0 ∷ 13 ∷ 9 ∷ []))
    -- "period, length, start": lengths and starts swapped
    ∷ good (columns (refused 0 2) (10 ∷ 20 ∷ 7 ∷ []) (0 ∷ 13 ∷ 8 ∷ []) (3 ∷ 4 ∷ 9 ∷ []))
    -- "Bytes and entries past the result stay": cleared
    ∷ good (columns (refused 0 2) (10 ∷ 20 ∷ 0 ∷ []) (3 ∷ 4 ∷ 0 ∷ []) (0 ∷ 13 ∷ 0 ∷ []))
    -- "size 0" taken for the empty book
    ∷ bad [] 20 0 (says 0 0)
    -- "no multiple of 512": a byte is missing
    ∷ bad (take 511 two) 20 0 taken
    -- "no multiple of 512": a byte too many
    ∷ bad (two ++ (0 ∷ [])) 20 0 taken
    -- "or above 3,584": its first block judged
    ∷ bad (replicate 4096 1) 20 0 (says 21 0)
    -- "a sum is wrong": not looked at
    ∷ bad (set two 504 0) 21 0 taken
    -- the first sum alone: two bytes swapped keep it
    ∷ bad (set (set two 12 3) 16 10) 21 0 (columns (refused 0 2) (3 ∷ 20 ∷ []) (10 ∷ 4 ∷ []) (0 ∷ 13 ∷ []))
    -- "Bytes 0-1 block number from 0": from 1
    ∷ bad (summed (set body 0 1)) 22 0 taken
    -- "2-3 blocks in the book": not looked at
    ∷ bad (summed (set body 2 2)) 22 0 taken
    -- "4-5 records in this block": not looked at
    ∷ bad (summed (set body 4 1)) 22 0 taken
    -- "8-11 zero": not looked at
    ∷ bad (summed (set body 8 1)) 22 0 taken
    -- "n is above 256": the block has room for 41
    ∷ bad (summed (set (set body 6 1) 7 1)) 22 0 (says 24 0)
    -- "an unused record not zero": not looked at
    ∷ bad (summed (set body 503 1)) 23 0 taken
    -- 21 before 22: the field judged first
    ∷ bad (set two 8 1) 21 0 (says 22 0)
    -- "each with the block as index": the second block's sum, with no index
    ∷ reading (summed (many 0) ++ set (summed (many 1)) 504 0) [] [] [] (columns (refused 21 1) [] [] []) (columns (refused 21 0) [] [] [])
    -- "then per block ascending": all sums before all fields
    ∷ reading (summed (set (many 0) 8 1) ++ set (summed (many 1)) 504 0) [] [] [] (columns (refused 22 0) [] [] []) (columns (refused 21 1) [] [] [])
    -- "then 24, a column shorter than n": as much as there is room for
    ∷ reading two (7 ∷ 7 ∷ []) (8 ∷ 8 ∷ []) (9 ∷ []) (columns (refused 24 0) (7 ∷ 7 ∷ []) (8 ∷ 8 ∷ []) (9 ∷ [])) (columns (refused 0 2) (10 ∷ 20 ∷ []) (3 ∷ 4 ∷ []) (0 ∷ []))
    -- "Refused calls write nothing": the columns that are long enough written
    ∷ reading two (7 ∷ 7 ∷ []) (8 ∷ 8 ∷ []) (9 ∷ []) (columns (refused 24 0) (7 ∷ 7 ∷ []) (8 ∷ 8 ∷ []) (9 ∷ [])) (columns (refused 24 0) (10 ∷ 20 ∷ []) (3 ∷ 4 ∷ []) (9 ∷ []))
    -- 24 before 21
    ∷ reading (set two 504 0) [] [] [] (columns (refused 21 0) [] [] []) (columns (refused 24 0) [] [] [])
    -- "The book judges form only": the table judged
    ∷ reading (summed (body_of first_edition (0 ∷ []) (0 ∷ []) (5 ∷ []) 0)) (7 ∷ []) (8 ∷ []) (9 ∷ []) (columns (refused 0 1) (0 ∷ []) (0 ∷ []) (5 ∷ [])) (columns (refused 3 0) (7 ∷ []) (8 ∷ []) (9 ∷ []))
    -- "and one for n = 0": the empty book refused
    ∷ reading (summed (body_of first_edition [] [] [] 0)) [] [] [] (columns (refused 0 0) [] [] []) (columns (refused 22 0) [] [] [])
    ∷ []

abbrev same : Columns → Columns → Bool
same a b = both (same_answer a.answer b.answer) (both (same_list a.periods b.periods) (both (same_list a.lengths b.lengths) (same_list a.starts b.starts)))

same-tells : (a b : Columns) → Tells (same a b) (a ≡ b)
same-tells a b =
    tells_as (same a b)
    (tells_both _ _ (same-answer-tells a.answer b.answer)
    (tells_both _ _ (same-list-tells a.periods b.periods) (tells_both _ _ (same-list-tells a.lengths b.lengths) (same-list-tells a.starts b.starts))))
    (λ e.
    let x : a.answer ≡ b.answer = e.0 in
    let t : a.periods ≡ b.periods = e.1.0 in
    let p : a.lengths ≡ b.lengths = e.1.1.0 in
    let s : a.starts ≡ b.starts = e.1.1.1 in
    fields x t p s)
    (λ e. (ap (λ (r : Columns). r.answer) e, (ap (λ (r : Columns). r.periods) e, (ap (λ (r : Columns). r.lengths) e, ap (λ (r : Columns). r.starts) e))))
  where
    fields : a.answer ≡ b.answer → a.periods ≡ b.periods → a.lengths ≡ b.lengths → a.starts ≡ b.starts
        → columns a.answer a.periods a.lengths a.starts ≡ columns b.answer b.periods b.lengths b.starts
    fields x t p s = rw (x, t, p, s)

pub read-shuts-out : Each (Settled Meets) claims
unfolding bytes value word byte_sum place_sum all_zero blocks_of records_of run_from wrong_sum wrong_field unused used_unused record_of record_at head_of body_of sums_of bad_size block_at blocks_in n_of block_findings field column
    read_findings done_read read_of first_of
read-shuts-out =
    all_settled same same-tells (λ (x : Lent). read_of first_edition x.0 x.1 x.2 x.3) Meets (λ x. read_meets _ _ _ _ _) (λ x. read-unique _ _ _ _ _) claims refl
