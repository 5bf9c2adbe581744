-- BYTES THAT THE PROMISE OF `write` SHUTS OUT. Document 01, "The book" and "What the inspector asks of each promise".
--     writing Ts ps ss out right wrong   columns and the lent bytes, the result that the promise has for them, and what a wrong program leaves behind
--     write-shuts-out                    every claim of the table is settled: the right result meets the promise, and the wrong one does not
-- Assumes nothing.
use Rattle.std.specs.Prelude.{◌≡◌, refl, Bool, List, [], ◌∷◌, ◌++◌, ℕ, take, set, replicate}
use Rattle.lists.specs.Pick.{both, Tells}
use Rattle.lists.specs.Answering.{first_of}
use Rattle.words.specs.Answers.{refused, done}
use Rattle.sheets.specs.Bytes.{bytes, byte_sum, place_sum}
use Rattle.sheets.specs.Layout.{first_edition, blocks_of, records_of}
use Rattle.sheets.specs.Runs.{run_from}
use Rattle.sheets.specs.Filling.{record_of, record_at, head_of, body_of, sums_of, block_of}
use Rattle.volumes.specs.Writing.{book_of, Pages, pages, write_findings, done_write, Writes, write_of}
use Rattle.volumes.proofs.WriteLaws.{write_meets}
use Rattle.volumes.proofs.Promises.{write-unique}
use Rattle.shut_out.specs.Claims.{two-tell, Claim, claim, Each, Settled, same_answer, same-answer-tells, same_list, same-list-tells, all_settled}
use Rattle.shut_out.specs.Read.{summed, two}

-- periods, lengths, starts and the lent bytes
abbrev pub Lent : Type 0
Lent = List ℕ × List ℕ × List ℕ × List ℕ

abbrev pub Meets : Lent → Pages → Type 0
Meets (Ts, ps, ss, out) o = Writes first_edition Ts ps ss out o

abbrev writing : List ℕ → List ℕ → List ℕ → List ℕ → Pages → Pages → Claim Lent Pages
writing Ts ps ss out right wrong = claim (Ts, ps, ss, out) right wrong

abbrev fives : ℕ → List ℕ
fives k = replicate k 5

-- the book of two probes, and one byte too many lent
abbrev good : Pages → Claim Lent Pages
good wrong = writing (10 ∷ 20 ∷ []) (3 ∷ 4 ∷ []) (0 ∷ 13 ∷ []) (fives 513) (pages (refused 0 512) (two ++ fives 1)) wrong

abbrev pub claims : List (Claim Lent Pages)
claims =
    -- a writing that always refuses
    good (pages (refused 7 0) (fives 513))
    -- one that leaves the bytes "untouched and says 0"
    ∷ good (pages (refused 0 512) (fives 513))
    -- "a done writing the number of bytes written": 0
    ∷ good (pages done (two ++ fives 1))
    -- "Bytes and entries past the result stay": cleared
    ∷ good (pages (refused 0 512) (two ++ (0 ∷ [])))
    -- "period, length, start": lengths and starts swapped
    ∷ good (pages (refused 0 512) (summed (body_of first_edition (10 ∷ 20 ∷ []) (0 ∷ 13 ∷ []) (3 ∷ 4 ∷ []) 0) ++ fives 1))
    -- "unused records are zero": as they were lent
    ∷ good (pages (refused 0 512) (summed (take 36 two ++ fives 468) ++ fives 1))
    -- "At 504 the sum of bytes 0 to 503": no sums
    ∷ good (pages (refused 0 512) (take 504 two ++ replicate 8 0 ++ fives 1))
    -- "8-11 zero": n once more
    ∷ good (pages (refused 0 512) (summed (set (take 504 two) 8 2) ++ fives 1))
    -- "numbers least byte first": n with its highest byte first
    ∷ good (pages (refused 0 512) (summed (set (set (take 504 two) 6 0) 7 2) ++ fives 1))
    -- "and one for n = 0": nothing written
    ∷ writing [] [] [] (fives 512) (pages (refused 0 512) (summed (set (replicate 504 0) 2 1))) (pages done (fives 512))
    -- "Writing refuses by 1": the missing start taken for 0
    ∷ writing (10 ∷ []) (3 ∷ []) [] (fives 512) (pages (refused 1 0) (fives 512)) (pages (refused 0 512) (summed (body_of first_edition (10 ∷ []) (3 ∷ []) (0 ∷ []) 0)))
    -- "1, 2, 7": 7 before 2
    ∷ writing (replicate 257 1) (replicate 257 1) (replicate 257 0) [] (pages (refused 2 0) []) (pages (refused 7 0) [])
    -- "a result slice is too short": as much as there is room for
    ∷ writing (10 ∷ []) (3 ∷ []) (0 ∷ []) (fives 511) (pages (refused 7 0) (fives 511)) (pages (refused 0 511) (take 511 (summed (body_of first_edition (10 ∷ []) (3 ∷ []) (0 ∷ []) 0))))
    -- "Refused calls write nothing": the bytes cleared
    ∷ writing (10 ∷ []) (3 ∷ []) (0 ∷ []) (fives 511) (pages (refused 7 0) (fives 511)) (pages (refused 7 0) (replicate 511 0))
    -- the table judged: "any 32-bit values may stand in records"
    ∷ writing (0 ∷ []) (0 ∷ []) (5 ∷ []) (fives 512) (pages (refused 0 512) (summed (body_of first_edition (0 ∷ []) (0 ∷ []) (5 ∷ []) 0))) (pages (refused 3 0) (fives 512))
    ∷ []

abbrev same : Pages → Pages → Bool
same a b = both (same_answer a.answer b.answer) (same_list a.out b.out)

same-tells : (a b : Pages) → Tells (same a b) (a ≡ b)
same-tells = two-tell (λ (r : Pages). r.answer) (λ (r : Pages). r.out) pages (λ o. refl) same_answer same-answer-tells same_list same-list-tells

pub write-shuts-out : Each (Settled Meets) claims
unfolding bytes byte_sum place_sum blocks_of records_of run_from record_of record_at head_of body_of sums_of block_of book_of write_findings done_write write_of first_of
write-shuts-out =
    all_settled same same-tells (λ (x : Lent). write_of first_edition x.0 x.1 x.2 x.3) Meets (λ x. write_meets _ _ _ _ _) (λ x. write-unique _ _ _ _ _) claims refl
