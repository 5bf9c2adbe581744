-- BYTES THAT THE PROMISE OF THE EXPORTS SHUTS OUT. Document 01, "Numbers the master shows" and "What the inspector asks of each promise".
--     telling q bs out right wrong   a question, a book and the lent bytes, the result that the promise has for them, and what a wrong program leaves behind
--     export-shuts-out               every claim of the table is settled: the right result meets the promise, and the wrong one does not
-- Assumes nothing.
use Rattle.std.specs.Prelude.{◌≡◌, refl, Bool, List, [], ◌∷◌, ◌++◌, ℕ, eqb, replicate}
use Rattle.lists.specs.Pick.{both, Tells, any_below}
use Rattle.lists.specs.Lowest.{lowest, lowest_from}
use Rattle.lists.specs.Telling.{tells-eq}
use Rattle.lists.specs.Answering.{first_of}
use Rattle.wire.specs.Meeting.{lag, apart, shared_tick, apart_at, tick_at}
use Rattle.probes.specs.Table.{least_of, greatest_of, shortest, longest, rows, widths}
use Rattle.probes.specs.Verdict.{divides, chained, bad_period, bad_length, unchained, late, findings, list_findings}
use Rattle.sheets.specs.Bytes.{bytes, value, word, byte_sum, place_sum, all_zero}
use Rattle.sheets.specs.Layout.{first_edition, blocks_of, records_of}
use Rattle.sheets.specs.Runs.{run_from}
use Rattle.sheets.specs.Block.{wrong_sum, wrong_field, unused, used_unused}
use Rattle.sheets.specs.Filling.{record_of, record_at, head_of, body_of, sums_of}
use Rattle.volumes.specs.Reading.{bad_size, block_at, blocks_in, n_of, block_findings, field, column, read_findings, done_read, read_of}
use Rattle.meetings.specs.Check.{partner, opener, meeting_of, checked}
use Rattle.hours.specs.Timetable.{ask_findings, phase, holds_test, holder_of, holder_answer, candidate, next_of, next_answer}
use Rattle.questions.specs.declared.Question.{Question}
use Rattle.questions.specs.declared.Question.TheVariants.{IsClean, HolderAt, StartFrom}
use Rattle.questions.specs.Replies.{replies_of, read_in, reply_of}
use Rattle.telling.specs.Shown.{shown}
use Rattle.exports.specs.Exports.{Given, given, Exports, export_of}
use Rattle.exports.specs.Laws.{export-meets}
use Rattle.exports.proofs.Promises.{export-unique}
use Rattle.shut_out.specs.Claims.{two-tell, Claim, claim, Each, Settled, same_list, same-list-tells, all_settled}
use Rattle.shut_out.specs.Read.{summed, two}

-- a question, a book and the lent bytes
abbrev pub Asked : Type 0
Asked = Question × List ℕ × List ℕ

abbrev pub Meets : Asked → Given → Type 0
Meets (q, bs, out) o = Exports q bs out o

abbrev telling : Question → List ℕ → List ℕ → Given → Given → Claim Asked Given
telling q bs out right wrong = claim (q, bs, out) right wrong

abbrev fives : ℕ → List ℕ
fives k = replicate k 5

abbrev zeros : ℕ → List ℕ
zeros k = replicate k 0

-- number and index, each in four bytes, then second index and tick in twelve
abbrev head : ℕ → ℕ → List ℕ
head k i = k ∷ 0 ∷ 0 ∷ 0 ∷ i ∷ 0 ∷ 0 ∷ 0 ∷ []

-- the book of periods 10, 20, lengths 5, 1, starts 8, 1: they meet at tick 21
abbrev meeting : List ℕ
meeting = summed (body_of first_edition (10 ∷ 20 ∷ []) (5 ∷ 1 ∷ []) (8 ∷ 1 ∷ []) 0)

abbrev pub claims : List (Claim Asked Given)
claims =
    -- "a checker with one verdict for all lists": always clean
    telling IsClean meeting (fives 20) (given 10 (head 10 0 ++ (1 ∷ 0 ∷ 0 ∷ 0 ∷ 21 ∷ zeros 7))) (given 0 (zeros 20))
    -- "Taking a longer probe's first read as the meeting: above, tick 1 is not shared"
    ∷ telling IsClean meeting (fives 20) (given 10 (head 10 0 ++ (1 ∷ 0 ∷ 0 ∷ 0 ∷ 21 ∷ zeros 7))) (given 10 (head 10 0 ++ (1 ∷ 0 ∷ 0 ∷ 0 ∷ 1 ∷ zeros 7)))
    -- "least byte first": the tick with its highest byte first
    ∷ telling IsClean meeting (fives 20) (given 10 (head 10 0 ++ (1 ∷ 0 ∷ 0 ∷ 0 ∷ 21 ∷ zeros 7))) (given 10 (head 10 0 ++ (1 ∷ 0 ∷ 0 ∷ 0 ∷ (zeros 7 ++ (21 ∷ [])))))
    -- "refusals included": a refusal that writes nothing
    ∷ telling IsClean [] (fives 20) (given 20 (head 20 0 ++ zeros 12)) (given 20 (fives 20))
    -- the number comes back and the bytes stay
    ∷ telling IsClean two (fives 20) (given 0 (zeros 20)) (given 0 (fives 20))
    -- the reading's n as the index
    ∷ telling IsClean two (fives 20) (given 0 (zeros 20)) (given 0 (head 0 2 ++ zeros 12))
    -- "bytes past the twentieth stay": cleared
    ∷ telling IsClean two (fives 22) (given 0 (zeros 20 ++ fives 2)) (given 0 (zeros 22))
    -- "With fewer than 20 the call returns 7 before all else and writes nothing": what there is room for
    ∷ telling IsClean two (fives 19) (given 7 (fives 19)) (given 0 (zeros 19))
    -- 7 before all else: the book judged first
    ∷ telling IsClean [] (fives 19) (given 7 (fives 19)) (given 20 (fives 19))
    -- the holder: idle said of a tick that probe 0 holds
    ∷ telling (HolderAt 2) two (fives 20) (given 0 (zeros 20)) (given 0 (0 ∷ 0 ∷ 0 ∷ 0 ∷ 255 ∷ 255 ∷ 255 ∷ 255 ∷ zeros 12))
    -- "After a read's last tick the wire is free": still held at tick 3
    ∷ telling (HolderAt 3) two (fives 20) (given 0 (0 ∷ 0 ∷ 0 ∷ 0 ∷ 255 ∷ 255 ∷ 255 ∷ 255 ∷ zeros 12)) (given 0 (zeros 20))
    -- the next start: the asked tick, at which none starts
    ∷ telling (StartFrom 1) two (fives 20) (given 0 (zeros 12 ++ (10 ∷ zeros 7))) (given 0 (zeros 12 ++ (1 ∷ zeros 7)))
    ∷ []

abbrev same : Given → Given → Bool
same a b = both (eqb a.number b.number) (same_list a.bytes b.bytes)

same-tells : (a b : Given) → Tells (same a b) (a ≡ b)
same-tells = two-tell (λ (r : Given). r.number) (λ (r : Given). r.bytes) given (λ o. refl) eqb tells-eq same_list same-list-tells

pub export-shuts-out : Each (Settled Meets) claims
unfolding bytes value word byte_sum place_sum all_zero blocks_of records_of run_from wrong_sum wrong_field unused used_unused record_of record_at head_of body_of sums_of bad_size block_at blocks_in n_of block_findings field column
    read_findings done_read read_of first_of any_below lowest lowest_from least_of greatest_of shortest longest rows widths divides chained bad_period bad_length unchained late findings list_findings lag apart
    shared_tick apart_at tick_at partner opener meeting_of checked ask_findings phase holds_test holder_of holder_answer candidate next_of next_answer replies_of read_in reply_of shown export_of
export-shuts-out = all_settled same same-tells (λ (x : Asked). export_of x.0 x.1 x.2) Meets (λ x. export-meets _ _ _) (λ x. export-unique _ _ _) claims refl
