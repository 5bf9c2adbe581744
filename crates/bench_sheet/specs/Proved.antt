-- THE BENCH SHEET: EVERY CASE HOLDS, by computation. That a list is clean is about every tick there is, through the test that is proved to tell it.
-- Assumes nothing.
use Rattle.std.specs.Prelude.{◌≡◌, refl, List, [], ◌∷◌, reverse, ℕ, ◌+◌, ◌*◌, ◌/◌}
use Rattle.std.proofs.Common.{ap}
use Rattle.lists.specs.Pick.{any_below}
use Rattle.lists.specs.Lowest.{lowest, lowest_from}
use Rattle.lists.specs.Answering.{first_of}
use Rattle.wire.specs.Wire.{Clean}
use Rattle.wire.specs.Meeting.{lag, apart, shared_tick, apart_at, tick_at, apart_below, clean_below, clean}
use Rattle.wire.proofs.CleanTest.{clean-tells}
use Rattle.probes.specs.Table.{least_of, greatest_of, shortest, longest, rows, height, widths}
use Rattle.probes.specs.Verdict.{divides, chained, bad_period, bad_length, unchained, late, findings, list_findings, verdict}
use Rattle.probes.proofs.Laws.{passes-sound, sound-gives}
use Rattle.probes.proofs.Widths.{sound-positive}
use Rattle.chain.specs.Digits.{product, digits}
use Rattle.chain.specs.Flip.{turned, levels}
use Rattle.chain.specs.Flip.Formula.{flip-computes, unflip-computes}
use Rattle.chain.specs.Ratios.{above, climb, different, quotients, ratios}
use Rattle.chain.specs.Corners.{start_of}
use Rattle.order.specs.Order.{before, insert, order_below, order}
use Rattle.stack.specs.Stack.{raised, fits, bins, lowest_bin}
use Rattle.words.specs.Answers.{done, refused, mark}
use Rattle.stack.specs.FirstFit.{outcome, marked, bin_of, start_in, fitted, plan_findings, placed, planned}
use Rattle.meetings.specs.Check.{partner, opener, meeting_of, checked}
use Rattle.sheets.specs.Bytes.{bytes, value, word, byte_sum, place_sum}
use Rattle.sheets.specs.Layout.{blocks_of, records_of}
use Rattle.sheets.specs.Runs.{run_from}
use Rattle.sheets.specs.Filling.{record_of, record_at, head_of, sums_of, body_of, block_of}
use Rattle.volumes.specs.Writing.{book_of}
use Rattle.text.specs.Text.{letters, digits_then, decimal, spaced, printed_line}
use Rattle.lines.specs.Lines.{answer_line, head_line, start_text, probe_line, probe_lines}
use Rattle.paper.specs.Printed.{ran, plan_text}
use Rattle.bench_sheet.specs.Cases.{AllTrue, cases}

-- a plan's starts stand in it unopened; each is the one that the digits give
opened : (Ts : List ℕ) (T x y : ℕ) → start_of Ts T x y ≡ x + shortest Ts * turned (reverse (levels (ratios Ts) (T / shortest Ts))) (digits (reverse (levels (ratios Ts) (T / shortest Ts))) (y / height Ts T))
unfolding start_of
opened Ts T x y = ap (λ (v : ℕ). x + shortest Ts * v) (unflip-computes (ratios Ts) (T / shortest Ts) (y / height Ts T))

abbrev five : List ℕ
five = 10 ∷ 20 ∷ 20 ∷ 60 ∷ 60 ∷ []

plan-five : planned five (3 ∷ 4 ∷ 5 ∷ 2 ∷ 3 ∷ []) (7 ∷ 7 ∷ 7 ∷ 7 ∷ 7 ∷ []) (7 ∷ 7 ∷ 7 ∷ 7 ∷ 7 ∷ 7 ∷ [])
    ≡ outcome done (0 ∷ 13 ∷ 3 ∷ 8 ∷ 17 ∷ []) (10 ∷ 8 ∷ 8 ∷ 10 ∷ 7 ∷ 7 ∷ [])
unfolding any_below lowest lowest_from first_of least_of greatest_of shortest longest rows height widths divides chained bad_period bad_length unchained findings above climb different quotients ratios start_of before insert order_below order raised fits bins lowest_bin marked bin_of start_in fitted plan_findings placed planned product digits turned levels
plan-five = λ i. outcome done (opened five 10 0 0 i ∷ opened five 20 3 3 i ∷ opened five 20 3 0 i ∷ opened five 60 8 0 i ∷ opened five 60 7 3 i ∷ []) (10 ∷ 8 ∷ 8 ∷ 10 ∷ 7 ∷ 7 ∷ [])

abbrev six : List ℕ
six = 10 ∷ 20 ∷ 20 ∷ 60 ∷ 60 ∷ 60 ∷ []

plan-six : planned six (3 ∷ 4 ∷ 5 ∷ 2 ∷ 3 ∷ 3 ∷ []) (7 ∷ 7 ∷ 7 ∷ 7 ∷ 7 ∷ 7 ∷ []) (7 ∷ 7 ∷ 7 ∷ 7 ∷ 7 ∷ 7 ∷ [])
    ≡ outcome done (0 ∷ 13 ∷ 3 ∷ 8 ∷ 17 ∷ 37 ∷ []) (10 ∷ 8 ∷ 8 ∷ 10 ∷ 10 ∷ 7 ∷ [])
unfolding any_below lowest lowest_from first_of least_of greatest_of shortest longest rows height widths divides chained bad_period bad_length unchained findings above climb different quotients ratios start_of before insert order_below order raised fits bins lowest_bin marked bin_of start_in fitted plan_findings placed planned product digits turned levels
plan-six = λ i. outcome done (opened six 10 0 0 i ∷ opened six 20 3 3 i ∷ opened six 20 3 0 i ∷ opened six 60 8 0 i ∷ opened six 60 7 3 i ∷ opened six 60 7 4 i ∷ []) (10 ∷ 8 ∷ 8 ∷ 10 ∷ 10 ∷ 7 ∷ [])

abbrev full : List ℕ
full = 10 ∷ 10 ∷ []

plan-full : planned full (6 ∷ 5 ∷ []) (7 ∷ 7 ∷ []) (7 ∷ [])
    ≡ outcome (refused 8 1) (0 ∷ mark ∷ []) (6 ∷ [])
unfolding any_below lowest lowest_from first_of least_of greatest_of shortest longest rows height widths divides chained bad_period bad_length unchained findings above climb different quotients ratios start_of before insert order_below order raised fits bins lowest_bin marked bin_of start_in fitted plan_findings placed planned product digits turned levels
plan-full = λ i. outcome (refused 8 1) (opened full 10 0 0 i ∷ mark ∷ []) (6 ∷ [])

abbrev even : List ℕ
even = 10 ∷ 10 ∷ []

plan-even : planned even (6 ∷ 4 ∷ []) (7 ∷ 7 ∷ []) (7 ∷ [])
    ≡ outcome done (0 ∷ 6 ∷ []) (10 ∷ [])
unfolding any_below lowest lowest_from first_of least_of greatest_of shortest longest rows height widths divides chained bad_period bad_length unchained findings above climb different quotients ratios start_of before insert order_below order raised fits bins lowest_bin marked bin_of start_in fitted plan_findings placed planned product digits turned levels
plan-even = λ i. outcome done (opened even 10 0 0 i ∷ opened even 10 6 0 i ∷ []) (10 ∷ [])

abbrev seven : List ℕ
seven = 8 ∷ 16 ∷ 16 ∷ 32 ∷ 32 ∷ 32 ∷ 32 ∷ []

plan-seven : planned seven (2 ∷ 2 ∷ 2 ∷ 4 ∷ 4 ∷ 4 ∷ 4 ∷ []) (7 ∷ 7 ∷ 7 ∷ 7 ∷ 7 ∷ 7 ∷ 7 ∷ []) (7 ∷ 7 ∷ 7 ∷ 7 ∷ [])
    ≡ outcome (refused 8 5) (0 ∷ 2 ∷ 4 ∷ 10 ∷ 26 ∷ mark ∷ mark ∷ []) (6 ∷ 6 ∷ 6 ∷ 6 ∷ [])
unfolding any_below lowest lowest_from first_of least_of greatest_of shortest longest rows height widths divides chained bad_period bad_length unchained findings above climb different quotients ratios start_of before insert order_below order raised fits bins lowest_bin marked bin_of start_in fitted plan_findings placed planned product digits turned levels
plan-seven = λ i. outcome (refused 8 5) (opened seven 8 0 0 i ∷ opened seven 16 2 0 i ∷ opened seven 16 4 0 i ∷ opened seven 32 2 2 i ∷ opened seven 32 2 3 i ∷ mark ∷ mark ∷ []) (6 ∷ 6 ∷ 6 ∷ 6 ∷ [])

abbrev one : List ℕ
one = 10 ∷ []

plan-one : planned one (10 ∷ []) (7 ∷ []) (7 ∷ [])
    ≡ outcome done (0 ∷ []) (10 ∷ [])
unfolding any_below lowest lowest_from first_of least_of greatest_of shortest longest rows height widths divides chained bad_period bad_length unchained findings above climb different quotients ratios start_of before insert order_below order raised fits bins lowest_bin marked bin_of start_in fitted plan_findings placed planned product digits turned levels
plan-one = λ i. outcome done (opened one 10 0 0 i ∷ []) (10 ∷ [])

-- the seven-probe list, through the test of every pair
seven-clean : Clean seven (widths 0 (2 ∷ 2 ∷ 2 ∷ 4 ∷ 4 ∷ 4 ∷ 4 ∷ [])) (0 ∷ 2 ∷ 10 ∷ 4 ∷ 12 ∷ 20 ∷ 28 ∷ [])
unfolding any_below lowest lowest_from first_of least_of greatest_of shortest longest rows divides chained bad_period bad_length unchained findings verdict lag apart apart_at apart_below clean_below clean widths
seven-clean =
    let ps : List ℕ = 2 ∷ 2 ∷ 2 ∷ 4 ∷ 4 ∷ 4 ∷ 4 ∷ [] in
    let sound = sound-gives seven ps (passes-sound seven ps refl) in
    (clean-tells seven (widths 0 ps) (0 ∷ 2 ∷ 10 ∷ 4 ∷ 12 ∷ 20 ∷ 28 ∷ []) sound.harmonic (sound-positive seven ps sound)).yes refl

pub bench : AllTrue cases
unfolding any_below lowest lowest_from first_of least_of greatest_of shortest longest rows widths divides chained bad_period bad_length unchained late findings list_findings verdict lag apart shared_tick apart_at tick_at partner opener meeting_of checked product digits turned levels bytes value word byte_sum place_sum blocks_of records_of record_of record_at head_of sums_of body_of block_of run_from book_of letters digits_then decimal spaced printed_line answer_line head_line start_text probe_line probe_lines ran plan_text
bench = (
  flip-computes (2 ∷ 2 ∷ 3 ∷ []) 12 10,
  (
    (plan-five, ap (plan_text five (3 ∷ 4 ∷ 5 ∷ 2 ∷ 3 ∷ [])) plan-five),
    (
      (plan-six, ap (plan_text six (3 ∷ 4 ∷ 5 ∷ 2 ∷ 3 ∷ 3 ∷ [])) plan-six),
      (
        refl,
        (
          (plan-full, ap (plan_text full (6 ∷ 5 ∷ [])) plan-full),
          (
            (plan-even, ap (plan_text even (6 ∷ 4 ∷ [])) plan-even),
            (
              (plan-seven, ap (plan_text seven (2 ∷ 2 ∷ 2 ∷ 4 ∷ 4 ∷ 4 ∷ 4 ∷ [])) plan-seven),
              (
                seven-clean,
                (
                  refl,
                  (
                    (plan-one, ap (plan_text one (10 ∷ [])) plan-one),
                    (refl, (refl, (refl, (refl, ((refl, refl), tt))))),
                  ),
                ),
              ),
            ),
          ),
        ),
      ),
    ),
  ),
)
