-- `loading::judge_blocks` meets its contract: the blocks below b have no fault. Assumes nothing.
use Rattle.std.proofs.Common.{ℕ, ◌∙◌, sym, ap, arith, refl}
use Rattle.words.specs.Answers.{refused}
use Rattle.sheets.specs.Layout.{first_edition}
use Rattle.sheets.specs.Blocks.{blocks_in, n_of}
use Rattle.sheets.proofs.BlocksLaws.{size-tested, searched-start, searched-next, searched-found, searched-none}
use Rattle.sheets.proofs.Loading.{passed}
use Rattle.loading.proofs.Chunks.{chunk-verdict, fault-above}
use Rattle.loading.proofs.judge_blocks.Goals as goal

pub number-n-requires-clause-at_in_bounds : goal.number-n-requires-clause-at_in_bounds
number-n-requires-clause-at_in_bounds c =
    let s = size-tested first_edition c.args.book.now c.requires in
    omega arith

pub loop-b-init : goal.loop-b-init
loop-b-init c = searched-start first_edition _

pub overflow_cast-b : goal.overflow_cast-b
overflow_cast-b c =
    let s = size-tested first_edition c.args.book.now c.requires in
    omega arith

pub returns-in-Err-clause-judged : goal.returns-in-Err-clause-judged
unfolding blocks_in
returns-in-Err-clause-judged c =
    let B = c.args.book.now in
    let b = c.loop-b.b in
    let v = chunk-verdict B _ _ b _ _ _ c.as_chunks.ensures.front c.as_chunks.ensures.front_len c.loop-b-test.true c.number-n.ensures c.in-Err.ensures in
    c.refused.ensures ∙ ap (λ (r : ℕ). refused r b) v ∙ searched-found first_edition B b (omega arith) (λ e. fault-above c.in-Err.fault (v ∙ e)) c.loop-b.invariant

pub loop-b-preserved : goal.loop-b-preserved
unfolding blocks_in
loop-b-preserved c =
    let B = c.args.book.now in
    let b = c.loop-b.b in
    let v = chunk-verdict B _ _ b _ _ _ c.as_chunks.ensures.front c.as_chunks.ensures.front_len c.loop-b-test.true c.number-n.ensures c.in_default.ensures in
    searched-next first_edition B b (omega arith) (sym v) c.loop-b.invariant

pub returns : goal.returns
unfolding blocks_in n_of
returns c =
    let B = c.args.book.now in
    let e = ap (λ (n : ℕ). refused 0 n) c.number-n.ensures ∙ searched-none first_edition B c.loop-b.b (omega arith) c.loop-b.invariant in
    let p = passed B (refused 0 c.number-n.result) c.requires e refl in
    record { judged = e; few = p.few; room = p.room }
