-- `starting::starts_judged` meets its contract: each way out is a way of crate admitting, specs/Ways. Assumes nothing.
use Rattle.std.proofs.Common.{refl, ◌∙◌, arith}
use Rattle.lists.proofs.Searches.{found-at, none-at}
use Rattle.words.proofs.Refused.{refusal-not-done, passed-on}
use Rattle.probes.proofs.Laws.{sound-gives}
use Rattle.probes.proofs.Composing.{zero-sound}
use Rattle.chain.specs.Grid.{off_grid}
use Rattle.admitting.specs.Ways.{starts-differ-x, starts-differ-y, starts-refused, starts-short, starts-off, starts-pass}
use Rattle.starting.proofs.starts_judged.Goals.{then-n-xs-via-then-n-xs, then-n-xs-via-else-n-xs+then-n-ys}
use Rattle.starting.proofs.starts_judged.Goals as goal

pub returns-then-n-xs : goal.returns-then-n-xs
returns-then-n-xs c = elim c.then-n-xs.branch [
  | then-n-xs-via-then-n-xs w ↦ starts-differ-x _ _ _ _ _ w.if-n-xs.true
  | then-n-xs-via-else-n-xs+then-n-ys w ↦ starts-differ-y _ _ _ _ _ w.if-n-xs.false w.if-n-ys.true
]

pub returns-in_err-judge : goal.returns-in_err-judge
returns-in_err-judge c =
    passed-on _ _ _ c.from_residual.ensures.1
    ∙ starts-refused _ _ _ _ _ c.if-n-xs.false c.if-n-ys.false _ c.in_err-judge.ensures (refusal-not-done c.in_err-judge.field-0.0)

pub returns-then-starts-n : goal.returns-then-starts-n
returns-then-starts-n c = starts-short _ _ _ _ _ c.if-n-xs.false c.if-n-ys.false _ c.in_ok-judge.ensures refl c.if-starts-n.true

pub of-requires : goal.of-requires
of-requires c =
    let s = sound-gives _ _ (zero-sound _ _ _ c.in_ok-judge.ensures refl) in
    record { harmonic = s.harmonic; most = s.most; low = s.low }

pub overflow_cast-result : goal.overflow_cast-result
overflow_cast-result c =
    let s = sound-gives _ _ (zero-sound _ _ _ c.in_ok-judge.ensures refl) in
    let at = found-at (off_grid c.args.periods.now _ _) _ _ _ (rw c.of.ensures at c.off_grid.ensures) c.in-Some.is in
    omega (arith, s.few, at.0)

pub returns-in-Some : goal.returns-in-Some
returns-in-Some c =
    let at = found-at (off_grid c.args.periods.now c.args.xs.now c.args.ys.now) _ _ _ (rw c.of.ensures at c.off_grid.ensures) c.in-Some.is in
    starts-off _ _ _ _ _ c.if-n-xs.false c.if-n-ys.false _ c.in_ok-judge.ensures refl c.if-starts-n.false _ at.1 at.0

pub returns-in-None : goal.returns-in-None
returns-in-None c =
    let none = none-at (off_grid c.args.periods.now c.args.xs.now c.args.ys.now) _ _ (rw c.of.ensures at c.off_grid.ensures) c.in-None.is in
    starts-pass _ _ _ _ _ c.if-n-xs.false c.if-n-ys.false _ c.in_ok-judge.ensures refl c.if-starts-n.false _ refl none
