-- `cornering::corners_judged` meets its contract: each way out is a way of crate admitting, specs/Ways. Assumes nothing.
use Rattle.std.proofs.Common.{refl, ◌∙◌, arith}
use Rattle.words.proofs.Refused.{refusal-not-done, passed-on}
use Rattle.probes.proofs.Folding.{late-found, late-none}
use Rattle.probes.proofs.Laws.{sound-gives}
use Rattle.probes.proofs.Composing.{zero-sound}
use Rattle.admitting.specs.Ways.{corners-differ, corners-refused, corners-short-x, corners-short-y, corners-late, corners-pass}
use Rattle.cornering.proofs.corners_judged.Goals.{then-xs-n-via-then-xs-n, then-xs-n-via-else-xs-n+then-ys-n}
use Rattle.cornering.proofs.corners_judged.Goals as goal

pub returns-then-n-starts : goal.returns-then-n-starts
returns-then-n-starts c = corners-differ _ _ _ _ _ c.if-n-starts.true

pub returns-in_err-judge : goal.returns-in_err-judge
returns-in_err-judge c =
    passed-on _ _ _ c.from_residual.ensures.1
    ∙ corners-refused _ _ _ _ _ c.if-n-starts.false _ c.in_err-judge.ensures (refusal-not-done c.in_err-judge.field-0.0)

pub returns-then-xs-n : goal.returns-then-xs-n
returns-then-xs-n c = elim c.then-xs-n.branch [
  | then-xs-n-via-then-xs-n w ↦ corners-short-x _ _ _ _ _ c.if-n-starts.false _ c.in_ok-judge.ensures refl w.if-xs-n.true
  | then-xs-n-via-else-xs-n+then-ys-n w ↦ corners-short-y _ _ _ _ _ c.if-n-starts.false _ c.in_ok-judge.ensures refl w.if-ys-n.true
]

pub overflow_cast-result : goal.overflow_cast-result
overflow_cast-result c =
    let s = sound-gives _ _ (zero-sound _ _ _ c.in_ok-judge.ensures refl) in
    let at = late-found c.args.periods.now c.args.starts.now _ _ (omega arith) c.late.ensures c.in-Some.is in
    omega (arith, s.few, at.0)

pub returns-in-Some : goal.returns-in-Some
returns-in-Some c =
    let at = late-found c.args.periods.now c.args.starts.now _ _ (omega arith) c.late.ensures c.in-Some.is in
    corners-late _ _ _ _ _ c.if-n-starts.false _ c.in_ok-judge.ensures refl c.if-xs-n.false c.if-ys-n.false _ at.1 at.0

pub returns-in-None : goal.returns-in-None
returns-in-None c =
    let none = late-none c.args.periods.now c.args.starts.now _ (omega arith) c.late.ensures c.in-None.is in
    corners-pass _ _ _ _ _ c.if-n-starts.false _ c.in_ok-judge.ensures refl c.if-xs-n.false c.if-ys-n.false _ refl none
