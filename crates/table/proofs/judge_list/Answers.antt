-- `table::judge_list` meets its contract: the ways out of crate probes, proofs/Composing. Assumes nothing.
use Rattle.std.proofs.Common.{refl, arith, ◌∙◌}
use Rattle.words.proofs.Refused.{refusal-not-done, passed-on}
use Rattle.probes.proofs.Folding.{late-found, late-none}
use Rattle.probes.proofs.Laws.{sound-gives}
use Rattle.probes.proofs.Composing.{list_differ, list-refused, list-late, list_done, zero-sound}
use Rattle.table.proofs.judge_list.Goals as goal

pub returns-then-periods-starts : goal.returns-then-periods-starts
returns-then-periods-starts c = list_differ _ _ _ c.if-periods-starts.true

pub returns-in_err-judge : goal.returns-in_err-judge
returns-in_err-judge c =
    passed-on _ _ _ c.from_residual.ensures.1
    ∙ list-refused _ _ _ c.if-periods-starts.false _ c.in_err-judge.ensures (refusal-not-done c.in_err-judge.field-0.0)

pub overflow_cast-result : goal.overflow_cast-result
overflow_cast-result c =
    let s = sound-gives _ _ (zero-sound _ _ _ c.in_ok-judge.ensures refl) in
    let at = late-found c.args.periods.now c.args.starts.now _ _ (omega arith) c.late.ensures c.in-Some.is in
    omega (arith, s.few, at.0)

pub returns-in-Some : goal.returns-in-Some
returns-in-Some c =
    let at = late-found c.args.periods.now c.args.starts.now _ _ (omega arith) c.late.ensures c.in-Some.is in
    list-late _ _ _ c.if-periods-starts.false _ _ c.in_ok-judge.ensures refl at.1 at.0

pub returns-in-None : goal.returns-in-None
returns-in-None c =
    let none = late-none c.args.periods.now c.args.starts.now _ (omega arith) c.late.ensures c.in-None.is in
    list_done _ _ _ c.if-periods-starts.false _ _ c.in_ok-judge.ensures refl refl none
