-- `asking::judge` meets its contract: the judge of a list first, then the tick. Assumes nothing.
use Rattle.std.proofs.Common.{refl, sym, ◌∙◌, ltb-true, ltb-false}
use Rattle.words.specs.Ticks.{last_tick}
use Rattle.words.proofs.Refused.{refusal-not-done, passed-on}
use Rattle.hours.specs.Asking.{ask-judged, ask-late, ask-done}
use Rattle.asking.proofs.judge.Goals as goal

pub returns-in_err-judge_list : goal.returns-in_err-judge_list
returns-in_err-judge_list c =
    passed-on _ _ _ c.from_residual.ensures.1
    ∙ ask-judged _ _ _ c.args.tick _ c.in_err-judge_list.ensures (refusal-not-done c.in_err-judge_list.field-0.0)

pub returns-then-too_late : goal.returns-then-too_late
returns-then-too_late c = ask-late _ _ _ c.args.tick _ c.in_ok-judge_list.ensures refl (ltb-true last_tick c.args.tick (sym c.too_late.ensures ∙ c.if-too_late.true))

pub returns : goal.returns
returns c = ask-done _ _ _ c.args.tick _ c.in_ok-judge_list.ensures refl (ltb-false last_tick c.args.tick (sym c.too_late.ensures ∙ c.if-too_late.false))
