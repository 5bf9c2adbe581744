-- `checker::check` meets its contract: the judge of a list first, then the meeting. Assumes nothing.
use Rattle.std.proofs.Common.{refl}
use Rattle.words.proofs.Refused.{refusal-not-done, passed-on}
use Rattle.pairs.specs.Range.{passes-listed}
use Rattle.meetings.specs.Passing.{zero-passes}
use Rattle.meetings.proofs.Laws.{check-refused, check_done}
use Rattle.checker.proofs.check.Goals as goal

pub returns-in_err-judge_list : goal.returns-in_err-judge_list
returns-in_err-judge_list c =
    rw (passed-on _ _ _ c.from_residual.ensures.1) (check-refused _ _ _ _ c.in_err-judge_list.ensures (refusal-not-done c.in_err-judge_list.field-0.0))

pub invariant_of-meeting : goal.invariant_of-meeting
invariant_of-meeting c = record { listed = passes-listed _ _ _ (zero-passes _ _ _ _ c.in_ok-judge_list.ensures refl) }

pub returns : goal.returns
returns c = check_done _ _ _ _ _ c.in_ok-judge_list.ensures refl c.meeting.ensures
