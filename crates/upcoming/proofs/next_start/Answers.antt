-- `upcoming::next_start` meets its contract: the judge first, then the next start. Assumes nothing.
use Rattle.std.proofs.Common.{refl}
use Rattle.words.proofs.Refused.{refusal-not-done, passed-on}
use Rattle.hours.specs.Asking.{zero-asked, asked-timed}
use Rattle.hours.proofs.NextLaws.{next-refused, next-done}
use Rattle.hours.proofs.Given.{refused-named}
use Rattle.upcoming.proofs.next_start.Goals as goal

pub returns-in_err-judge : goal.returns-in_err-judge
returns-in_err-judge c = (
  rw (passed-on _ _ _ c.from_residual.ensures.1) (next-refused _ _ _ _ _ c.in_err-judge.ensures (refusal-not-done c.in_err-judge.field-0.0)),
  refused-named _ _ _ c.from_residual.ensures.1,
)

pub soonest-requires : goal.soonest-requires
soonest-requires c = asked-timed _ _ _ _ (zero-asked _ _ _ _ _ c.in_ok-judge.ensures refl)

pub returns : goal.returns
returns c = (next-done _ _ _ _ _ _ c.in_ok-judge.ensures refl c.soonest.ensures.next, c.soonest.ensures.named)
