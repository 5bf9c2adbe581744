-- `timetable::holder` meets its contract: the judge first, then the lowest probe that holds the tick. Assumes nothing.
use Rattle.std.proofs.Common.{refl, arith}
use Rattle.lists.proofs.Searches.{found-at, none-at}
use Rattle.words.proofs.Refused.{refusal-not-done, passed-on}
use Rattle.probes.proofs.Laws.{sound-gives}
use Rattle.hours.specs.Timetable.{holds_test}
use Rattle.hours.specs.Asking.{zero-asked}
use Rattle.hours.proofs.HolderLaws.{holder-found, holder-idle, holder-refused, holder-done}
use Rattle.hours.proofs.Given.{refused-named}
use Rattle.timetable.proofs.holder.Goals as goal

pub returns-in_err-judge : goal.returns-in_err-judge
returns-in_err-judge c = (
  rw (passed-on _ _ _ c.from_residual.ensures.1) (holder-refused _ _ _ _ _ c.in_err-judge.ensures (refusal-not-done c.in_err-judge.field-0.0)),
  refused-named _ _ _ c.from_residual.ensures.1,
)

pub holding-requires : goal.holding-requires
holding-requires c = zero-asked _ _ _ _ _ c.in_ok-judge.ensures refl

pub overflow_cast-result : goal.overflow_cast-result
overflow_cast-result c =
    let at = found-at (holds_test c.args.periods.now c.args.lengths.now c.args.starts.now c.args.tick) _ _ _ c.holding.ensures c.in-Some.is in
    omega (arith, (sound-gives _ _ (zero-asked _ _ _ _ _ c.in_ok-judge.ensures refl).sound).few, at.0)

pub returns-in-Some : goal.returns-in-Some
returns-in-Some c =
    let at = found-at (holds_test c.args.periods.now c.args.lengths.now c.args.starts.now c.args.tick) _ _ _ c.holding.ensures c.in-Some.is in
    let few = (sound-gives _ _ (zero-asked _ _ _ _ _ c.in_ok-judge.ensures refl).sound).few in
    (holder-done _ _ _ _ _ _ c.in_ok-judge.ensures refl (holder-found _ _ _ _ _ at.1 at.0), omega (arith, few, at.0))

pub returns-in-None : goal.returns-in-None
returns-in-None c =
    let none = none-at (holds_test c.args.periods.now c.args.lengths.now c.args.starts.now c.args.tick) _ _ c.holding.ensures c.in-None.is in
    (holder-done _ _ _ _ _ _ c.in_ok-judge.ensures refl (holder-idle _ _ _ _ _ refl none), tt)
