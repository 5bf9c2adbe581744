use native.Mathlib.Omega.{arith}
use Rattle.replies.proofs.Opened.{opened_few, answers_refused, taken}
use Rattle.replies.proofs.reply.Goals as goal

pub slice_bounds-periods-end : goal.slice_bounds-periods-end
slice_bounds-periods-end c = omega (arith, c.read.auto.periods, opened_few _ _ _ _ _ (c.in-Ok.ensures {u = tt}))

pub slice_bounds-ask-end : goal.slice_bounds-ask-end
slice_bounds-ask-end c = taken _ _ (omega (arith, c.read.auto.periods, opened_few _ _ _ _ _ (c.in-Ok.ensures {u = tt})))

pub slice_bounds-lengths-end : goal.slice_bounds-lengths-end
slice_bounds-lengths-end c = omega (arith, c.read.auto.lengths, opened_few _ _ _ _ _ (c.in-Ok.ensures {u = tt}))

pub slice_bounds-ask-end-in-Ok : goal.slice_bounds-ask-end-in-Ok
slice_bounds-ask-end-in-Ok c = taken _ _ (omega (arith, c.read.auto.lengths, opened_few _ _ _ _ _ (c.in-Ok.ensures {u = tt})))

pub slice_bounds-starts-end : goal.slice_bounds-starts-end
slice_bounds-starts-end c = omega (arith, c.read.auto.starts, opened_few _ _ _ _ _ (c.in-Ok.ensures {u = tt}))

pub slice_bounds-ask-end-in-Ok-2 : goal.slice_bounds-ask-end-in-Ok-2
slice_bounds-ask-end-in-Ok-2 c = taken _ _ (omega (arith, c.read.auto.starts, opened_few _ _ _ _ _ (c.in-Ok.ensures {u = tt})))

pub returns-in-Err : goal.returns-in-Err
returns-in-Err c = rw c.from.ensures (answers_refused _ _ _ _ c.in-Err.refused (c.in-Err.ensures {u = tt}) c.args.question)
