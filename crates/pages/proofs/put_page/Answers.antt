use mathlib.Core.Path.{refl}
use native.Mathlib.Omega.{arith}
use Rattle.words.proofs.Refused.{refusal-above}
use Rattle.replies.proofs.Opened.{opened_few, taken}
use Rattle.paper.specs.Laws.{page-refused, page-planned}
use Rattle.pages.proofs.put_page.Goals as goal

pub slice_bounds-periods-end : goal.slice_bounds-periods-end
slice_bounds-periods-end c = omega (arith, c.read.auto.periods, opened_few _ _ _ _ _ (c.in-Ok.ensures {u = tt}))

pub slice_bounds-put_plan-end : goal.slice_bounds-put_plan-end
slice_bounds-put_plan-end c = taken _ _ (omega (arith, c.read.auto.periods, opened_few _ _ _ _ _ (c.in-Ok.ensures {u = tt})))

pub slice_bounds-lengths-end : goal.slice_bounds-lengths-end
slice_bounds-lengths-end c = omega (arith, c.read.auto.lengths, opened_few _ _ _ _ _ (c.in-Ok.ensures {u = tt}))

pub slice_bounds-put_plan-end-in-Ok : goal.slice_bounds-put_plan-end-in-Ok
slice_bounds-put_plan-end-in-Ok c = taken _ _ (omega (arith, c.read.auto.lengths, opened_few _ _ _ _ _ (c.in-Ok.ensures {u = tt})))

pub put_plan-requires : goal.put_plan-requires
put_plan-requires c =
    let few = opened_few _ _ _ _ _ (c.in-Ok.ensures {u = tt}) in
    record { few = omega (arith, few, taken c.in-Ok.probes c.read.new.periods (omega (arith, c.read.auto.periods, few))); room = c.requires }

pub returns-in-Ok : goal.returns-in-Ok
returns-in-Ok c =
    let put = c.put_plan.ensures in
    record { puts = rw (page-planned _ _ _ _ _ (c.in-Ok.ensures {u = tt}) refl) at put.puts; upper_bound = put.upper_bound }

pub returns-in-Err : goal.returns-in-Err
returns-in-Err c =
    let put = c.put_answer.ensures in
    let above = refusal-above c.in-Err.refused in
    let page = page-refused _ _ _ _ _ (c.in-Err.ensures {u = tt}) (λ z. omega arith) in
    record { puts = rw page at (rw c.from.ensures at put.puts); upper_bound = omega (arith, put.upper_bound) }
