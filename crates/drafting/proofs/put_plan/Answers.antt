-- `drafting::put_plan` meets its contract: the plan's lines where the planner ran, else the refusal. Assumes nothing.
use Rattle.std.proofs.Common.{sym, ◌∙◌, arith}
use Rattle.paper.specs.Laws.{plan-same, plan-refused, plan-lines}
use Rattle.drafting.proofs.put_plan.Goals as goal

pub put_table-requires-clause-lengths : goal.put_table-requires-clause-lengths
put_table-requires-clause-lengths c = omega (arith, plan-same _ _ _ c.plan-planned.ensures (sym c.ran.ensures ∙ c.if-ran.true))

pub returns-then-ran-clause-puts : goal.returns-then-ran-clause-puts
returns-then-ran-clause-puts c =
    rw (← plan-lines _ _ _ c.plan-planned.ensures (sym c.ran.ensures ∙ c.if-ran.true)) (rw c.from-shown.ensures at c.put_table.ensures.puts)

pub returns-else-ran-clause-puts : goal.returns-else-ran-clause-puts
returns-else-ran-clause-puts c =
    rw (plan-refused _ _ _ c.plan-planned.ensures (sym c.ran.ensures ∙ c.if-ran.false)) at (rw c.from-shown.ensures at c.put_answer.ensures.puts)
