-- `rows::lowest_row` meets its contract: y is the first row of a sub-bin, and none below it has room. Assumes nothing.
use Rattle.std.proofs.Common.{sym, arith}
use Rattle.rows.specs.Seeking.{seeking-start, seeking-within, seeking-next, seeking-found, seeking-past}
use Rattle.rows.proofs.lowest_row.Goals as goal

pub loop-y-init : goal.loop-y-init
loop-y-init c = seeking-start _ _ _ _

pub returns-then-rows-y : goal.returns-then-rows-y
returns-then-rows-y c =
    let a = c.args in
    let l = c.loop-y in
    (omega arith, sym (seeking-found _ a.h a.p a.w l.y (omega arith) c.requires.h l.invariant (omega arith) (omega arith)))

pub overflow_add-y : goal.overflow_add-y
overflow_add-y c =
    let a = c.args in
    let l = c.loop-y in
    omega (arith, seeking-within _ a.h a.p a.w l.y (omega arith) c.requires.h l.invariant (omega arith))

pub loop-y-preserved : goal.loop-y-preserved
loop-y-preserved c =
    let a = c.args in
    let l = c.loop-y in
    seeking-next _ a.h a.p a.w l.y (omega arith) c.requires.h l.invariant (omega arith) (λ f. omega arith)

pub returns : goal.returns
returns c =
    let a = c.args in
    let l = c.loop-y in
    seeking-past _ a.h a.p a.w l.y (omega arith) c.requires.h l.invariant (omega arith)
