use mathlib.Core.Path.{refl}
use native.Mathlib.Omega.{arith}
use borrow.Author.Rules.{rules}
use Rattle.text.specs.Printing.{put-over}
use Rattle.paper.specs.Laws.{prints-short, prints-done}
use Rattle.pages.proofs.plan_page.Goals as goal

pub returns-then-out-lt-PLAN : goal.returns-then-out-lt-PLAN
returns-then-out-lt-PLAN c = prints-short _ _ _ c.if-out-lt-PLAN.true

pub returns : goal.returns
returns c =
    let put = c.put_page.ensures in
    let over = c.over-printer.ensures in
    let start = over.at in
    prints-done _ _ _ _ refl (omega arith) _ _ (put-over _ _ _ _ _ put.puts over.page over.at (search rules)) (search rules)
