use native.Mathlib.Omega.{arith}
use borrow.Author.Rules.{rules}
use Rattle.text.specs.Printing.{put-over}
use Rattle.paper.specs.Laws.{check-page-is, prints-short, prints-done}
use Rattle.check_paper.proofs.check_page.Goals as goal

pub returns-then-out-lt-CHECK : goal.returns-then-out-lt-CHECK
returns-then-out-lt-CHECK c = prints-short _ _ _ c.if-out-lt-CHECK.true

pub returns : goal.returns
returns c =
    let put = c.put_check.ensures in
    let over = c.over-printer.ensures in
    let long = over.at in
    prints-done _ _ _ _ (check-page-is _ _ c.reply.ensures) (omega arith) _ _ (put-over _ _ _ _ _ put.puts over.page over.at (search rules)) (search rules)
