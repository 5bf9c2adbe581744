-- `book::read` meets its contract: which column is short. Assumes nothing.
use Rattle.std.proofs.Common.{sym, ◌∙◌, inl, inr}
use Rattle.book.proofs.Ways.{column_short}
use Rattle.book.proofs.read.Goals as goal
use Rattle.book.proofs.read.Goals.{then-periods-n-via-then-periods-n, then-periods-n-via-else-periods-n+then-lengths-n, then-periods-n-via-else-periods-n+else-lengths-n+then-starts-n}

pub returns-then-periods-n : goal.returns-then-periods-n
returns-then-periods-n c =
    column_short c.args.book.now _ _ _ (sym c.bad_size.ensures ∙ c.if-bad_size.false) c.in_ok-probes.probes c.in_ok-probes.ensures.judged
    (elim c.then-periods-n.branch [
      | then-periods-n-via-then-periods-n w ↦ inl w.if-periods-n.true
      | then-periods-n-via-else-periods-n+then-lengths-n w ↦ inr (inl w.if-lengths-n.true)
      | then-periods-n-via-else-periods-n+else-lengths-n+then-starts-n w ↦ inr (inr w.if-starts-n.true)
    ])
