-- `check_list::main` is safe: what is printed is within the page. Assumes nothing.
use mathlib.Core.Path.{sym}
use lib.Seq.{length-take-le}
use Rattle.paper.specs.Laws.{prints-within}
use Rattle.check_list.proofs.main.Goals as goal

pub slice_bounds-page-end : goal.slice_bounds-page-end
slice_bounds-page-end c = prints-within _ _ _ _ (c.in-Ok.ensures {u = tt}) c.check_page.auto.out

pub slice_bounds-write_all-end : goal.slice_bounds-write_all-end
slice_bounds-write_all-end c = sym (length-take-le c.in-Ok.size c.check_page.new.out (prints-within _ _ _ _ (c.in-Ok.ensures {u = tt}) c.check_page.auto.out))
