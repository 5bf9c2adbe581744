use mathlib.Core.Path.{refl}
use Rattle.telling.specs.Laws.{told_whole}
use Rattle.telling.proofs.tell.Goals as goal

pub returns : goal.returns
returns c = (refl, told_whole c.args.answer.now _ _ _ _ c.args.said c.requires c.put_number.ensures c.put_number-2.ensures c.put_number-3.ensures c.put_number-4.ensures)
