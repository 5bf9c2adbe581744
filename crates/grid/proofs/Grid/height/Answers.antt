-- `Grid::height` meets its contract: M is the longest period. Assumes nothing.
use Rattle.grid.specs.Laws.{tall-is}
use Rattle.grid.proofs.Grid.height.Goals as goal

pub returns : goal.returns
returns c = tall-is _ _ _ c.args.self.now.prepared c.args.i c.requires
