-- `Grid::of` meets its contract: the table and the chain are those of the periods. Assumes nothing.
use Rattle.grid.proofs.Grid.of.Goals as goal

pub invariant_of-result : goal.invariant_of-result
invariant_of-result c = record { prepared = record { harmonic = c.requires.harmonic; most = c.requires.most; low = c.requires.low; table_is = c.of.ensures; chain-is = c.of-2.ensures } }
