-- `digits::decompose` meets its contract. The loop's invariant: the first digits, as many as place says, stand in d, and rest has the others.
-- Assumes nothing.
use Rattle.chain.specs.Passes.{Decomposing}
use Rattle.digits.proofs.decompose.Given as goal

abbrev pub invariant-loop-place : goal.invariant-loop-place
invariant-loop-place l = Decomposing l.b-items l.v l.d l.rest l.place
