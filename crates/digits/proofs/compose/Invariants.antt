-- `digits::compose` meets its contract. The loop's invariant: v is the number that the digits from this place on stand for.
-- Assumes nothing.
use Rattle.chain.specs.Passes.{Composing}
use Rattle.digits.proofs.compose.Given as goal

abbrev pub invariant-loop-place : goal.invariant-loop-place
invariant-loop-place l = Composing l.ratios l.d l.v l.place
