-- A LIST THAT PASSES 1 TO 6 AND 9. Document 01, "Numbers the master shows".
--     Passes Ts ps ss           what number 0 of the judge of a list says (probes, specs/Passed and proofs/Passed)
--     InRange Ts ps ss i        what that says of probe i (pairs, specs/Range)
-- Edges: the empty list passes.
-- Assumes nothing.
pub use Rattle.probes.specs.Passed.{Passes}
pub use Rattle.probes.proofs.Passed.{silent-passes, passes-silent, sound-silent, zero-passes}
pub use Rattle.pairs.specs.Range.{InRange, passes-gives}
