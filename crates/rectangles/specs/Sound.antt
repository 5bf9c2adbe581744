-- LINES ONE AFTER ANOTHER, and numbers that a list lacks, as crates probes (proofs/Passed) and lists (specs/Standing) have them.
-- Assumes nothing.
pub use Rattle.probes.proofs.Passed.{silent-if, silents-left, silents-right, silents-append, sound-with, below_of}
pub use Rattle.lists.specs.Standing.{not_in}
unfoldable pub use Rattle.lists.specs.Standing.{stands}
