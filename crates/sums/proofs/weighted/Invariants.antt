-- `sums::weighted` meets its contract: the sum so far is that of the places passed. Assumes nothing.
use Rattle.std.proofs.Common.{◌≡◌, ◌≤◌, ◌*◌, take}
use Rattle.sheets.specs.Bytes.{place_sum}
use Rattle.sums.proofs.weighted.Given as goal

abbrev pub invariant-loop-place : goal.invariant-loop-place
invariant-loop-place l = record { so_far : l.sum ≡ place_sum 0 (take l.place l.bytes); most : l.sum ≤ 128520 * l.place }
