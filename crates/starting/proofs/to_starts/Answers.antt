-- `packing::to_starts` meets its promise: the judge, and then the starts of all corners. Assumes nothing.
use Rattle.std.proofs.Common.{refl, arith}
use Rattle.words.proofs.Refused.{refusal-not-done, passed-on}
use Rattle.probes.proofs.Laws.{sound-gives}
use Rattle.rectangles.specs.Ends.{starts-ready, starts-refused-end, starts-end}
use Rattle.starting.proofs.to_starts.Goals as goal

pub returns-in_err-starts_judged : goal.returns-in_err-starts_judged
returns-in_err-starts_judged c =
    rw (passed-on _ _ _ c.from_residual.ensures.1)
    (starts-refused-end _ _ _ _ _ _ c.in_err-starts_judged.ensures (refusal-not-done c.in_err-starts_judged.field-0.0))

pub of-requires : goal.of-requires
of-requires c =
    let r = starts-ready _ _ _ _ _ _ c.in_ok-starts_judged.ensures refl in
    let s = sound-gives _ _ r.sound in
    record { harmonic = s.harmonic; most = s.most; low = s.low }

pub write_starts-requires : goal.write_starts-requires
write_starts-requires c =
    let r = starts-ready _ _ _ _ _ _ c.in_ok-starts_judged.ensures refl in
    rw c.of.ensures (record { long_x = omega (arith, r.same-x); long_y = omega (arith, r.same-y); long = r.long; on_grid = r.on-grid })

pub returns : goal.returns
returns c = starts-end _ _ _ _ _ _ c.in_ok-starts_judged.ensures refl _ (rw c.of.ensures at c.write_starts.ensures)
