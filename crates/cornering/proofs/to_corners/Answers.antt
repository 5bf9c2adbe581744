-- `packing::to_corners` meets its promise: the judge, and then the corners of all starts. Assumes nothing.
use Rattle.std.proofs.Common.{refl, arith}
use Rattle.words.proofs.Refused.{refusal-not-done, passed-on}
use Rattle.probes.proofs.Laws.{sound-gives}
use Rattle.rectangles.specs.Ends.{corners-ready, corners-refused-end, corners-end}
use Rattle.cornering.proofs.to_corners.Goals as goal

pub returns-in_err-corners_judged : goal.returns-in_err-corners_judged
returns-in_err-corners_judged c =
    rw (passed-on _ _ _ c.from_residual.ensures.1)
    (corners-refused-end _ _ _ _ _ _ c.in_err-corners_judged.ensures (refusal-not-done c.in_err-corners_judged.field-0.0))

pub of-requires : goal.of-requires
of-requires c =
    let r = corners-ready _ _ _ _ _ _ c.in_ok-corners_judged.ensures refl in
    let s = sound-gives _ _ r.sound in
    record { harmonic = s.harmonic; most = s.most; low = s.low }

pub write_corners-requires : goal.write_corners-requires
write_corners-requires c =
    let r = corners-ready _ _ _ _ _ _ c.in_ok-corners_judged.ensures refl in
    rw c.of.ensures (record { long = omega (arith, r.same); long_x = r.long-x; long_y = r.long-y; below = r.below })

pub returns : goal.returns
returns c =
    let e = rw c.of.ensures at c.write_corners.ensures in
    corners-end _ _ _ _ _ _ c.in_ok-corners_judged.ensures refl _ _ e.xs e.ys
