-- `sums::weighted` meets its contract: the sum so far is that of the places passed. Assumes nothing.
use Rattle.std.proofs.Common.{◌≡◌, ◌≤◌, ℕ, List, length, ◌+◌, ◌*◌, ◌<◌, refl, ap, ◌∙◌, take, get_or, arith}
use Rattle.std.proofs.Math.Seq.{take-length}
use Rattle.sheets.specs.Bytes.{place_sum}
use Rattle.sheets.specs.ByteLaws.{place-next, place-part}
use Rattle.sums.proofs.weighted.Goals as goal

-- a byte's part of the sum
part : (i b n : ℕ) → i < n → n ≤ 504 → b < 256 → (i + 1) * b ≤ 128520
part i b n h l v = place-part i 504 b (omega arith) v

pub loop-place-init : goal.loop-place-init
unfolding place_sum
loop-place-init c = record { so_far = refl; most = omega arith }

pub overflow_add-sum-in-loop-place : goal.overflow_add-sum-in-loop-place
overflow_add-sum-in-loop-place c =
    let l = c.loop-place in
    omega (arith, part l.place (get_or c.args.bytes.now l.place 0) _ c.loop-place-test.true c.requires (omega (arith, c.type_inv.bytes l.place)))

pub loop-place-preserved : goal.loop-place-preserved
loop-place-preserved c =
    let l = c.loop-place in
    record {
      so_far = omega (arith, place-next c.args.bytes.now l.place c.loop-place-test.true);
      most = omega (arith, part l.place (get_or c.args.bytes.now l.place 0) _ c.loop-place-test.true c.requires (omega (arith, c.type_inv.bytes l.place)));
    }

pub returns : goal.returns
returns c =
    let l = c.loop-place in
    let e : l.place ≡ length c.args.bytes.now = omega arith in
    l.invariant.so_far ∙ ap (λ (i : ℕ). place_sum 0 (take i c.args.bytes.now)) e ∙ ap (λ (z : List ℕ). place_sum 0 z) (take-length c.args.bytes.now)
