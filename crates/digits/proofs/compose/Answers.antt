-- `digits::compose` meets its contract.
-- Assumes nothing.
use Rattle.std.proofs.Common.{arith}
use Prim.Native.Nat.{◌-◌}
use Rattle.chain.specs.Passes.{composing-start, composing-next, composing-fits, composing-done}
use Rattle.digits.proofs.compose.Goals as goal

pub loop-place-init : goal.loop-place-init
loop-place-init c = composing-start _ _ c.requires.digits _ (omega arith)

pub overflow_mul-v : goal.overflow_mul-v
overflow_mul-v c =
    let l = c.loop-place in
    let g = composing-next _ _ c.requires.digits l.v l.place l.invariant (l.place - 1) (omega arith) in
    omega (arith, composing-fits _ _ c.requires.digits _ _ g)

pub overflow_add-v : goal.overflow_add-v
overflow_add-v c =
    let l = c.loop-place in
    let g = composing-next _ _ c.requires.digits l.v l.place l.invariant (l.place - 1) (omega arith) in
    omega (arith, composing-fits _ _ c.requires.digits _ _ g)

pub loop-place-preserved : goal.loop-place-preserved
loop-place-preserved c =
    let l = c.loop-place in
    composing-next _ _ c.requires.digits l.v l.place l.invariant _ (omega arith)

pub returns : goal.returns
returns c =
    let l = c.loop-place in
    composing-done _ _ c.requires.digits l.v l.place l.invariant (omega arith)
