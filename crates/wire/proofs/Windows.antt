-- OF ANY T * n TICKS, EXACTLY q * n. The customer's demand 3, first sentence.
--     windows            of the next T * h ticks exactly q * h: so of one longest period M = T * h, "busy" q * h
-- Assumes nothing.
use Rattle.std.specs.Prelude.{◌≡◌}
use Rattle.std.proofs.Common.{◌∙◌, mul-suc}
use Prim.Native.Nat.{ℕ, zero, suc, ◌+◌, ◌*◌, ◌≤◌}
use Rattle.std.proofs.Math.Nat.{mul-zero}
use native.Mathlib.Omega.{arith}
use Rattle.wire.specs.Window.{held_in}
use Rattle.wire.proofs.Window.{held-in-add, window}

module _ (T q s : ℕ) where
  module _ (h : q ≤ T) where
    pub windows : (n a : ℕ) → s ≤ a → held_in T q s a (T * n) ≡ q * n
    unfolding held_in
    windows zero a l = rw (mul-zero T, mul-zero q)
    windows (suc n) a l = rw (mul-suc T n) (held-in-add T q s (T * n) T a ∙ omega (arith, windows n a l, window T q s h (a + T * n) (omega arith)))
