-- OF ANY T TICKS, EXACTLY q. The customer's demand 3, first sentence; document 01, "The line and its words".
--     holds T q s t      the test of one tick; holds-tells: it says whether the probe holds it
--     held T q s t       1 where the probe holds tick t, else 0
--     held_in T q s a n   how many of the n ticks a, a + 1, .. the probe holds
-- Edges: a tick before the start is not held, so a window that begins before it may have fewer. A read may pass the window's end: then as much of an
-- earlier one stands at its beginning.
-- Assumes nothing.
use Rattle.std.specs.Prelude.{Bool, leb, ltb}
use Prim.Native.Nat.{ℕ, zero, suc, ◌+◌, ◌-◌, ◌%◌}
use Rattle.lists.specs.Pick.{pick, both}

abbrev pub holds : ℕ → ℕ → ℕ → ℕ → Bool
holds T q s t = both (leb s t) (ltb ((t - s) % T) q)

abbrev pub once : Bool → ℕ
once b = pick b 1 0

unfoldable pub held : ℕ → ℕ → ℕ → ℕ → ℕ
held T q s t = once (holds T q s t)

unfoldable pub held_in : ℕ → ℕ → ℕ → ℕ → ℕ → ℕ
held_in T q s a zero = 0
held_in T q s a (suc n) = held T q s a + held_in T q s (suc a) n
