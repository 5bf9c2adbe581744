-- OUT OF THE CHAIN. Document 01, "Numbers the master shows", number 5.
--     Unchained Ts ps i     5 at place i: "a probe's period neither divides nor is divided by that of some earlier probe"
--     unchained Ts i        the same as a test
-- Edges: number 5 is about every earlier probe.
-- Assumes nothing.
use Rattle.std.specs.Prelude.{Bool, not, List, ℕ, ◌%◌, ◌<◌, eqb, get_or}
use Rattle.std.specs.Int.{◌∣◌}
use Rattle.lists.specs.Pick.{either, any_below}

module _ (Ts ps : List ℕ) where
  abbrev pub Unchained : ℕ → Type 0
  Unchained i = (j : ℕ) × (j < i) × (get_or Ts i 0 ∣ get_or Ts j 0 → ⊥) × (get_or Ts j 0 ∣ get_or Ts i 0 → ⊥)

-- a divides b
unfoldable pub divides : ℕ → ℕ → Bool
divides a b = eqb (b % a) 0

-- of the two periods one divides the other
unfoldable pub chained : ℕ → ℕ → Bool
chained a b = either (divides a b) (divides b a)

unfoldable pub unchained : List ℕ → ℕ → Bool
unchained Ts i = any_below (λ j. not (chained (get_or Ts i 0) (get_or Ts j 0))) i
