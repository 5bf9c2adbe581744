-- NUMBER 5, FAST. Every period is held against the different periods seen so far and not against every earlier probe.
--     Seen seen n x        x is one of the first n periods that are kept
--     Clashes seen n x     one of them neither divides x nor is divided by it
-- The law that makes this the same: `keeping-seen`, `keeping-clash`, `keeping-new` give the test of number 5 over every earlier probe.
-- Assumes nothing.
use Rattle.std.specs.Prelude.{◌≡◌, ◌⊎◌, List, ℕ, ◌<◌, get_or}
use Rattle.std.specs.Int.{◌∣◌}

-- at most 21 different numbers within a period's range divide one another
abbrev pub most_chained : ℕ
most_chained = 21

abbrev pub Chained : ℕ → ℕ → Type 0
Chained a b = (a ∣ b) ⊎ (b ∣ a)

abbrev pub Seen : List ℕ → ℕ → ℕ → Type 0
Seen seen n x = (k : ℕ) × (k < n) × (get_or seen k 0 ≡ x)

abbrev pub Clashes : List ℕ → ℕ → ℕ → Type 0
Clashes seen n x = (k : ℕ) × (k < n) × (Chained (get_or seen k 0) x → ⊥)
