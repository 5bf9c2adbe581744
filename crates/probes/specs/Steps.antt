-- THE STEPS OF THE SEARCHES: what each loop knows, and what each test tells.
--     bad-period-tells, bad-length-tells, late-tells    the tests of 3, 4 and 9 at a place
--     Lessening Ts w i, Growing Ts m i                  w is the least, m the greatest, of what a loop has passed: what is left decides the rest
-- Assumes nothing.
use Rattle.std.specs.Prelude.{◌≡◌, refl, ◌⊎◌, List, [], ◌∷◌, ℕ, ◌+◌, ◌≤◌, ◌<◌, min, max, ltb, eqb, length, get_or, drop}
use Rattle.std.proofs.Common.{add-one, arith, drop_of_length-le, drop-cons}
use Rattle.lists.specs.Pick.{Tells}
use Rattle.lists.specs.Telling.{tells-either, tells-lt, tells-le, tells-eq}
use Rattle.words.specs.Ticks.{most_period}
use Rattle.probes.specs.Columns.{shortest, longest, least_of, greatest_of, BadPeriod, BadLength, Late, bad_period, bad_length, late}

pub bad-period-tells : (Ts ps : List ℕ) (i : ℕ) → Tells (bad_period Ts i) (BadPeriod Ts ps i)
unfolding bad_period
bad-period-tells Ts ps i = tells-either (ltb (get_or Ts i 0) 1) (ltb most_period (get_or Ts i 0)) (tells-lt (get_or Ts i 0) 1) (tells-lt most_period (get_or Ts i 0))

pub length-tells : (w : ℕ) (ps : List ℕ) (i : ℕ) → Tells (bad_length w ps i) ((get_or ps i 0 ≡ 0) ⊎ (w < get_or ps i 0))
unfolding bad_length
length-tells w ps i = tells-either (eqb (get_or ps i 0) 0) (ltb w (get_or ps i 0)) (tells-eq (get_or ps i 0) 0) (tells-lt w (get_or ps i 0))

pub bad-length-tells : (Ts ps : List ℕ) (i : ℕ) → Tells (bad_length (shortest Ts) ps i) (BadLength Ts ps i)
bad-length-tells Ts ps i = length-tells (shortest Ts) ps i

pub late-tells : (Ts ss : List ℕ) (i : ℕ) → Tells (late Ts ss i) (Late Ts ss i)
unfolding late
late-tells Ts ss i = tells-le (get_or Ts i 0) (get_or ss i 0)

pub record Lessening (Ts : List ℕ) (w i : ℕ) : Type 0 where
  pub within : i ≤ length Ts
  pub rest : least_of w (drop i Ts) ≡ shortest Ts

pub lessening-start : (Ts : List ℕ) → 0 < length Ts → Lessening Ts (get_or Ts 0 0) 1
unfolding shortest
lessening-start [] h = absurd (omega arith)
lessening-start (T ∷ Ts) h = record { within = omega arith; rest = refl }

pub lessening-next : (Ts : List ℕ) (w i v : ℕ) → i < length Ts → v ≡ min w (get_or Ts i 0) → Lessening Ts w i → Lessening Ts v (i + 1)
unfolding least_of
lessening-next Ts w i v h e g = record { within = omega arith; rest = rw (e, add-one i) (rw (drop-cons Ts i 0 h) at g.rest) }

pub lessening-done : (Ts : List ℕ) (w i : ℕ) → length Ts ≤ i → Lessening Ts w i → w ≡ shortest Ts
unfolding least_of
lessening-done Ts w i h g = rw (drop_of_length-le Ts h) at g.rest

pub shortest-none : (Ts : List ℕ) → length Ts ≡ 0 → 0 ≡ shortest Ts
unfolding shortest
shortest-none [] h = refl
shortest-none (T ∷ Ts) h = absurd (omega arith)

pub record Growing (Ts : List ℕ) (m i : ℕ) : Type 0 where
  pub within : i ≤ length Ts
  pub rest : greatest_of m (drop i Ts) ≡ longest Ts

pub growing-start : (Ts : List ℕ) → Growing Ts 0 0
unfolding longest
growing-start Ts = record { within = omega arith; rest = refl }

pub growing-next : (Ts : List ℕ) (m i v : ℕ) → i < length Ts → v ≡ max m (get_or Ts i 0) → Growing Ts m i → Growing Ts v (i + 1)
unfolding greatest_of
growing-next Ts m i v h e g = record { within = omega arith; rest = rw (e, add-one i) (rw (drop-cons Ts i 0 h) at g.rest) }

pub growing-done : (Ts : List ℕ) (m i : ℕ) → length Ts ≤ i → Growing Ts m i → m ≡ longest Ts
unfolding greatest_of
growing-done Ts m i h g = rw (drop_of_length-le Ts h) at g.rest
