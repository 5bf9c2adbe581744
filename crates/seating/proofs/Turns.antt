-- THE PROBES IN PLANNING ORDER, as the code holds them.
--     turn-below, turn-probe     a turn below their number is the turn of a probe
--     turn-left                  and each of those from k on is, as they are lent
--     stuck-turn, last-turn      the ways out of the loop over the turns
-- Assumes nothing.
use Rattle.std.specs.Prelude.{◌≡◌, Bool, false, List, ℕ, ◌+◌, ◌-◌, ◌≤◌, ◌<◌, length, get_or, take, drop}
use Rattle.std.proofs.Common.{ap, ◌∙◌, arith, length-drop, get_or-drop}
use Rattle.std.proofs.lemmas.List.{take_rest}
use Rattle.words.specs.Answers.{refused, done}
use Rattle.order.specs.Order.{order}
use Rattle.order.proofs.Listed.{order-length, order-probe}
use Rattle.stack.specs.FirstFit.{outcome, marked, fitted}
use Rattle.placing.specs.Placing.{Tried}
use Rattle.seating.specs.Laws.{Seating, seating-stuck, seating-done}

module _ (Ts ps js : List ℕ) (o : js ≡ order Ts ps) where
  long : length js ≡ length Ts
  long = rw o (order-length Ts ps)

  module _ (k : ℕ) (h : k < length js) where
    pub turn-below : k < length Ts
    turn-below = omega (arith, long)

    pub turn-probe : get_or js k 0 < length Ts
    turn-probe = rw o (order-probe Ts ps k turn-below)

    pub turn-entry : get_or js k 0 ≡ get_or (order Ts ps) k 0
    turn-entry = ap (λ (l : List ℕ). get_or l k 0) o

  pub turn-left : (k m : ℕ) → m < length (take (length js - k) (drop k js)) → get_or (take (length js - k) (drop k js)) m 0 < length Ts
  turn-left k m h = rw (take_rest js k, get_or-drop k js m 0) (turn-probe (k + m) (omega (arith, length-drop k js, rw (take_rest js k) at h)))

  module _ (ss₀ fs₀ ss fs : List ℕ) (k : ℕ) (g : Seating Ts ps ss₀ fs₀ ss fs k) where
    pub stuck-turn : k < length js → (r : Bool) (zs gs us : List ℕ) → Tried Ts ps ss fs (get_or js k 0) r zs gs → r ≡ false
        → us ≡ marked (take (length js - k) (drop k js)) zs → outcome (refused 8 (get_or js k 0)) us gs ≡ fitted Ts ps (order Ts ps) ss₀ fs₀
    stuck-turn h r zs gs us t z e =
        rw (e, (t.stayed z).0, (t.stayed z).1, take_rest js k)
        (ap (λ (l : List ℕ). outcome (refused 8 (get_or js k 0)) (marked (drop k l) ss) fs) o
        ∙ seating-stuck Ts ps ss₀ fs₀ ss fs k g (turn-below k h) (get_or js k 0) (turn-entry k h) r zs gs t z)

    pub last-turn : length js ≤ k → outcome done ss fs ≡ fitted Ts ps (order Ts ps) ss₀ fs₀
    last-turn h = seating-done Ts ps ss₀ fs₀ ss fs k (omega (arith, long)) g
