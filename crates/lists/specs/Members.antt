-- WHAT STANDS IN A LIST. In x xs (specs/Pick) and the place of x.
--     in-at, at_in          x stands in xs exactly when it stands at some place
--     harmonic-divides      of two periods that stand in a harmonic table the smaller divides the larger
-- Assumes nothing.
use Rattle.std.specs.Prelude.{◌≡◌, refl, List, [], ◌∷◌, ℕ, zero, suc, ◌≤◌, ◌<◌, length, get_or}
use Rattle.std.proofs.Common.{sym, inl, inr, arith}
use Rattle.std.specs.Int.{◌∣◌}
use Rattle.lists.specs.Pick.{In}
use Rattle.lists.specs.Harmonic.{Harmonic}

pub in-at : (x : ℕ) (xs : List ℕ) → In x xs → (i : ℕ) × (i < length xs) × (get_or xs i 0 ≡ x)
unfolding In
in-at x [] h = absurd h
in-at x (y ∷ ys) (inl e) = (0, omega arith, sym e)
in-at x (y ∷ ys) (inr h) =
    let (i, l, e) = in-at x ys h in
    (suc i, omega arith, e)

pub at_in : (xs : List ℕ) (i : ℕ) → i < length xs → In (get_or xs i 0) xs
unfolding In
at_in [] i h = absurd (omega arith)
at_in (x ∷ xs) zero h = inl refl
at_in (x ∷ xs) (suc i) h = inr (at_in xs i (omega arith))

pub in_some : (x : ℕ) (xs : List ℕ) → In x xs → 0 < length xs
in_some x xs h =
    let (i, l, e) = in-at x xs h in
    omega arith

module _ (Ts : List ℕ) (ha : Harmonic Ts) where
  pub harmonic-positive : (T : ℕ) → In T Ts → 0 < T
  harmonic-positive T h =
      let (i, l, e) = in-at T Ts h in
      rw e at (ha.positive i l)

  pub harmonic-divides : (T U : ℕ) → In T Ts → In U Ts → T ≤ U → T ∣ U
  harmonic-divides T U h k o =
      let (i, l, e) = in-at T Ts h in
      let (j, m, f) = in-at U Ts k in
      rw (e, f) at (ha.divides i j l m (rw (e, f) o))
