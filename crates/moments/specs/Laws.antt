-- LAWS OF ONE PROBE AND A TICK, as the code writes them.
--     early-holds, phase-holds          whether it holds the tick
--     candidate-now, -here, -later      its first start from the tick on
-- Assumes nothing.
use Rattle.std.specs.Prelude.{◌≡◌, false, ℕ, ◌+◌, ◌-◌, ◌≤◌, ◌<◌, ltb}
use borrow.Author.Tests.{le-leb, lt-leb, eq-eqb, ne_eqb}
use Rattle.wire.specs.Window.{holds}
use Rattle.moments.specs.Moments.{phase, candidate}

pub early-holds : (T q s t : ℕ) → t < s → false ≡ holds T q s t
early-holds T q s t h = rw (lt-leb s t h)

pub phase-holds : (T q s t x : ℕ) → x ≡ phase T s t → s ≤ t → ltb x q ≡ holds T q s t
unfolding phase
phase-holds T q s t x e h = rw (e, le-leb s t h)

module _ (T s t : ℕ) where
  pub candidate-now : t ≤ s → s ≡ candidate T s t
  unfolding candidate
  candidate-now h = rw (le-leb t s h)

  module _ (f : ℕ) (e : f ≡ phase T s t) (h : s < t) where
    pub candidate-here : f ≡ 0 → t ≡ candidate T s t
    unfolding candidate
    candidate-here g = rw (lt-leb t s h, ← e, eq-eqb f 0 g)

    pub candidate-later : (f ≡ 0 → ⊥) → t + (T - f) ≡ candidate T s t
    unfolding candidate
    candidate-later g = rw (lt-leb t s h, ← e, ne_eqb f 0 g)
