-- What follows from the definitions of specs/Window.
--     held_tells         held is 1 exactly where the probe holds the tick
--     window             from any tick at or after the start: of the next T ticks exactly q are the probe's
--     clean-alone        in a clean line no other probe has any of those
-- Assumes nothing.
use Rattle.std.specs.Prelude.{◌≡◌, ◌↔◌, ◌≢◌, Bool, List, length}
use Rattle.std.proofs.Math.Path.{refl, ap}
use Rattle.std.proofs.Common.{sym, ◌∙◌, suc-add, add-one}
use Rattle.std.proofs.Math.Bool.{true, false}
use Prim.Native.Nat.{ℕ, zero, suc, ◌+◌, ◌-◌, ◌%◌, ◌≤◌, ◌<◌, min}
use Rattle.std.proofs.Math.Nat.{add-mod_right, add-sub_cancel_left, add-suc, add-zero, mod-eq_of_lt, zero-add}
use native.Mathlib.Omega.{arith}
use Rattle.lists.specs.Pick.{Tells}
use Rattle.lists.specs.Telling.{tells_both, tells-le, tells-lt, tells-true, tells-false}
use Rattle.wire.specs.Wire.{Holds, HoldsAt, Clean}
use Rattle.wire.specs.Window.{holds, once, held, held_in}

pub clean-alone : (Ts qs ss : List ℕ) → Clean Ts qs ss → (i j t : ℕ) → i < length Ts → j < length Ts → i ≢ j
    → HoldsAt Ts qs ss i t → HoldsAt Ts qs ss j t → ⊥
clean-alone Ts qs ss c i j t hi hj n a b = n (c t i j hi hj a b)

module _ (T q s : ℕ) where
  pub holds-tells : (t : ℕ) → Tells (holds T q s t) (Holds T q s t)
  holds-tells t = tells_both _ _ (tells-le s t) (tells-lt ((t - s) % T) q)

  pub held_tells : (t : ℕ) → (held T q s t ≡ 1) ↔ Holds T q s t
  unfolding held
  held_tells t = by (holds T q s t) (holds-tells t)
    where
      by : (b : Bool) → Tells b (Holds T q s t) → (once b ≡ 1) ↔ Holds T q s t
      by true w = (λ e. w.yes refl, λ h. refl)
      by false w = (λ e. absurd (omega arith), λ h. absurd (w.no refl h))

  -- two ticks that are both held, or both not, count alike
  held-alike : (t x : ℕ) → (Holds T q s t → Holds T q s x) → (Holds T q s x → Holds T q s t) → held T q s t ≡ held T q s x
  unfolding held
  held-alike t x f g = by (holds T q s t) (holds-tells t)
    where
      by : (b : Bool) → Tells b (Holds T q s t) → once b ≡ held T q s x
      by true w = ap once (sym (tells-true (holds T q s x) (holds-tells x) (f (w.yes refl))))
      by false w = ap once (sym (tells-false (holds T q s x) (holds-tells x) (λ h. w.no refl (g h))))

  -- a turn later the same
  held-turn : (t : ℕ) → s ≤ t → held T q s (t + T) ≡ held T q s t
  held-turn t l = held-alike (t + T) t (λ h. (l, rw same at h.1)) (λ h. (omega arith, rw same h.1))
    where
      same : (t + T - s) % T ≡ (t - s) % T
      same = ap (λ (y : ℕ). y % T) (omega arith) ∙ add-mod_right (t - s) T

  -- two stretches in a row
  pub held-in-add : (n m a : ℕ) → held_in T q s a (n + m) ≡ held_in T q s a n + held_in T q s (a + n) m
  unfolding held_in
  held-in-add zero m a = rw (zero-add m, zero-add, add-zero a)
  held-in-add (suc n) m a = rw (suc-add n m, add-suc a n) (omega (arith, rw (suc-add a n) at (held-in-add n m (suc a))))

  -- the last tick of a stretch split off
  held-in-last : (n a : ℕ) → held_in T q s a (suc n) ≡ held_in T q s a n + held T q s (a + n)
  unfolding held_in
  held-in-last n a = ap (held_in T q s a) (sym (add-one n)) ∙ held-in-add n 1 a ∙ omega arith

  -- x ticks into the first turn
  held_first : (x : ℕ) → x < T → held T q s (s + x) + min x q ≡ min (suc x) q
  unfolding held
  held_first x h = by (holds T q s (s + x)) (holds-tells (s + x))
    where
      into : (s + x - s) % T ≡ x
      into = ap (λ (y : ℕ). y % T) (add-sub_cancel_left s x) ∙ mod-eq_of_lt h

      by : (b : Bool) → Tells b (Holds T q s (s + x)) → once b + min x q ≡ min (suc x) q
      by true w = omega (arith, (w.yes refl).1, into)
      by false w =
          let over : ¬ (x < q) = λ l. w.no refl (omega arith, rw into l) in
          omega arith

  -- the first n ticks of the first turn
  first-turn : (n : ℕ) → n ≤ T → held_in T q s s n ≡ min n q
  unfolding held_in
  first-turn zero h = omega arith
  first-turn (suc n) h = held-in-last n s ∙ omega (arith, first-turn n (omega arith), held_first n h)

  -- a window of one turn may slide
  window-slide : (a : ℕ) → s ≤ a → held_in T q s (suc a) T ≡ held_in T q s a T
  unfolding held_in
  window-slide a l = omega (arith, held-in-last T a, held-turn a l)

  module _ (h : q ≤ T) where
    slid : (k : ℕ) → held_in T q s (s + k) T ≡ q
    slid zero = rw (add-zero s) (first-turn T (omega arith) ∙ omega arith)
    slid (suc k) = rw (add-suc s k) (window-slide (s + k) (omega arith) ∙ slid k)

    pub window : (a : ℕ) → s ≤ a → held_in T q s a T ≡ q
    window a l =
        let back : s + (a - s) ≡ a = omega arith in
        rw back at (slid (a - s))
