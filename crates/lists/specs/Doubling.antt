-- HOW MANY DIFFERENT NUMBERS CAN DIVIDE ONE ANOTHER. Each is at least twice the one below it, so a range that doubles e times holds at most e of them.
--     Mutual f n        of f 0, .., f (n - 1) no two are equal, and of two one divides the other
--     few               Mutual f n, and each in [a, a * 2^e): n is at most e
-- Assumes nothing.
use Rattle.std.specs.Prelude.{◌≡◌, refl, ◌⊎◌, ◌≢◌, ℕ, zero, suc, ◌+◌, ◌*◌, ◌/◌, ◌^◌, ◌≤◌, ◌<◌, ltb}
use Rattle.std.proofs.Common.{inl, inr, arith, lt-ltb, le-ltb}
use Rattle.std.specs.Int.{◌∣◌}
use native.Mathlib.Nat.{mul-div_cancel', pow-suc, mul-one}
use Rattle.std.proofs.Math.Decide.{dec_lt}
use Rattle.lists.specs.Pick.{pick}

abbrev pub Mutual : (ℕ → ℕ) → ℕ → Type 0
Mutual f n = (k l : ℕ) → k < l → l < n → (f k ≢ f l) × ((f k ∣ f l) ⊎ (f l ∣ f k))

-- how many of the first n lie below b
unfoldable under : (ℕ → ℕ) → ℕ → ℕ → ℕ
under f b zero = 0
under f b (suc n) = pick (ltb (f n) b) 1 0 + under f b n

-- a number that a smaller one divides is at least twice that
doubled : (x y : ℕ) → 0 < y → x < y → x ∣ y → 2 * x ≤ y
doubled x y z h d = go (y / x) refl
  where
    e : x * (y / x) ≡ y
    e = mul-div_cancel' x d

    go : (c : ℕ) → y / x ≡ c → 2 * x ≤ y
    go zero q = absurd (omega (arith, rw q at e))
    go (suc zero) q = absurd (omega (arith, rw q at e))
    go (suc (suc c)) q = omega (arith, rw q at e)

never-near : (x y b : ℕ) → 0 < b → b ≤ x → x < 2 * b → b ≤ y → y < 2 * b → x ≢ y → (x ∣ y) ⊎ (y ∣ x) → ⊥
never-near x y b z lx ux ly uy ne (inl d) = by (dec_lt x y)
  where
    by : Dec (x < y) → ⊥
    by (yes h) = omega (arith, doubled x y (omega arith) h d)
    by (no h) = omega (arith, native.Mathlib.Nat.le_of_dvd {m = x} {n = y} (omega arith) d)
never-near x y b z lx ux ly uy ne (inr d) = by (dec_lt y x)
  where
    by : Dec (y < x) → ⊥
    by (yes h) = omega (arith, doubled y x (omega arith) h d)
    by (no h) = omega (arith, native.Mathlib.Nat.le_of_dvd {m = y} {n = x} (omega arith) d)

under_same : (f : ℕ → ℕ) (b n : ℕ) → ((k : ℕ) → k < n → b ≤ f k → f k < 2 * b → ⊥) → under f (2 * b) n ≡ under f b n
unfolding under
under_same f b zero none = refl
under_same f b (suc n) none = by (dec_lt (f n) b) (dec_lt (f n) (2 * b)) (under_same f b n (λ k h. none k (omega arith)))
  where
    by : Dec (f n < b) → Dec (f n < 2 * b) → under f (2 * b) n ≡ under f b n → pick (ltb (f n) (2 * b)) 1 0 + under f (2 * b) n ≡ pick (ltb (f n) b) 1 0 + under f b n
    by (yes h) d ih =
        let g : f n < 2 * b = omega arith in
        rw (lt-ltb (f n) b h, lt-ltb (f n) (2 * b) g, ih)
    by (no h) (yes g) ih = absurd (none n (omega arith) (omega arith) g)
    by (no h) (no g) ih =
        let l : b ≤ f n = omega arith in
        let m : 2 * b ≤ f n = omega arith in
        rw (le-ltb (f n) b l, le-ltb (f n) (2 * b) m, ih)

under-double : (f : ℕ → ℕ) (b n : ℕ) → 0 < b → Mutual f n → under f (2 * b) n ≤ under f b n + 1
unfolding under
under-double f b zero z m = omega arith
under-double f b (suc n) z m = by (dec_lt (f n) b) (dec_lt (f n) (2 * b)) (under-double f b n z (λ k l h g. m k l h (omega arith)))
  where
    by : Dec (f n < b) → Dec (f n < 2 * b) → under f (2 * b) n ≤ under f b n + 1 → pick (ltb (f n) (2 * b)) 1 0 + under f (2 * b) n ≤ pick (ltb (f n) b) 1 0 + under f b n + 1
    by (yes h) d ih =
        let g : f n < 2 * b = omega arith in
        rw (lt-ltb (f n) b h, lt-ltb (f n) (2 * b) g) (omega arith)
    by (no h) (yes g) ih =
        let l : b ≤ f n = omega arith in
        rw (le-ltb (f n) b l, lt-ltb (f n) (2 * b) g)
        (omega (arith, under_same f b n (λ k i lo hi. never-near (f k) (f n) b z lo hi l g (m k n i (omega arith)).0 (m k n i (omega arith)).1)))
    by (no h) (no g) ih =
        let l : b ≤ f n = omega arith in
        let o : 2 * b ≤ f n = omega arith in
        rw (le-ltb (f n) b l, le-ltb (f n) (2 * b) o) (omega arith)

under_none : (f : ℕ → ℕ) (b n : ℕ) → ((k : ℕ) → k < n → b ≤ f k) → under f b n ≡ 0
unfolding under
under_none f b zero h = refl
under_none f b (suc n) h = rw (le-ltb (f n) b (h n (omega arith)), under_none f b n (λ k l. h k (omega arith)))

under_all : (f : ℕ → ℕ) (b n : ℕ) → ((k : ℕ) → k < n → f k < b) → under f b n ≡ n
unfolding under
under_all f b zero h = refl
under_all f b (suc n) h = rw (lt-ltb (f n) b (h n (omega arith)), under_all f b n (λ k l. h k (omega arith))) (omega arith)

under-powers : (f : ℕ → ℕ) (a e n : ℕ) → 0 < a → Mutual f n → ((k : ℕ) → k < n → a ≤ f k) → (0 < a * 2 ^ e) × (under f (a * 2 ^ e) n ≤ e)
under-powers f a zero n z m low =
    let one : a * 2 ^ 0 ≡ a = mul-one a in
    (omega arith, rw (one, under_none f a n low) (omega arith))
under-powers f a (suc e) n z m low =
    let ih = under-powers f a e n z m low in
    let t : a * 2 ^ suc e ≡ 2 * (a * 2 ^ e) = rw (pow-suc 2 e) (omega arith) in
    (omega arith, rw t (omega (arith, under-double f (a * 2 ^ e) n ih.0 m)))

pub few : (f : ℕ → ℕ) (a e n : ℕ) → 0 < a → Mutual f n → ((k : ℕ) → k < n → a ≤ f k) → ((k : ℕ) → k < n → f k < a * 2 ^ e) → n ≤ e
few f a e n z m low high = omega (arith, under_all f (a * 2 ^ e) n high, (under-powers f a e n z m low).1)
