-- What follows from the definitions of specs/FirstShared.
--     first-shared-unique         there is one at most
--     first-shared-swap           which of the two is named first does not matter
--     shared-tick-first           of two that are not apart, the four cases of shared_tick give it
--     shared-tick-bound           it is at most U + max q r - 2
-- Assumes nothing.
use Rattle.std.specs.Prelude.{◌≡◌, ℕ, ◌+◌, ◌-◌, ◌%◌, ◌≤◌, ◌<◌, max}
use Rattle.std.proofs.Common.{ap, ◌∙◌, add-zero, mod-eq_of_lt, arith}
use Rattle.std.specs.Int.{◌∣◌}
use Rattle.std.proofs.Math.Nat.{add-sub_cancel_left, le_of_dvd, mod-le, mod_self, sub_self, zero-mod}
use Rattle.std.proofs.Math.Decide.{dec_le, dec_lt}
use borrow.Author.Tests.{le-leb, le-ltb, lt-leb, lt-ltb}
use Rattle.wire.specs.Wire.{Holds}
use Rattle.wire.specs.Meeting.{lag, Apart, shared_tick}
use Rattle.wire.proofs.Lag.{lag-lt, lag-after, lag-below, seen}
use Rattle.wire.specs.FirstShared.{FirstShared}

pub first-shared-swap : (T q s U r u t : ℕ) → FirstShared T q s U r u t → FirstShared U r u T q s t
first-shared-swap T q s U r u t f = record { one = f.other; other = f.one; none_before = λ x h a b. f.none_before x h b a }

pub first-shared-unique : (T q s U r u x y : ℕ) → FirstShared T q s U r u x → FirstShared T q s U r u y → x ≡ y
first-shared-unique T q s U r u x y f g =
    let a : ¬ (x < y) = λ h. g.none_before x (omega arith) f.one f.other in
    let b : ¬ (y < x) = λ h. f.none_before y (omega arith) g.one g.other in
    omega arith

module _ (T q s U r u : ℕ) where
  -- the four cases of shared_tick
  tick-inside : s ≤ u → lag T s u < q → shared_tick T q s U r u ≡ u
  unfolding shared_tick
  tick-inside l k = rw (le-leb s u l, lt-ltb (lag T s u) q k)

  tick-overrun : s ≤ u → q ≤ lag T s u → shared_tick T q s U r u ≡ u + (T - lag T s u)
  unfolding shared_tick
  tick-overrun l k = rw (le-leb s u l, le-ltb (lag T s u) q k)

  tick-shorter : u < s → s < u + r → shared_tick T q s U r u ≡ s
  unfolding shared_tick
  tick-shorter l k = rw (lt-leb s u l, lt-ltb s (u + r) k)

  tick-second : u < s → u + r ≤ s → shared_tick T q s U r u ≡ u + U
  unfolding shared_tick
  tick-second l k = rw (lt-leb s u l, le-ltb s (u + r) k)

  shared-cases : (P : ℕ → Type 0)
      → (s ≤ u → lag T s u < q → P u)
      → (s ≤ u → q ≤ lag T s u → P (u + (T - lag T s u)))
      → (u < s → s < u + r → P s)
      → (u < s → u + r ≤ s → P (u + U))
      → P (shared_tick T q s U r u)
  shared-cases P a b c d = by (dec_le s u) (dec_lt (lag T s u) q) (dec_lt s (u + r))
    where
      by : Dec (s ≤ u) → Dec (lag T s u < q) → Dec (s < u + r) → P (shared_tick T q s U r u)
      by (yes l) (yes k) z = rw (tick-inside l k) (a l k)
      by (yes l) (no k) z = rw (tick-overrun l (omega arith)) (b l (omega arith))
      by (no l) y (yes k) = rw (tick-shorter (omega arith) k) (c (omega arith) k)
      by (no l) y (no k) = rw (tick-second (omega arith) (omega arith)) (d (omega arith) (omega arith))

  module _ (d : T ∣ U) (h : 0 < U) (ls : s < T) (hq : 0 < q) where
    -- where the longer one starts first, the lag is what is left of the shorter one's turn
    behind : u < s → lag T s u ≡ u + T - s
    behind k = lag-below T s u ls ∙ mod-eq_of_lt (omega arith)

    at_first : 0 < r → s ≤ u → lag T s u < q → FirstShared T q s U r u u
    at_first hr l k =
        record {
          one = (l, rw (← lag-after T s u (omega arith) l) k);
          other = (omega arith, rw (sub_self, zero-mod) hr);
          none_before = λ x e a b. absurd (omega arith);
        }

    at_next : s ≤ u → q ≤ lag T s u → T < lag T s u + r → FirstShared T q s U r u (u + (T - lag T s u))
    at_next l k m =
        let below = lag-lt T s u (omega arith) in
        let within = le_of_dvd h d in
        let e = T - lag T s u in
        let into : (u + e - u) % U ≡ e = ap (λ (y : ℕ). y % U) (add-sub_cancel_left u e) ∙ mod-eq_of_lt (omega arith) in
        let turn : lag T s u + e ≡ T = omega arith in
        record {
          one = (omega arith, rw (seen T s U u (u + e) d (omega arith) (omega arith) (omega arith), into, turn, mod_self) hq);
          other = (omega arith, rw into (omega arith));
          none_before = earlier;
        }
      where
        earlier : (x : ℕ) → x < u + (T - lag T s u) → Holds T q s x → Holds U r u x → ⊥
        earlier x i (a, b) (c, j) =
            let below = lag-lt T s u (omega arith) in
            let within = le_of_dvd h d in
            let f : (x - u) % U ≡ x - u = mod-eq_of_lt (omega arith) in
            let g : (lag T s u + (x - u)) % T ≡ lag T s u + (x - u) = mod-eq_of_lt (omega arith) in
            let w : (x - s) % T ≡ (lag T s u + (x - u) % U) % T = seen T s U u x d (omega arith) a c in
            let v : (x - s) % T ≡ (lag T s u + (x - u)) % T = rw f at w in
            omega arith

    at-shorter : u < s → s < u + r → FirstShared T q s U r u s
    at-shorter l k =
        let m = mod-le (s - u) U in
        record {
          one = (omega arith, rw (sub_self, zero-mod) hq);
          other = (omega arith, omega arith);
          none_before = λ x e a b. absurd (omega arith);
        }

    at_second : 0 < r → u < s → u + r ≤ s → lag T s u < q → FirstShared T q s U r u (u + U)
    at_second hr l k m =
        let below = lag-lt T s u (omega arith) in
        let within = le_of_dvd h d in
        let into : (u + U - u) % U ≡ 0 = ap (λ (y : ℕ). y % U) (add-sub_cancel_left u U) ∙ mod_self U in
        record {
          one = (omega arith, rw (seen T s U u (u + U) d (omega arith) (omega arith) (omega arith), into, add-zero, mod-eq_of_lt below) m);
          other = (omega arith, rw into hr);
          none_before = earlier;
        }
      where
        earlier : (x : ℕ) → x < u + U → Holds T q s x → Holds U r u x → ⊥
        earlier x i (a, b) (c, j) =
            let f : (x - u) % U ≡ x - u = mod-eq_of_lt (omega arith) in
            omega arith

    module _ (n : Apart T q s U r u → ⊥) where
      -- not apart and past the one's read: into the next
      overrun : q ≤ lag T s u → T < lag T s u + r
      overrun k = by (dec_le (lag T s u + r) T)
        where
          by : Dec (lag T s u + r ≤ T) → T < lag T s u + r
          by (yes a) = absurd (n (k, a))
          by (no a) = omega arith

      -- not apart and ended before the shorter one starts: into its read
      inside : u < s → u + r ≤ s → lag T s u < q
      inside l k = by (dec_le q (lag T s u))
        where
          by : Dec (q ≤ lag T s u) → lag T s u < q
          by (yes a) = absurd (n (a, omega (arith, behind l)))
          by (no a) = omega arith

      pub shared-tick-first : 0 < r → FirstShared T q s U r u (shared_tick T q s U r u)
      shared-tick-first hr =
          shared-cases (FirstShared T q s U r u)
          (at_first hr)
          (λ l k. at_next l k (overrun k))
          at-shorter
          (λ l k. at_second hr l k (inside l k))

      pub shared-tick-bound : u < U → shared_tick T q s U r u + 2 ≤ U + max q r
      shared-tick-bound lu =
          let within = le_of_dvd h d in
          omega (
            arith,
            shared-cases (λ t. t + 2 ≤ U + max q r)
                (λ l k. omega arith)
                (λ l k. omega (arith, overrun k))
                (λ l k. omega arith)
                (λ l k. omega (arith, inside l k, behind l)),
          )
