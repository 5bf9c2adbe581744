-- THE REMAINDER FROM 0 UP: ITS LAWS. Document 01, "Meeting on the wire" (d) and the packing verdict (the move to o).
--     lag-lt          it lies below the period
--     lag-below       where o < T it is the remainder of s + T - o
--     lag-back        o added back gives s, around the period
--     lag-unique      and no other number below the period does: so lag is "the remainder of s - o by T, from 0 up"
--     lag-after       from o on it is the plain remainder of t - o
--     lag-add         x later it is x more, around the period
--     seen            a tick, seen from the start s by T: as far into the other's turn as it is, plus their lag
--     lag-moved       two starts that are moved alike keep their lag
-- Edges: o and s may be any numbers; only T = 0 is shut out.
-- Assumes nothing.
use Rattle.std.specs.Prelude.{◌≡◌, ℕ, suc, ◌+◌, ◌-◌, ◌*◌, ◌/◌, ◌%◌, ◌≤◌, ◌<◌}
use Rattle.std.proofs.Common.{sym, ap, ◌∙◌, add-sub_of_le, div-add-mod', mod-eq_of_lt, mod-lt, arith}
use Rattle.std.specs.Int.{◌∣◌}
use Rattle.std.proofs.Math.Nat.{add-mod-mod, add-mul-mod_self_right, mod-add-mod, mod-mod_of_dvd, pos_of_dvd_of_pos}
use Rattle.wire.specs.Meeting.{lag}

pub lag-lt : (T o s : ℕ) → 0 < T → lag T o s < T
unfolding lag
lag-lt T o s h = mod-lt _ h

pub lag-below : (T o s : ℕ) → o < T → lag T o s ≡ (s + T - o) % T
unfolding lag
lag-below T o s h =
    let e : o % T ≡ o = mod-eq_of_lt h in
    ap (λ (y : ℕ). y % T) (omega arith)

-- o on and the rest of o's turn on: whole turns
whole-turns : (T o x : ℕ) → 0 < T → (x + o + (T - o % T)) % T ≡ x % T
whole-turns T o x h = ap (λ (y : ℕ). y % T) turns ∙ add-mul-mod_self_right x (suc (o / T)) T
  where
    turns : x + o + (T - o % T) ≡ x + suc (o / T) * T
    turns = omega (arith, div-add-mod' o T, mod-lt o h)

pub lag-back : (T o s : ℕ) → 0 < T → (lag T o s + o) % T ≡ s % T
unfolding lag
lag-back T o s h =
    mod-add-mod (s + (T - o % T)) T o
    ∙ ap (λ (y : ℕ). y % T) swap
    ∙ whole-turns T o s h
  where
    swap : s + (T - o % T) + o ≡ s + o + (T - o % T)
    swap = omega arith

pub lag-unique : (T o s y : ℕ) → y < T → (y + o) % T ≡ s % T → y ≡ lag T o s
unfolding lag
lag-unique T o s y h e =
    sym (mod-eq_of_lt h)
    ∙ sym (whole-turns T o y (omega arith))
    ∙ sym (mod-add-mod (y + o) T (T - o % T))
    ∙ ap (λ (x : ℕ). (x + (T - o % T)) % T) e
    ∙ mod-add-mod s T (T - o % T)

pub lag-after : (T o t : ℕ) → 0 < T → o ≤ t → lag T o t ≡ (t - o) % T
unfolding lag
lag-after T o t h l = ap (λ (y : ℕ). (y + (T - o % T)) % T) back ∙ whole-turns T o (t - o) h
  where
    back : t ≡ t - o + o
    back = omega arith

pub lag-add : (T o s x : ℕ) → lag T o (s + x) ≡ (lag T o s + x) % T
unfolding lag
lag-add T o s x = ap (λ (y : ℕ). y % T) swap ∙ sym (mod-add-mod (s + (T - o % T)) T x)
  where
    swap : s + x + (T - o % T) ≡ s + (T - o % T) + x
    swap = omega arith

pub seen : (T s U u t : ℕ) → T ∣ U → 0 < T → s ≤ t → u ≤ t → (t - s) % T ≡ (lag T s u + (t - u) % U) % T
seen T s U u t d h l m =
    sym (lag-after T s t h l)
    ∙ ap (lag T s) (sym (add-sub_of_le m))
    ∙ lag-add T s u (t - u)
    ∙ sym (add-mod-mod (lag T s u) (t - u) T)
    ∙ ap (λ (y : ℕ). (lag T s u + y) % T) (sym (mod-mod_of_dvd T (t - u) d))
    ∙ add-mod-mod (lag T s u) ((t - u) % U) T

pub lag-moved : (T U o s u : ℕ) → T ∣ U → 0 < U → lag T (lag T o s) (lag U o u) ≡ lag T s u
lag-moved T U o s u d h = lag-unique T s u x (lag-lt T a b g) (far ∙ near)
  where
    g : 0 < T
    g = pos_of_dvd_of_pos d h

    a : ℕ
    a = lag T o s

    b : ℕ
    b = lag U o u

    x : ℕ
    x = lag T a b

    -- x + s is b + o around T: a is on its way from o to s
    far : (x + s) % T ≡ (b + o) % T
    far =
        sym (add-mod-mod x s T)
        ∙ ap (λ (y : ℕ). (x + y) % T) (sym (lag-back T o s g))
        ∙ add-mod-mod x (a + o) T
        ∙ ap (λ (y : ℕ). y % T) (omega arith)
        ∙ sym (mod-add-mod (x + a) T o)
        ∙ ap (λ (y : ℕ). (y + o) % T) (lag-back T a b g)
        ∙ mod-add-mod b T o

    -- and b + o is u around U, so around T
    near : (b + o) % T ≡ u % T
    near =
        sym (mod-mod_of_dvd T (b + o) d)
        ∙ ap (λ (y : ℕ). y % T) (lag-back U o u h)
        ∙ mod-mod_of_dvd T u d
