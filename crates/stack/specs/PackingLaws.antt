-- THE PACKING VERDICT HOLDS EXACTLY WHEN THE LIST IS CLEAN. Document 01, "Meeting on the wire"; document 000, Lemma 1 and Theorem 1.
--     packed-clean          inside the width and no overlap: clean
--     clean-packed          clean and inside the width: no overlap
--     clean-inside          a clean list in which a probe of the shortest period starts at 0 stays inside the width
--     packs-clean           the verdict, with its move to o, is the same as Clean, for every harmonic table and every list of starts below their periods
-- Edges: the empty table packs and is clean.
-- Assumes nothing.
use Rattle.std.specs.Prelude.{◌≡◌, ◌↔◌, ◌≢◌, List, ℕ, ◌+◌, ◌-◌, ◌%◌, ◌≤◌, ◌<◌, length, get_or}
use Rattle.std.proofs.Common.{sym, ap, ◌∙◌, mod-eq_of_lt, zero-add, arith}
use Rattle.std.proofs.Math.Nat.{add-mod_right, sub-zero}
use Rattle.std.proofs.Math.Decide.{dec_le, ℕ_discrete}
use Rattle.lists.specs.Harmonic.{Harmonic, Positive}
use Rattle.wire.specs.Wire.{NeverMeet, Clean}
use Rattle.wire.specs.Meeting.{lag, Apart, moved}
use Rattle.wire.proofs.Lag.{lag-unique, lag-below}
use Rattle.wire.proofs.Apartness.{apart-sound, apart-complete, never-meet-swap}
use Rattle.wire.proofs.Moving.{moved_at, moved-lt, clean-moved}
use Rattle.probes.specs.Table.{shortest}
use Rattle.probes.specs.Heights.{shortest-positive}
use Rattle.chain.specs.Corners.{corner_x}
use Rattle.order.specs.Order.{first}
use Rattle.order.proofs.Following.{first-is, first-shortest}
use Rattle.stack.specs.Packing.{CoversAt, Inside, NoOverlap, origin, Packs}
use Rattle.stack.specs.Rectangles.{cells-apart, apart-cells}

module _ (Ts qs zs : List ℕ) (ha : Harmonic Ts) (pos : Positive qs (length Ts)) where
  abbrev ApartAt : ℕ → ℕ → Type 0
  ApartAt i j = Apart (get_or Ts i 0) (get_or qs i 0) (get_or zs i 0) (get_or Ts j 0) (get_or qs j 0) (get_or zs j 0)

  abbrev Never : ℕ → ℕ → Type 0
  Never i j = NeverMeet (get_or Ts i 0) (get_or qs i 0) (get_or zs i 0) (get_or Ts j 0) (get_or qs j 0) (get_or zs j 0)

  ordered-never : (i j : ℕ) → i < length Ts → j < length Ts → get_or Ts i 0 ≤ get_or Ts j 0 → ApartAt i j → Never i j
  ordered-never i j hi hj le a = apart-sound _ _ _ _ _ _ (ha.divides i j hi hj le) (ha.positive j hj) a

  never-ordered : (i j : ℕ) → i < length Ts → j < length Ts → get_or Ts i 0 ≤ get_or Ts j 0 → Never i j → ApartAt i j
  never-ordered i j hi hj le n = apart-complete _ _ _ _ _ _ (ha.divides i j hi hj le) (ha.positive j hj) (pos i hi) (pos j hj) n

  -- two probes inside the width, with no cell in common, never meet
  pub pair-never : (i j : ℕ) → i < length Ts → j < length Ts → get_or zs i 0 < get_or Ts i 0 → get_or zs j 0 < get_or Ts j 0
      → corner_x Ts (get_or zs i 0) + get_or qs i 0 ≤ shortest Ts → corner_x Ts (get_or zs j 0) + get_or qs j 0 ≤ shortest Ts
      → ((c r : ℕ) → CoversAt Ts qs zs i c r → CoversAt Ts qs zs j c r → ⊥) → Never i j
  pair-never i j hi hj bi bj fi fj none = by (dec_le (get_or Ts i 0) (get_or Ts j 0))
    where
      by : Dec (get_or Ts i 0 ≤ get_or Ts j 0) → Never i j
      by (yes le) =
          ordered-never i j hi hj le (cells-apart Ts ha i j hi hj le (get_or zs i 0) (get_or zs j 0) bi (get_or qs i 0) (get_or qs j 0) (pos i hi) (pos j hj) fi fj none)
      by (no le) =
          let ge : get_or Ts j 0 ≤ get_or Ts i 0 = omega arith in
          never-meet-swap _ _ _ _ _ _
          (ordered-never j i hj hi ge (cells-apart Ts ha j i hj hi ge (get_or zs j 0) (get_or zs i 0) bj (get_or qs j 0) (get_or qs i 0) (pos j hj) (pos i hi) fj fi (λ c r a b. none c r b a)))

  pub never-pair : (i j : ℕ) → i < length Ts → j < length Ts → get_or zs i 0 < get_or Ts i 0 → get_or zs j 0 < get_or Ts j 0
      → corner_x Ts (get_or zs i 0) + get_or qs i 0 ≤ shortest Ts → corner_x Ts (get_or zs j 0) + get_or qs j 0 ≤ shortest Ts
      → Never i j → (c r : ℕ) → CoversAt Ts qs zs i c r → CoversAt Ts qs zs j c r → ⊥
  never-pair i j hi hj bi bj fi fj n c r a b = by (dec_le (get_or Ts i 0) (get_or Ts j 0))
    where
      by : Dec (get_or Ts i 0 ≤ get_or Ts j 0) → ⊥
      by (yes le) =
          apart-cells Ts ha i j hi hj le (get_or zs i 0) (get_or zs j 0) bi (get_or qs i 0) (get_or qs j 0) (pos i hi) (pos j hj) fi fj (never-ordered i j hi hj le n) c r a b
      by (no le) =
          let ge : get_or Ts j 0 ≤ get_or Ts i 0 = omega arith in
          apart-cells Ts ha j i hj hi ge (get_or zs j 0) (get_or zs i 0) bj (get_or qs j 0) (get_or qs i 0) (pos j hj) (pos i hi) fj fi
          (never-ordered j i hj hi ge (never-meet-swap _ _ _ _ _ _ n)) c r b a

  clean-never : Clean Ts qs zs → (i j : ℕ) → i < length Ts → j < length Ts → i ≢ j → Never i j
  clean-never clean i j hi hj ne t a b = ne (clean t i j hi hj a b)

  abbrev BelowAll : Type 0
  BelowAll = (i : ℕ) → i < length Ts → get_or zs i 0 < get_or Ts i 0

  pub packed-clean : BelowAll → Inside Ts qs zs → NoOverlap Ts qs zs → Clean Ts qs zs
  packed-clean below inside none t i j hi hj a b = by (ℕ_discrete i j)
    where
      by : Dec (i ≡ j) → i ≡ j
      by (yes e) = e
      by (no ne) = absurd (pair-never i j hi hj (below i hi) (below j hj) (inside i hi) (inside j hj) (λ c r p q. ne (none i j c r hi hj p q)) t a b)

  pub clean-packed : BelowAll → Inside Ts qs zs → Clean Ts qs zs → NoOverlap Ts qs zs
  clean-packed below inside clean i j c r hi hj a b = by (ℕ_discrete i j)
    where
      by : Dec (i ≡ j) → i ≡ j
      by (yes e) = e
      by (no ne) = absurd (never-pair i j hi hj (below i hi) (below j hj) (inside i hi) (inside j hj) (clean-never clean i j hi hj ne) c r a b)

  pub clean-inside : (f : ℕ) → f < length Ts → get_or Ts f 0 ≡ shortest Ts → get_or zs f 0 ≡ 0 → ((i : ℕ) → i < length Ts → get_or qs i 0 ≤ shortest Ts)
      → Clean Ts qs zs → Inside Ts qs zs
  unfolding corner_x
  clean-inside f hf short zero short-reads clean j hj = by (ℕ_discrete f j)
    where
      w-positive : 0 < shortest Ts
      w-positive = shortest-positive Ts ha (omega arith)

      seen : lag (shortest Ts) 0 (get_or zs j 0) ≡ get_or zs j 0 % shortest Ts
      seen = lag-below (shortest Ts) 0 (get_or zs j 0) w-positive ∙ ap (λ (x : ℕ). x % shortest Ts) (sub-zero (get_or zs j 0 + shortest Ts)) ∙ add-mod_right (get_or zs j 0) (shortest Ts)

      least : get_or Ts f 0 ≤ get_or Ts j 0
      least = rw short (Rattle.probes.specs.Extremes.shortest-least Ts j hj)

      by : Dec (f ≡ j) → get_or zs j 0 % shortest Ts + get_or qs j 0 ≤ shortest Ts
      by (yes e) =
          let z : get_or zs j 0 ≡ 0 = ap (λ (k : ℕ). get_or zs k 0) (sym e) ∙ zero in
          rw (z, mod-eq_of_lt w-positive) (omega (arith, short-reads j hj))
      by (no ne) =
          let a = never-ordered f j hf hj least (clean-never clean f j hf hj ne) in
          let b : lag (shortest Ts) 0 (get_or zs j 0) + get_or qs j 0 ≤ shortest Ts = rw (short, zero) at a.1 in
          rw seen at b

pub packs-clean : (Ts ps qs ss : List ℕ) → Harmonic Ts → length Ts ≡ length ss → Positive qs (length Ts)
    → ((i : ℕ) → i < length Ts → get_or qs i 0 ≤ shortest Ts) → ((i : ℕ) → i < length Ts → get_or ss i 0 < get_or Ts i 0)
    → Packs Ts ps qs ss ↔ Clean Ts qs ss
unfolding origin
packs-clean Ts ps qs ss ha same pos short-reads below = (sound, complete)
  where
    turned : (i : ℕ) → i < length Ts → get_or (moved (origin Ts ps ss) Ts ss) i 0 < get_or Ts i 0
    turned i h = moved-lt (origin Ts ps ss) Ts ss i h (omega arith) (ha.positive i h)

    sound : Packs Ts ps qs ss → Clean Ts qs ss
    sound (inside, none) = (clean-moved (origin Ts ps ss) Ts qs ss ha same pos).1 (packed-clean Ts qs (moved (origin Ts ps ss) Ts ss) ha pos turned inside none)

    inside_of : Clean Ts qs (moved (origin Ts ps ss) Ts ss) → Inside Ts qs (moved (origin Ts ps ss) Ts ss)
    inside_of clean i h =
        let some : 0 < length Ts = omega arith in
        let f = (first-is Ts ps some).probe in
        clean-inside Ts qs (moved (origin Ts ps ss) Ts ss) ha pos (first Ts ps) f (first-shortest Ts ps some)
        (moved_at (origin Ts ps ss) Ts ss (first Ts ps) f (omega arith) ∙ still (get_or Ts (first Ts ps) 0) (get_or ss (first Ts ps) 0) (ha.positive (first Ts ps) f)) short-reads clean i h
      where
        still : (T s : ℕ) → 0 < T → lag T s s ≡ 0
        still T s z = sym (lag-unique T s s 0 z (ap (λ (x : ℕ). x % T) (zero-add s)))

    complete : Clean Ts qs ss → Packs Ts ps qs ss
    complete clean =
        let c = (clean-moved (origin Ts ps ss) Ts qs ss ha same pos).0 clean in
        (inside_of c, clean-packed Ts qs (moved (origin Ts ps ss) Ts ss) ha pos turned (inside_of c) c)
