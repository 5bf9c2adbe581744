-- WHAT PLANNING GIVES, in words of the wire. Demand 2 and demand 3, second sentence; document 01, "First fit".
--     fit Ts ps ss              first fit of the whole table over empty rows: the answer, the starts and the H fills
--     fit-below, fit-clean      with answer 0 every start lies below its period, and the list is Clean
--     fit-placed-below, -clean  with answer 8 the same of the probes that have no mark
--     fit-ends                  s + p is at most T for every placed probe
--     fit-room                  with the room of demand 3 no probe is left without a place
-- Assumes nothing.
use Rattle.std.specs.Prelude.{◌≡◌, refl, ◌⊎◌, ◌≢◌, ℕ, zero, suc, ◌+◌, ◌-◌, ◌*◌, ◌/◌, ◌≤◌, ◌<◌, length, replicate}
use Rattle.std.proofs.Common.{sym, ◌∙◌, inl, inr, arith}
use Rattle.std.proofs.Math.Path.{ap}
use mathlib.Core.List.{List, [], ◌∷◌}
use native.Mathlib.Nat.{mul_comm, mod-add-div, div-lt_iff_lt-mul, mul-div_cancel, mul-div_cancel_left, mul-le-mul_left, div-mul-le_self, le-max_left, le-max_right}
use Rattle.std.proofs.Math.Decide.{ℕ_discrete, dec_le}
use Rattle.std.proofs.Math.ListN.{get_or}
use Rattle.lists.specs.Pick.{In}
use Rattle.lists.specs.Members.{at_in}
use Rattle.lists.specs.Sums.{sum_of, sum_below, sum_below-first}
use Rattle.lists.specs.Harmonic.{Harmonic, Positive}
use Rattle.words.specs.declared.Answer.{Answer}
use Rattle.words.specs.Answers.{refused, done, mark}
use Rattle.wire.specs.Wire.{Clean, CleanAmong}
use Rattle.probes.specs.Table.{shortest, longest, rows, height}
use Rattle.probes.specs.Heights.{height-positive, height-times, rows-slots, slots-times, shortest-positive}
use Rattle.chain.specs.Corners.{corner_x}
use Rattle.order.specs.Order.{order}
use Rattle.order.proofs.Listed.{order-length, order-once, order-sum}
use Rattle.stack.specs.Stack.{bins}
use Rattle.stack.specs.FirstFit.{Outcome, fitted}
use Rattle.stack.specs.Room.{busy_of, busy_ticks, longest_read, Room}
use Rattle.stack.specs.Rows.{sum}
use Rattle.stack.specs.PackingLaws.{pair-never}
use Rattle.stack.specs.Placing.{busy_at, Stands, placing-start, stands-inside}
use Rattle.stack.specs.Fitting.{Stuck, Fitted, fitted-holds, order-coming}

unfoldable pub fit : List ℕ → List ℕ → List ℕ → List ℕ → Outcome
fit Ts ps qs ss = fitted Ts qs (order Ts ps) ss (replicate (rows Ts) 0)

never-eight : (i : ℕ) → refused 8 i ≡ done → ⊥
never-eight i e =
    let z : ◌≡◌ {A = ℕ} 8 0 = ap (λ (a : Answer). a.number) e in
    omega arith

module _ (Ts ps qs ss : List ℕ) (ha : Harmonic Ts) (pos : Positive qs (length Ts)) (long : length Ts ≤ length ss) where
  abbrev o : Outcome
  o = fit Ts ps qs ss

  pub fit-holds : Fitted Ts qs [] (order Ts ps) ss (fit Ts ps qs ss)
  unfolding fit
  fit-holds = fitted-holds Ts qs ha pos (order Ts ps) [] ss (replicate (rows Ts) 0) (order-coming Ts ps ha) long (placing-start Ts qs ss)

  every : (i : ℕ) → i < length Ts → In i (order Ts ps)
  every i h = at (order-once Ts ps i h)
    where
      at : (k : ℕ) × (k < length Ts) × (get_or (order Ts ps) k 0 ≡ i) × ((l : ℕ) → l < length Ts → get_or (order Ts ps) l 0 ≡ i → l ≡ k) → In i (order Ts ps)
      at (k, l, e, u) = rw (← e) (at_in (order Ts ps) k (rw (order-length Ts ps) l))

  -- a probe without the mark was placed
  placed-if : (i : ℕ) → i < length Ts → get_or o.starts i 0 ≢ mark → In i fit-holds.ended
  placed-if i h n = at (fit-holds.rest i (every i h))
    where
      at : In i fit-holds.ended ⊎ (get_or o.starts i 0 ≡ mark) → In i fit-holds.ended
      at (inl m) = m
      at (inr e) = absurd (n e)

  standing : (i : ℕ) → In i fit-holds.ended → Stands Ts qs o.starts o.fills i
  standing i m = fit-holds.placing.stands i m

  inside : (i : ℕ) → In i fit-holds.ended → corner_x Ts (get_or o.starts i 0) + get_or qs i 0 ≤ shortest Ts
  inside i m = stands-inside Ts qs o.starts o.fills i ha fit-holds.placing.low (standing i m)

  pub fit-placed-below : (i : ℕ) → i < length Ts → get_or o.starts i 0 ≢ mark → get_or o.starts i 0 < get_or Ts i 0
  fit-placed-below i h n = (standing i (placed-if i h n)).below

  placed-clean : CleanAmong (λ i. In i fit-holds.ended) Ts qs o.starts
  placed-clean t i j hi hj mi mj a b = by (ℕ_discrete i j)
    where
      by : Dec (i ≡ j) → i ≡ j
      by (yes e) = e
      by (no ne) =
          absurd
          (pair-never Ts qs o.starts ha pos i j hi hj (standing i mi).below (standing j mj).below (inside i mi) (inside j mj) (fit-holds.placing.apart i j mi mj ne) t a b)

  pub fit-placed-clean : CleanAmong (λ i. get_or o.starts i 0 ≢ mark) Ts qs o.starts
  fit-placed-clean t i j hi hj ni nj = placed-clean t i j hi hj (placed-if i hi ni) (placed-if j hj nj)

  all_placed : o.answer ≡ done → (i : ℕ) → i < length Ts → In i fit-holds.ended
  all_placed e i h = at fit-holds.way
    where
      at : ((o.answer ≡ done) × ((k : ℕ) → In k (order Ts ps) → In k fit-holds.ended)) ⊎ ((k : ℕ) × Stuck Ts qs [] (order Ts ps) fit-holds.ended o k) → In i fit-holds.ended
      at (inl (d, all)) = all i (every i h)
      at (inr (k, s)) = absurd (never-eight k (sym s.named ∙ e))

  pub fit-below : o.answer ≡ done → (i : ℕ) → i < length Ts → get_or o.starts i 0 < get_or Ts i 0
  fit-below e i h = (standing i (all_placed e i h)).below

  pub fit-clean : o.answer ≡ done → Clean Ts qs o.starts
  fit-clean e t i j hi hj = placed-clean t i j hi hj (all_placed e i hi) (all_placed e j hj)

  pub fit-ends : (i : ℕ) → i < length Ts → get_or o.starts i 0 ≢ mark → get_or o.starts i 0 + get_or qs i 0 ≤ get_or Ts i 0
  unfolding corner_x
  fit-ends i h n =
      let m = placed-if i h n in
      let x = inside i m in
      let s = get_or o.starts i 0 in
      let w = shortest Ts in
      let slot : s / w < get_or Ts i 0 / w = (div-lt_iff_lt-mul (shortest-positive Ts ha (omega arith))).1 (rw (mul_comm (get_or Ts i 0 / w) w, slots-times Ts ha i h) (standing i m).below) in
      omega (arith, mod-add-div s w, mul-le-mul_left w slot, slots-times Ts ha i h)

  -- every row is too full for the probe that is stuck
  module _ (i : ℕ) (s : Stuck Ts qs [] (order Ts ps) fit-holds.ended o i) where
    probe : i < length Ts
    probe = Rattle.stack.specs.Fitting.coming-probe Ts [] (order Ts ps) (order-coming Ts ps ha) i s.one

    many : bins o.fills (height Ts (get_or Ts i 0)) ≡ get_or Ts i 0 / shortest Ts
    unfolding bins
    many =
        ap (λ (x : ℕ). x / height Ts (get_or Ts i 0)) (fit-holds.placing.long ∙ rows-slots Ts ha i probe)
        ∙ mul-div_cancel_left (get_or Ts i 0 / shortest Ts) (height-positive Ts ha i probe)

    pub full-rows : (r : ℕ) → r < rows Ts → shortest Ts < get_or o.fills r 0 + get_or qs i 0
    full-rows r hr =
        let tall = height Ts (get_or Ts i 0) in
        let j : ℕ = r / tall in
        let bin : j < bins o.fills tall = rw many ((div-lt_iff_lt-mul (height-positive Ts ha i probe)).1 (rw (mul_comm (get_or Ts i 0 / shortest Ts) tall, ← rows-slots Ts ha i probe) hr)) in
        let same : get_or o.fills r 0 ≡ get_or o.fills (j * tall) 0 =
        fit-holds.placing.level tall s.tall r (j * tall) (rw fit-holds.placing.long hr) (rw fit-holds.placing.long (omega (arith, div-mul-le_self r tall)))
        (sym (mul-div_cancel (r / tall) (height-positive Ts ha i probe))) in
        over (dec_le (get_or o.fills (j * tall) 0 + get_or qs i 0) (shortest Ts)) same (s.no_room j bin)
      where
        over : {x y : ℕ} → Dec (y + get_or qs i 0 ≤ shortest Ts) → x ≡ y → (y + get_or qs i 0 ≤ shortest Ts → ⊥) → shortest Ts < x + get_or qs i 0
        over (yes l) e n = absurd (n l)
        over (no l) e n = omega arith

-- rows that are all too full add up
heavy : (fs : List ℕ) (q w : ℕ) → ((r : ℕ) → r < length fs → w < get_or fs r 0 + q) → length fs * suc w ≤ sum fs + length fs * q
unfolding sum_of
heavy [] q w all = omega arith
heavy (x ∷ fs) q w all = omega (arith, all 0 (omega arith), heavy fs q w (λ r l. all (suc r) (omega arith)))

pub longest-read : (qs : List ℕ) (i : ℕ) → i < length qs → get_or qs i 0 ≤ longest_read qs
unfolding longest_read
longest-read [] i h = absurd (omega arith)
longest-read (q ∷ qs) zero h = le-max_left q (longest_read qs)
longest-read (q ∷ qs) (suc i) h = omega (arith, longest-read qs i (omega arith), le-max_right q (longest_read qs))

no-sum : (f : ℕ → ℕ) → sum_below f 0 ≡ 0
unfolding sum_below
no-sum f = refl

-- the busy ticks, probe by probe
busy-part : (Ts Us rs : List ℕ) → length Us ≡ length rs → busy_of Ts Us rs ≡ sum_below (λ k. get_or rs k 0 * height Ts (get_or Us k 0)) (length Us)
unfolding busy_of
busy-part Ts [] rs e = sym (no-sum (λ k. get_or rs k 0 * height Ts 0))
busy-part Ts (U ∷ Us) [] e = absurd (omega arith)
busy-part Ts (U ∷ Us) (r ∷ rs) e =
    ap (λ (x : ℕ). r * height Ts U + x) (busy-part Ts Us rs (omega arith))
    ∙ sym (sum_below-first (λ k. get_or (r ∷ rs) k 0 * height Ts (get_or (U ∷ Us) k 0)) (length Us))

pub busy-sum : (Ts qs : List ℕ) → length Ts ≡ length qs → busy_ticks Ts qs ≡ sum_below (busy_at Ts qs) (length Ts)
unfolding busy_ticks
busy-sum Ts qs e = busy-part Ts Ts qs e

-- M is H times w
pub longest-rows : (Ts : List ℕ) → Harmonic Ts → (i : ℕ) → i < length Ts → rows Ts * shortest Ts ≡ longest Ts
longest-rows Ts ha i h =
    ap (λ (x : ℕ). x * shortest Ts) (rows-slots Ts ha i h)
    ∙ swap (height Ts (get_or Ts i 0)) (get_or Ts i 0 / shortest Ts) (shortest Ts)
    ∙ ap (λ (x : ℕ). height Ts (get_or Ts i 0) * x) (slots-times Ts ha i h)
    ∙ height-times Ts ha i h
  where
    swap : (a b c : ℕ) → a * b * c ≡ a * (c * b)
    swap a b c = omega arith

pub fit-room : (Ts ps qs ss : List ℕ) → Harmonic Ts → Positive qs (length Ts) → length Ts ≤ length ss → length Ts ≡ length qs → Room Ts qs
    → (fit Ts ps qs ss).answer ≡ done
fit-room Ts ps qs ss ha pos long same room = by (fit-holds Ts ps qs ss ha pos long).way
  where
    stuck-never : (i : ℕ) → Stuck Ts qs [] (order Ts ps) (fit-holds Ts ps qs ss ha pos long).ended (fit Ts ps qs ss) i → ⊥
    stuck-never i s =
        let hi : i < length Ts = Rattle.stack.specs.Fitting.coming-probe Ts [] (order Ts ps) (order-coming Ts ps ha) i s.one in
        let p = (fit-holds Ts ps qs ss ha pos long).placing in
        let full = heavy (fit Ts ps qs ss).fills (get_or qs i 0) (shortest Ts) (λ r l. full-rows Ts ps qs ss ha pos long i s r (rw p.long at l)) in
        let full' : rows Ts * suc (shortest Ts) ≤ sum (fit Ts ps qs ss).fills + rows Ts * get_or qs i 0 = rw p.long at full in
        let weigh : sum (fit Ts ps qs ss).fills + busy_at Ts qs i ≤ busy_ticks Ts qs = weight i s in
        let read : rows Ts * get_or qs i 0 ≤ rows Ts * longest_read qs = mul-le-mul_left (rows Ts) (longest-read qs i (omega arith)) in
        let some : 0 < rows Ts = rw (rows-slots Ts ha i hi) (rowed i hi) in
        omega (arith, longest-rows Ts ha i hi)
      where
        weight : (k : ℕ) → Stuck Ts qs [] (order Ts ps) (fit-holds Ts ps qs ss ha pos long).ended (fit Ts ps qs ss) k → sum (fit Ts ps qs ss).fills + busy_at Ts qs k ≤ busy_ticks Ts qs
        weight k t = rw (busy-sum Ts qs same, ← order-sum Ts ps (busy_at Ts qs)) (unfold sum_of in omega (arith, t.weight))

        rowed : (k : ℕ) → (l : k < length Ts) → 0 < height Ts (get_or Ts k 0) * (get_or Ts k 0 / shortest Ts)
        rowed k l = native.Mathlib.Nat.mul-pos (height-positive Ts ha k l) (slotted (get_or Ts k 0 / shortest Ts) (slots-times Ts ha k l))
          where
            slotted : (x : ℕ) → shortest Ts * x ≡ get_or Ts k 0 → 0 < x
            slotted zero e = absurd (omega (arith, ha.positive k l))
            slotted (suc x) e = omega arith

    by : (((fit Ts ps qs ss).answer ≡ done) × ((k : ℕ) → In k (order Ts ps) → In k (fit-holds Ts ps qs ss ha pos long).ended))
        ⊎ ((i : ℕ) × Stuck Ts qs [] (order Ts ps) (fit-holds Ts ps qs ss ha pos long).ended (fit Ts ps qs ss) i) → (fit Ts ps qs ss).answer ≡ done
    by (inl (e, all)) = e
    by (inr (i, s)) = absurd (stuck-never i s)
