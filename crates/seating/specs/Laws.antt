-- LAWS FOR PLACING ALL PROBES.
--     Seating ..            what the loop over the planning order knows: what first fit says of the rest is what it says of all
--     stuck-end, done_end   its ways out
--     Marking ..            what the loop that writes the marks knows
-- Assumes nothing.
use Rattle.std.specs.Prelude.{◌≡◌, refl, Bool, true, false, List, ◌∷◌, ℕ, suc, ◌+◌, ◌*◌, ◌≤◌, ◌<◌, length, get_or, set, take, drop}
use Rattle.std.proofs.Common.{sym, ap, ◌∙◌, add-one, arith, length-set, drop_of_length-le, drop-cons, get_or-take}
use native.Mathlib.Nat.{mul-le-mul_right, add-mul, one-mul, suc-mul}
use Rattle.std.proofs.Math.Decide.{dec_lt}
use borrow.Author.Tests.{lt-ltb, le-ltb, ltb-true, ltb-false}
use Rattle.words.specs.declared.Answer.{Answer}
use Rattle.words.specs.Answers.{refused, done, mark}
use Rattle.probes.specs.Table.{most_period, rows, height}
use Rattle.order.specs.Order.{order}
use Rattle.order.proofs.Listed.{order-length}
use Rattle.stack.specs.Stack.{raised, bins}
use Rattle.stack.specs.FirstFit.{outcome, marked, bin_of, start_in, fitted}
use Rattle.stack.specs.Fitting.{length_marked}
use Rattle.stack.specs.Rows.{length-raised, raised_below, raised-in, raised-above}
use Rattle.placing.specs.Placing.{Tried}

-- a raised row is at most p higher
raised-most : (fs : List ℕ) (y h q : ℕ) → y + h ≤ length fs → (r : ℕ) → get_or (raised fs y h q) r 0 ≤ get_or fs r 0 + q
raised-most fs y h q fits r = by (dec_lt r y) (dec_lt r (y + h))
  where
    by : Dec (r < y) → Dec (r < y + h) → get_or (raised fs y h q) r 0 ≤ get_or fs r 0 + q
    by (yes l) d = rw (raised_below fs y h q fits r l) (omega arith)
    by (no l) (yes u) = rw (raised-in fs y h q fits r (omega arith) u) (omega arith)
    by (no l) (no u) = rw (raised-above fs y h q fits r (omega arith)) (omega arith)

bins-within : (fs : List ℕ) (h : ℕ) → bins fs h * h ≤ length fs
unfolding bins
bins-within fs h = native.Mathlib.Nat.div-mul-le_self (length fs) h

pub record Seating (Ts ps ss₀ fs₀ ss fs : List ℕ) (k : ℕ) : Type 0 where
  pub within : k ≤ length Ts
  pub s-long : length ss ≡ length ss₀
  pub f-long : length fs ≡ rows Ts
  pub light : (r : ℕ) → r < length fs → get_or fs r 0 ≤ k * most_period
  pub rest : fitted Ts ps (drop k (order Ts ps)) ss fs ≡ fitted Ts ps (order Ts ps) ss₀ fs₀

pub seating-start : (Ts ps ss fs : List ℕ) → length fs ≡ rows Ts → ((r : ℕ) → r < length fs → get_or fs r 0 ≡ 0) → Seating Ts ps ss fs ss fs 0
seating-start Ts ps ss fs e z = record { within = omega arith; s-long = refl; f-long = e; light = λ r h. omega (arith, z r h); rest = refl }

module _ (Ts ps ss₀ fs₀ ss fs : List ℕ) (k : ℕ) (g : Seating Ts ps ss₀ fs₀ ss fs k) (l : k < length Ts) (i : ℕ) (e : i ≡ get_or (order Ts ps) k 0)
    (r : Bool) (zs gs : List ℕ) (t : Tried Ts ps ss fs i r zs gs) where
  here : drop k (order Ts ps) ≡ i ∷ drop (suc k) (order Ts ps)
  here = drop-cons (order Ts ps) k 0 (rw (order-length Ts ps) l) ∙ ap (λ (x : ℕ). x ∷ drop (suc k) (order Ts ps)) (sym e)

  room-if : r ≡ true → bin_of Ts ps i fs < bins fs (height Ts (get_or Ts i 0))
  room-if z = ltb-true (bin_of Ts ps i fs) (bins fs (height Ts (get_or Ts i 0))) (sym t.verdict ∙ z)

  -- the sub-bin's rows are rows
  in_rows : r ≡ true → bin_of Ts ps i fs * height Ts (get_or Ts i 0) + height Ts (get_or Ts i 0) ≤ length fs
  in_rows z =
      let less : suc (bin_of Ts ps i fs) ≤ bins fs (height Ts (get_or Ts i 0)) = room-if z in
      omega (arith, suc-mul (bin_of Ts ps i fs) (height Ts (get_or Ts i 0)), mul-le-mul_right (height Ts (get_or Ts i 0)) less, bins-within fs (height Ts (get_or Ts i 0)))

  on : r ≡ true → fitted Ts ps (drop k (order Ts ps)) ss fs ≡ fitted Ts ps (drop (suc k) (order Ts ps)) zs gs
  unfolding fitted
  on z = rw (here, (t.placed z).0, (t.placed z).1, lt-ltb (bin_of Ts ps i fs) (bins fs (height Ts (get_or Ts i 0))) (room-if z))

  pub seating-next : r ≡ true → get_or ps i 0 ≤ most_period → Seating Ts ps ss₀ fs₀ zs gs (k + 1)
  seating-next z short = record {
    within = omega arith;
    s-long = ap length (t.placed z).0 ∙ length-set ss i (start_in Ts ps i fs (bin_of Ts ps i fs)) ∙ g.s-long;
    f-long = grown ∙ g.f-long;
    light = λ y h.
        let old = g.light y (omega (arith, grown)) in
        let new : get_or gs y 0 ≤ get_or fs y 0 + get_or ps i 0 = rw (t.placed z).1 (raised-most fs (bin_of Ts ps i fs * height Ts (get_or Ts i 0)) (height Ts (get_or Ts i 0)) (get_or ps i 0) (in_rows z) y) in
        omega (arith, add-mul k 1 most_period, one-mul most_period);
    rest = rw (add-one k) (sym (on z) ∙ g.rest);
  }
    where
      grown : length gs ≡ length fs
      grown = ap length (t.placed z).1 ∙ length-raised fs (bin_of Ts ps i fs * height Ts (get_or Ts i 0)) (height Ts (get_or Ts i 0)) (get_or ps i 0) (in_rows z)

  pub seating-stuck : r ≡ false → outcome (refused 8 i) (marked (drop k (order Ts ps)) ss) fs ≡ fitted Ts ps (order Ts ps) ss₀ fs₀
  unfolding fitted
  seating-stuck z = stop ∙ g.rest
    where
      full : bins fs (height Ts (get_or Ts i 0)) ≤ bin_of Ts ps i fs
      full = ltb-false (bin_of Ts ps i fs) (bins fs (height Ts (get_or Ts i 0))) (sym t.verdict ∙ z)

      stop : outcome (refused 8 i) (marked (drop k (order Ts ps)) ss) fs ≡ fitted Ts ps (drop k (order Ts ps)) ss fs
      stop = rw (here, le-ltb (bin_of Ts ps i fs) (bins fs (height Ts (get_or Ts i 0))) full)

pub seating-done : (Ts ps ss₀ fs₀ ss fs : List ℕ) (k : ℕ) → length Ts ≤ k → Seating Ts ps ss₀ fs₀ ss fs k → outcome done ss fs ≡ fitted Ts ps (order Ts ps) ss₀ fs₀
unfolding fitted
seating-done Ts ps ss₀ fs₀ ss fs k h g = rw (drop_of_length-le (order Ts ps) {i = k} (rw (order-length Ts ps) h)) at g.rest

-- the loop's two ways out
pub stuck-end : (Ts ps arr ss₀ fs₀ ss fs : List ℕ) (k : ℕ) → take (length Ts) arr ≡ order Ts ps → (g : Seating Ts ps ss₀ fs₀ ss fs k) → k < length Ts → (i : ℕ) → i ≡ get_or (order Ts ps) k 0
    → (r : Bool) (zs gs : List ℕ) → Tried Ts ps ss fs i r zs gs → r ≡ false → (a : Answer) (us : List ℕ) → a ≡ refused 8 i → us ≡ marked (drop k (take (length Ts) arr)) zs
    → outcome a us gs ≡ fitted Ts ps (order Ts ps) ss₀ fs₀
stuck-end Ts ps arr ss₀ fs₀ ss fs k o g l i e r zs gs t z a us ea eu =
    rw (ea, eu, o, (t.stayed z).0, (t.stayed z).1) (seating-stuck Ts ps ss₀ fs₀ ss fs k g l i e r zs gs t z)

pub done_end : (Ts ps ss₀ fs₀ ss fs : List ℕ) (k : ℕ) → length Ts ≤ k → Seating Ts ps ss₀ fs₀ ss fs k → (a : Answer) → a ≡ done → outcome a ss fs ≡ fitted Ts ps (order Ts ps) ss₀ fs₀
done_end Ts ps ss₀ fs₀ ss fs k h g a ea = rw ea (seating-done Ts ps ss₀ fs₀ ss fs k h g)

-- the columns keep their lengths
pub marked-long : (ks zs us ss ss₀ : List ℕ) → us ≡ marked ks zs → zs ≡ ss → length ss ≡ length ss₀ → length us ≡ length ss₀
marked-long ks zs us ss ss₀ e f g = ap length e ∙ length_marked ks zs ∙ ap length f ∙ g

pub rows_long : (gs fs fs₀ : List ℕ) (h : ℕ) → gs ≡ fs → length fs ≡ h → length fs₀ ≡ h → length gs ≡ length fs₀
rows_long gs fs fs₀ h e f g = ap length e ∙ f ∙ sym g

-- the order in the first n places of an array
pub order-entry : (Ts ps arr : List ℕ) (k : ℕ) → take (length Ts) arr ≡ order Ts ps → k < length Ts → get_or arr k 0 ≡ get_or (order Ts ps) k 0
order-entry Ts ps arr k e h = sym (get_or-take (length Ts) arr k 0 h) ∙ ap (λ (l : List ℕ). get_or l k 0) e

pub record Marking (ks : List ℕ) (k : ℕ) (ss₀ ss : List ℕ) (l : ℕ) : Type 0 where
  pub long : length ss ≡ length ss₀
  pub rest : marked (drop l ks) ss ≡ marked (drop k ks) ss₀

pub marking-next : (ks : List ℕ) (k : ℕ) (ss₀ ss : List ℕ) (l i : ℕ) → l < length ks → i ≡ get_or ks l 0 → Marking ks k ss₀ ss l → Marking ks k ss₀ (set ss i mark) (l + 1)
unfolding marked
marking-next ks k ss₀ ss l i h e g = record {
  long = length-set ss i mark ∙ g.long;
  rest = rw (add-one l, e) (rw (drop-cons ks l 0 h) at g.rest);
}

pub marking-done : (ks : List ℕ) (k : ℕ) (ss₀ ss : List ℕ) (l : ℕ) → length ks ≤ l → Marking ks k ss₀ ss l → ss ≡ marked (drop k ks) ss₀
unfolding marked
marking-done ks k ss₀ ss l h g = rw (drop_of_length-le ks {i = l} h) at g.rest
