-- FIRST FIT ON THE STACK. Every probe is put into the lowest sub-bin with room, or has none: what then stands in the columns.
--     Coming Ts ds is           the probes is come after those in ds: each is a probe, is new, and its height divides those before
--     Fitted Ts qs ds is ss o   what the outcome o of fitting is after ds holds
--     fitted-holds              first fit gives such an outcome
--     order-coming              the planning order comes after nothing
-- Assumes nothing.
use Rattle.std.specs.Prelude.{◌≡◌, ◌⊎◌, Bool, true, false, ltb, length, set, drop}
use Rattle.std.proofs.Math.Path.{refl}
use Rattle.std.proofs.Common.{sym, ◌∙◌, inr, arith, length-set, drop_of_length-le, get_or-set_same, get_or-set_other, drop-cons, ltb-true, ltb-false}
use Rattle.std.proofs.Math.Logic.{inl}
use mathlib.Core.List.{List, [], ◌∷◌}
use Prim.Native.Nat.{ℕ, zero, suc, ◌+◌, ◌-◌, ◌*◌, ◌/◌, ◌≤◌, ◌<◌, ◌∣◌}
use Rattle.std.proofs.Math.Nat.{dvd-mul_right}
use Rattle.std.proofs.Math.Decide.{ℕ_discrete}
use Rattle.std.proofs.Math.ListN.{get_or}
use Rattle.lists.specs.Pick.{pick, In}
use Rattle.lists.specs.Telling.{tells-le}
use Rattle.lists.specs.Lowest.{Lowest, lowest-meets}
use Rattle.lists.specs.Sums.{sum_of}
use Rattle.lists.specs.Harmonic.{Harmonic, Positive}
use Rattle.words.specs.Answers.{refused, done, mark}
use Rattle.probes.specs.Table.{shortest, height}
use Rattle.order.specs.Order.{Before, order}
use Rattle.order.proofs.Listed.{order-length, order-probe, order-sorted, order-apart}
use Rattle.stack.specs.Stack.{raised, Fits, fits, bins, lowest_bin}
use Rattle.stack.specs.FirstFit.{Outcome, outcome, marked, bin_of, start_in, fitted}
use Rattle.stack.specs.Rectangles.{heights-times}
use Rattle.stack.specs.Rows.{sum}
use Rattle.stack.specs.Placing.{busy_at, Placing, placing-step}

-- the lowest sub-bin with room, by its meaning
pub lowest-bin : (fs : List ℕ) (h q w : ℕ) → Lowest (Fits fs h q w) (bins fs h) (lowest_bin fs h q w)
unfolding lowest_bin
lowest-bin fs h q w = lowest-meets (fits fs h q w) (Fits fs h q w) (bins fs h) (λ j l. told j)
  where
    told : (j : ℕ) → Rattle.lists.specs.Pick.Tells (fits fs h q w j) (Fits fs h q w j)
    told j = unfold fits in tells-le (get_or fs (j * h) 0 + q) w

-- the marks stand at the probes named, and nothing else changes
pub length_marked : (is ss : List ℕ) → length (marked is ss) ≡ length ss
unfolding marked
length_marked [] ss = refl
length_marked (i ∷ is) ss = length_marked is (set ss i mark) ∙ length-set ss i mark

pub marked_other : (is ss : List ℕ) (k : ℕ) → (In k is → ⊥) → get_or (marked is ss) k 0 ≡ get_or ss k 0
unfolding marked In
marked_other [] ss k n = refl
marked_other (i ∷ is) ss k n = marked_other is (set ss i mark) k (λ m. n (inr m)) ∙ get_or-set_other ss i k mark 0 (λ e. n (inl e))

marked-kept : (is ss : List ℕ) (k : ℕ) → get_or ss k 0 ≡ mark → k < length ss → get_or (marked is ss) k 0 ≡ mark
unfolding marked
marked-kept [] ss k e h = e
marked-kept (i ∷ is) ss k e h = marked-kept is (set ss i mark) k (by (ℕ_discrete k i)) (rw (length-set ss i mark) h)
  where
    by : Dec (k ≡ i) → get_or (set ss i mark) k 0 ≡ mark
    by (yes same) = rw same (get_or-set_same ss i mark 0 (rw same at h))
    by (no other) = get_or-set_other ss i k mark 0 other ∙ e

pub marked-at : (is ss : List ℕ) (k : ℕ) → In k is → k < length ss → get_or (marked is ss) k 0 ≡ mark
unfolding marked In
marked-at [] ss k m h = absurd m
marked-at (i ∷ is) ss k (inl e) h = rw e (marked-kept is (set ss i mark) i (get_or-set_same ss i mark 0 (rw e at h)) (rw (length-set ss i mark) (rw e at h)))
marked-at (i ∷ is) ss k (inr m) h = marked-at is (set ss i mark) k m (rw (length-set ss i mark) h)

module _ (Ts : List ℕ) where
  unfoldable pub Coming : List ℕ → List ℕ → Type 0
  Coming ds [] = Unit {0}
  Coming ds (i ∷ is) =
      (i < length Ts) × (In i ds → ⊥) × ((k : ℕ) → In k ds → height Ts (get_or Ts i 0) ∣ height Ts (get_or Ts k 0)) × Coming (i ∷ ds) is

  pub coming-new : (ds is : List ℕ) → Coming ds is → (k : ℕ) → In k is → In k ds → ⊥
  unfolding Coming In
  coming-new ds [] c k m o = m
  coming-new ds (i ∷ is) (p, new, tall, c) k (inl e) o = new (rw e at o)
  coming-new ds (i ∷ is) (p, new, tall, c) k (inr m) o = coming-new (i ∷ ds) is c k m (inr o)

  pub coming-probe : (ds is : List ℕ) → Coming ds is → (k : ℕ) → In k is → k < length Ts
  unfolding Coming In
  coming-probe ds [] c k m = absurd m
  coming-probe ds (i ∷ is) (p, new, tall, c) k (inl e) = rw e p
  coming-probe ds (i ∷ is) (p, new, tall, c) k (inr m) = coming-probe (i ∷ ds) is c k m

-- the starts of the placed ones are all that matters of the column
placing-same : (Ts qs ds ss zs fs : List ℕ) → ((k : ℕ) → In k ds → get_or zs k 0 ≡ get_or ss k 0) → Placing Ts qs ds ss fs → Placing Ts qs ds zs fs
placing-same Ts qs ds ss zs fs same g = record {
  long = g.long;
  low = g.low;
  level = g.level;
  stands = λ i m. let s = g.stands i m in record { probe = s.probe; below = rw (same i m) s.below; under = rw (same i m) s.under };
  apart = λ i j m o ne c r a b. g.apart i j m o ne c r (rw (same i m) at a) (rw (same j o) at b);
  count = g.count;
}

-- a probe for which no sub-bin had room
pub record Stuck (Ts qs ds is ended : List ℕ) (o : Outcome) (i : ℕ) : Type 0 where
  pub named : o.answer ≡ refused 8 i
  pub one : In i is
  pub unplaced : In i ended → ⊥
  pub no_room : (j : ℕ) → j < bins o.fills (height Ts (get_or Ts i 0)) → Fits o.fills (height Ts (get_or Ts i 0)) (get_or qs i 0) (shortest Ts) j → ⊥
  pub tall : (k : ℕ) → In k ended → height Ts (get_or Ts i 0) ∣ height Ts (get_or Ts k 0)
  pub weight : sum o.fills + busy_at Ts qs i ≤ sum_of (busy_at Ts qs) ds + sum_of (busy_at Ts qs) is

pub record Fitted (Ts qs ds is ss : List ℕ) (o : Outcome) : Type 0 where
  pub ended : List ℕ
  pub placing : Placing Ts qs ended o.starts o.fills
  pub kept : (k : ℕ) → In k ds → In k ended
  pub only : (k : ℕ) → In k ended → In k ds ⊎ In k is
  pub rest : (k : ℕ) → In k is → In k ended ⊎ (get_or o.starts k 0 ≡ mark)
  pub other : (k : ℕ) → (In k is → ⊥) → get_or o.starts k 0 ≡ get_or ss k 0
  pub long : length o.starts ≡ length ss
  pub way : ((o.answer ≡ done) × ((k : ℕ) → In k is → In k ended)) ⊎ ((i : ℕ) × Stuck Ts qs ds is ended o i)

module _ (Ts qs : List ℕ) (ha : Harmonic Ts) (pos : Positive qs (length Ts)) where
  pub fitted-holds : (is ds ss fs : List ℕ) → Coming Ts ds is → length Ts ≤ length ss → Placing Ts qs ds ss fs → Fitted Ts qs ds is ss (fitted Ts qs is ss fs)
  unfolding fitted In Coming
  fitted-holds [] ds ss fs c room g = record {
    ended = ds;
    placing = g;
    kept = λ k m. m;
    only = λ k m. inl m;
    rest = λ k m. absurd m;
    other = λ k n. refl;
    long = refl;
    way = inl (refl, λ k m. absurd m);
  }
  fitted-holds (i ∷ is) ds ss fs (probe, new, tall, c) room g =
      by (ltb (bin_of Ts qs i fs) (bins fs (height Ts (get_or Ts i 0)))) refl (fitted-holds is (i ∷ ds) (set ss i (start_in Ts qs i fs (bin_of Ts qs i fs))) (raised fs (bin_of Ts qs i fs * height Ts (get_or Ts i 0)) (height Ts (get_or Ts i 0)) (get_or qs i 0)) c (rw (length-set ss i (start_in Ts qs i fs (bin_of Ts qs i fs))) room))
    where
      h : ℕ
      h = height Ts (get_or Ts i 0)

      next : Outcome
      next = fitted Ts qs is (set ss i (start_in Ts qs i fs (bin_of Ts qs i fs))) (raised fs (bin_of Ts qs i fs * height Ts (get_or Ts i 0)) (height Ts (get_or Ts i 0)) (get_or qs i 0))

      stop : Outcome
      stop = outcome (refused 8 i) (marked (i ∷ is) ss) fs

      found : Lowest (Fits fs (height Ts (get_or Ts i 0)) (get_or qs i 0) (shortest Ts)) (bins fs (height Ts (get_or Ts i 0))) (bin_of Ts qs i fs)
      found = unfold bin_of in lowest-bin fs (height Ts (get_or Ts i 0)) (get_or qs i 0) (shortest Ts)

      on : Fitted Ts qs (i ∷ ds) is (set ss i (start_in Ts qs i fs (bin_of Ts qs i fs))) next → Fitted Ts qs ds (i ∷ is) ss next
      on f = record {
        ended = f.ended;
        placing = f.placing;
        kept = λ k m. f.kept k (inr m);
        only = λ k m. only_of k (f.only k m);
        rest = rest_of;
        other = λ k n. f.other k (λ m. n (inr m)) ∙ get_or-set_other ss i k (start_in Ts qs i fs (bin_of Ts qs i fs)) 0 (λ e. n (inl e));
        long = f.long ∙ length-set ss i (start_in Ts qs i fs (bin_of Ts qs i fs));
        way = way_of f.way;
      }
        where
          only_of : (k : ℕ) → In k (i ∷ ds) ⊎ In k is → In k ds ⊎ In k (i ∷ is)
          only_of k (inl (inl e)) = inr (inl e)
          only_of k (inl (inr m)) = inl m
          only_of k (inr m) = inr (inr m)

          rest_of : (k : ℕ) → In k (i ∷ is) → In k f.ended ⊎ (get_or next.starts k 0 ≡ mark)
          rest_of k (inl e) = inl (f.kept k (inl e))
          rest_of k (inr m) = f.rest k m

          all_of : ((k : ℕ) → In k is → In k f.ended) → (k : ℕ) → In k (i ∷ is) → In k f.ended
          all_of a k (inl e) = f.kept k (inl e)
          all_of a k (inr m) = a k m

          weigh : (a b c d : ℕ) → a + b ≤ (d + c) → a + b ≤ c + d
          weigh a b c d l = omega arith

          way_of : ((next.answer ≡ done) × ((k : ℕ) → In k is → In k f.ended)) ⊎ ((s : ℕ) × Stuck Ts qs (i ∷ ds) is f.ended next s)
              → ((next.answer ≡ done) × ((k : ℕ) → In k (i ∷ is) → In k f.ended)) ⊎ ((s : ℕ) × Stuck Ts qs ds (i ∷ is) f.ended next s)
          way_of (inl (e, a)) = inl (e, all_of a)
          way_of (inr (s, t)) = inr (s, record { named = t.named; one = inr t.one; unplaced = t.unplaced; no_room = t.no_room; tall = t.tall; weight = unfold sum_of in omega (arith, t.weight) })

      halt : bins fs (height Ts (get_or Ts i 0)) ≤ bin_of Ts qs i fs → Fitted Ts qs ds (i ∷ is) ss stop
      halt full = record {
        ended = ds;
        placing = placing-same Ts qs ds ss (marked (i ∷ is) ss) fs (λ k m. marked_other (i ∷ is) ss k (λ o. clash k o m)) g;
        kept = λ k m. m;
        only = λ k m. inl m;
        rest = λ k m. inr (marked-at (i ∷ is) ss k m (omega (arith, coming-probe Ts ds (i ∷ is) (probe, new, tall, c) k m)));
        other = λ k n. marked_other (i ∷ is) ss k n;
        long = length_marked (i ∷ is) ss;
        way = inr (
          i,
          record {
            named = refl;
            one = inl refl;
            unplaced = new;
            no_room = λ j l. found.passed j (omega arith);
            tall = tall;
            weight = unfold sum_of in omega (arith, g.count);
          },
        );
      }
        where
          clash : (k : ℕ) → In k (i ∷ is) → In k ds → ⊥
          clash k o m = coming-new Ts ds (i ∷ is) (probe, new, tall, c) k o m

      by : (b : Bool) → ltb (bin_of Ts qs i fs) (bins fs (height Ts (get_or Ts i 0))) ≡ b
          → (Placing Ts qs (i ∷ ds) (set ss i (start_in Ts qs i fs (bin_of Ts qs i fs))) (raised fs (bin_of Ts qs i fs * height Ts (get_or Ts i 0)) (height Ts (get_or Ts i 0)) (get_or qs i 0))
          → Fitted Ts qs (i ∷ ds) is (set ss i (start_in Ts qs i fs (bin_of Ts qs i fs))) next)
          → Fitted Ts qs ds (i ∷ is) ss (pick b next stop)
      by true e ih =
          let l = ltb-true (bin_of Ts qs i fs) (bins fs (height Ts (get_or Ts i 0))) e in
          on (ih (placing-step Ts qs ds ss fs ha pos g i (bin_of Ts qs i fs) probe (omega arith) new tall l (found.found l)))
      by false e ih = halt (ltb-false (bin_of Ts qs i fs) (bins fs (height Ts (get_or Ts i 0))) e)

module _ (Ts ps : List ℕ) (ha : Harmonic Ts) where
  -- from place k of the order on
  coming-from : (m k : ℕ) → k + m ≡ length Ts → (ds : List ℕ) → ((x : ℕ) → In x ds → (l : ℕ) × (l < k) × (get_or (order Ts ps) l 0 ≡ x)) → Coming Ts ds (drop k (order Ts ps))
  unfolding Coming In
  coming-from zero k e ds from = rw (drop_of_length-le (order Ts ps) {i = k} (rw (order-length Ts ps) (omega arith))) tt
  coming-from (suc m) k e ds from =
      rw (drop-cons (order Ts ps) k 0 (rw (order-length Ts ps) (omega arith)))
      (order-probe Ts ps k (omega arith), new, tall, coming-from m (suc k) (omega arith) (get_or (order Ts ps) k 0 ∷ ds) from_next)
    where
      new : In (get_or (order Ts ps) k 0) ds → ⊥
      new o = at (from (get_or (order Ts ps) k 0) o)
        where
          at : (l : ℕ) × (l < k) × (get_or (order Ts ps) l 0 ≡ get_or (order Ts ps) k 0) → ⊥
          at (l, h, f) = order-apart Ts ps l k (omega arith) (omega arith) (λ z. absurd (omega arith)) f

      shorter : (a b : ℕ) → Before Ts ps a b → get_or Ts a 0 ≤ get_or Ts b 0
      shorter a b (inl h) = omega arith
      shorter a b (inr (h, r)) = omega arith

      tall : (x : ℕ) → In x ds → height Ts (get_or Ts (get_or (order Ts ps) k 0) 0) ∣ height Ts (get_or Ts x 0)
      tall x o = at (from x o)
        where
          at : (l : ℕ) × (l < k) × (get_or (order Ts ps) l 0 ≡ x) → height Ts (get_or Ts (get_or (order Ts ps) k 0) 0) ∣ height Ts (get_or Ts x 0)
          at (l, h, f) =
              let a = get_or (order Ts ps) l 0 in
              let b = get_or (order Ts ps) k 0 in
              rw (← f)
              (rw (heights-times Ts ha a b (order-probe Ts ps l (omega arith)) (order-probe Ts ps k (omega arith)) (shorter a b (order-sorted Ts ps l k h (omega arith))))
              (dvd-mul_right (height Ts (get_or Ts b 0)) (get_or Ts b 0 / shortest Ts / (get_or Ts a 0 / shortest Ts))))

      from_next : (x : ℕ) → (x ≡ get_or (order Ts ps) k 0) ⊎ In x ds → (l : ℕ) × (l < suc k) × (get_or (order Ts ps) l 0 ≡ x)
      from_next x (inl f) = (k, omega arith, sym f)
      from_next x (inr o) = at (from x o)
        where
          at : (l : ℕ) × (l < k) × (get_or (order Ts ps) l 0 ≡ x) → (l : ℕ) × (l < suc k) × (get_or (order Ts ps) l 0 ≡ x)
          at (l, h, f) = (l, omega arith, f)

  pub order-coming : Coming Ts [] (order Ts ps)
  unfolding In
  order-coming = coming-from (length Ts) 0 (omega arith) [] (λ x o. absurd o)
