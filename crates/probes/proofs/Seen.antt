-- What follows from the definitions of specs/Seen.
--     seen-told, clashes-told     the tests over the kept periods
--     Keeping Ts seen n i  the kept ones are the different periods of the first i probes, and of two one divides the other
-- Assumes nothing.
use Rattle.std.specs.Prelude.{◌≡◌, refl, ◌≢◌, Bool, true, false, not, ◌&&◌, List, [], ◌∷◌, ◌++◌, ℕ, ◌+◌, ◌*◌, ◌^◌, ◌%◌, ◌≤◌, ◌<◌, eqb, length, get_or, set}
use Rattle.std.proofs.Common.{sym, ◌∙◌, inl, inr, add-one, arith, get_or-set_same, get_or-set_other, eq-eqb, ne_eqb}
use Rattle.std.proofs.Math.Nat.{dvd_refl}
use Rattle.std.proofs.Math.ListN.{get_or-append}
use Rattle.std.proofs.Math.Seq.{get_or-append_seam}
use Rattle.std.proofs.Math.Decide.{dec_lt}
use Rattle.lists.specs.Pick.{pick, either, Tells}
use Rattle.lists.specs.Telling.{tells-true, tells-false, tells_as, tells-not, tells-either, tells-any, tells-eq, tells-divides}
use Rattle.lists.proofs.Searches.{tells-list-any}
use Rattle.std.specs.List.{list_any}
use Rattle.lists.specs.Doubling.{Mutual, few}
use Rattle.words.specs.Ticks.{most_period}
use Rattle.probes.specs.Chained.{Unchained, divides, chained, unchained}
use Rattle.probes.specs.Seen.{most_chained, Chained, Seen, Clashes}

pub chained-tells : (a b : ℕ) → Tells (chained a b) (Chained a b)
unfolding chained divides
chained-tells a b = tells-either (eqb (b % a) 0) (eqb (a % b) 0) (tells-divides a b) (tells-divides b a)

pub unchained-tells : (Ts ps : List ℕ) (i : ℕ) → Tells (unchained Ts i) (Unchained Ts ps i)
unfolding unchained
unchained-tells Ts ps i =
    tells_as (unchained Ts i)
    (tells-any (λ j. not (chained (get_or Ts i 0) (get_or Ts j 0))) (λ j. Chained (get_or Ts i 0) (get_or Ts j 0) → ⊥) i (λ j h. tells-not (chained (get_or Ts i 0) (get_or Ts j 0)) (chained-tells (get_or Ts i 0) (get_or Ts j 0))))
    apart joined
  where
    apart : (j : ℕ) × (j < i) × (Chained (get_or Ts i 0) (get_or Ts j 0) → ⊥) → Unchained Ts ps i
    apart (j, h, n) = (j, h, λ d. n (inl d), λ d. n (inr d))

    joined : Unchained Ts ps i → (j : ℕ) × (j < i) × (Chained (get_or Ts i 0) (get_or Ts j 0) → ⊥)
    joined (j, h, a, b) = (j, h, neither)
      where
        neither : Chained (get_or Ts i 0) (get_or Ts j 0) → ⊥
        neither (inl d) = a d
        neither (inr d) = b d

pub record Keeping (Ts seen : List ℕ) (n i : ℕ) : Type 0 where
  pub kept : (j : ℕ) → j < i → Seen seen n (get_or Ts j 0)
  pub from : (k : ℕ) → k < n → (j : ℕ) × (j < i) × (get_or Ts j 0 ≡ get_or seen k 0)
  pub mutual-of : Mutual (λ k. get_or seen k 0) n

pub keeping_start : (Ts seen : List ℕ) → Keeping Ts seen 0 0
keeping_start Ts seen = record { kept = λ j h. absurd (omega arith); from = λ k h. absurd (omega arith); mutual-of = λ k l h g. absurd (omega arith) }

chained-swap : (a b : ℕ) → Chained a b → Chained b a
chained-swap a b (inl d) = inr d
chained-swap a b (inr d) = inl d

module _ (Ts seen : List ℕ) (n i : ℕ) (g : Keeping Ts seen n i) where
  -- any two of the kept ones, in any order, the same one included
  kept-chained : (k l : ℕ) → k < n → l < n → Chained (get_or seen k 0) (get_or seen l 0)
  kept-chained k l hk hl = by (dec_lt k l) (dec_lt l k)
    where
      by : Dec (k < l) → Dec (l < k) → Chained (get_or seen k 0) (get_or seen l 0)
      by (yes h) d = (g.mutual-of k l h hl).1
      by (no h) (yes o) = chained-swap (get_or seen l 0) (get_or seen k 0) (g.mutual-of l k o hk).1
      by (no h) (no o) =
          let same : k ≡ l = omega arith in
          rw same (inl (dvd_refl (get_or seen l 0)))

  -- where the periods are in range, so are the kept ones
  pub keeping-positive : ((j : ℕ) → j < i → 0 < get_or Ts j 0) → (k : ℕ) → k < n → 0 < get_or seen k 0
  keeping-positive range k h = by (g.from k h)
    where
      by : (j : ℕ) × (j < i) × (get_or Ts j 0 ≡ get_or seen k 0) → 0 < get_or seen k 0
      by (j, l, e) = rw (← e) (range j l)

  -- a period that was seen: nothing earlier is out of the chain with it
  seen-fine : Seen seen n (get_or Ts i 0) → Unchained Ts Ts i → ⊥
  seen-fine (k, hk, e) (j, h, a, b) = by (g.kept j h)
    where
      by : Seen seen n (get_or Ts j 0) → ⊥
      by (l, hl, f) = at (rw (e, f) at (kept-chained k l hk hl))
        where
          at : Chained (get_or Ts i 0) (get_or Ts j 0) → ⊥
          at (inl d) = a d
          at (inr d) = b d

  pub keeping-seen : Seen seen n (get_or Ts i 0) → unchained Ts i ≡ false
  keeping-seen s = tells-false (unchained Ts i) (unchained-tells Ts Ts i) (seen-fine s)

  pub seen_more : Seen seen n (get_or Ts i 0) → Keeping Ts seen n (i + 1)
  seen_more s = record {
    kept = λ j h. by j h (dec_lt j i);
    from = λ k h. ((g.from k h).0, omega (arith, (g.from k h).1), (g.from k h).2);
    mutual-of = g.mutual-of;
  }
    where
      by : (j : ℕ) → j < i + 1 → Dec (j < i) → Seen seen n (get_or Ts j 0)
      by j h (yes l) = g.kept j l
      by j h (no l) =
          let same : j ≡ i = omega arith in
          rw same s

  -- a period that clashes with a kept one is out of the chain with an earlier probe
  pub keeping-clash : Clashes seen n (get_or Ts i 0) → unchained Ts i ≡ true
  keeping-clash (k, h, c) = tells-true (unchained Ts i) (unchained-tells Ts Ts i) (by (g.from k h))
    where
      by : (j : ℕ) × (j < i) × (get_or Ts j 0 ≡ get_or seen k 0) → Unchained Ts Ts i
      by (j, l, e) = (j, l, λ d. c (inr (rw e at d)), λ d. c (inl (rw e at d)))

  module _ (fresh : Seen seen n (get_or Ts i 0) → ⊥) (fits : Clashes seen n (get_or Ts i 0) → ⊥) where
    kept-with : (k : ℕ) → k < n → Chained (get_or seen k 0) (get_or Ts i 0)
    kept-with k h = by (chained (get_or seen k 0) (get_or Ts i 0)) (chained-tells (get_or seen k 0) (get_or Ts i 0))
      where
        by : (b : Bool) → Tells b (Chained (get_or seen k 0) (get_or Ts i 0)) → Chained (get_or seen k 0) (get_or Ts i 0)
        by true t = t.yes refl
        by false t = absurd (fits (k, h, t.no refl))

    -- a new period that clashes with none
    pub keeping-new : unchained Ts i ≡ false
    keeping-new = tells-false (unchained Ts i) (unchained-tells Ts Ts i) none
      where
        none : Unchained Ts Ts i → ⊥
        none (j, h, a, b) = by (g.kept j h)
          where
            by : Seen seen n (get_or Ts j 0) → ⊥
            by (l, hl, f) = at (rw f at (kept-with l hl))
              where
                at : Chained (get_or Ts j 0) (get_or Ts i 0) → ⊥
                at (inl d) = b d
                at (inr d) = a d

    -- the numbers kept so far, and the new one at place n
    abbrev grown : ℕ → ℕ
    grown k = pick (eqb k n) (get_or Ts i 0) (get_or seen k 0)

    grown-old : (k : ℕ) → k < n → grown k ≡ get_or seen k 0
    grown-old k h = rw (ne_eqb k n (λ e. absurd (omega arith)))

    grown-new : grown n ≡ get_or Ts i 0
    grown-new = rw (eq-eqb n n refl)

    grown-mutual : Mutual grown (n + 1)
    grown-mutual k l h m = by (dec_lt l n)
      where
        by : Dec (l < n) → (grown k ≢ grown l) × Chained (grown k) (grown l)
        by (yes o) = rw (grown-old k (omega arith), grown-old l o) (g.mutual-of k l h o)
        by (no o) =
            let same : l ≡ n = omega arith in
            rw (same, grown-new, grown-old k (omega arith)) ((λ e. fresh (k, omega arith, e)), kept-with k (omega arith))

    -- there is room for one more
    pub new-room : ((j : ℕ) → j < i + 1 → (0 < get_or Ts j 0) × (get_or Ts j 0 ≤ most_period)) → n < most_chained
    new-room range = rw (← add-one n) (few grown 1 most_chained (n + 1) (omega arith) grown-mutual (λ k h. (at k h (dec_lt k n)).0) (λ k h. (at k h (dec_lt k n)).1))
      where
        at : (k : ℕ) → k < n + 1 → Dec (k < n) → (1 ≤ grown k) × (grown k < 1 * 2 ^ most_chained)
        at k h (yes l) = rw (grown-old k l) (by (g.from k l))
          where
            by : (j : ℕ) × (j < i) × (get_or Ts j 0 ≡ get_or seen k 0) → (1 ≤ get_or seen k 0) × (get_or seen k 0 < 1 * 2 ^ most_chained)
            by (j, hj, e) =
                let r = range j (omega arith) in
                (omega arith, omega arith)
        at k h (no l) =
            let same : k ≡ n = omega arith in
            let r = range i (omega arith) in
            rw (same, grown-new) (omega arith, omega arith)

    -- a list that has the kept ones, and behind them the new one
    module _ (xs : List ℕ) (others : (k : ℕ) → k < n → get_or xs k 0 ≡ get_or seen k 0) (last : get_or xs n 0 ≡ get_or Ts i 0) where
      grown_is : (k : ℕ) → k < n + 1 → get_or xs k 0 ≡ grown k
      grown_is k h = by (dec_lt k n)
        where
          by : Dec (k < n) → get_or xs k 0 ≡ grown k
          by (yes l) = others k l ∙ sym (grown-old k l)
          by (no l) =
              let same : k ≡ n = omega arith in
              rw same (last ∙ sym grown-new)

      longer-mutual : Mutual (λ k. get_or xs k 0) (n + 1)
      longer-mutual k l h m = rw (grown_is k (omega arith), grown_is l m) (grown-mutual k l h m)

      longer-more : Keeping Ts xs (n + 1) (i + 1)
      longer-more = record { kept = λ j h. old j h (dec_lt j i); from = λ k h. came k h (dec_lt k n); mutual-of = longer-mutual }
        where
          old : (j : ℕ) → j < i + 1 → Dec (j < i) → Seen xs (n + 1) (get_or Ts j 0)
          old j h (yes l) = at (g.kept j l)
            where
              at : Seen seen n (get_or Ts j 0) → Seen xs (n + 1) (get_or Ts j 0)
              at (k, hk, e) = (k, omega arith, others k hk ∙ e)
          old j h (no l) =
              let same : j ≡ i = omega arith in
              rw same (n, omega arith, last)

          came : (k : ℕ) → k < n + 1 → Dec (k < n) → (j : ℕ) × (j < i + 1) × (get_or Ts j 0 ≡ get_or xs k 0)
          came k h (yes l) = at (g.from k l)
            where
              at : (j : ℕ) × (j < i) × (get_or Ts j 0 ≡ get_or seen k 0) → (j : ℕ) × (j < i + 1) × (get_or Ts j 0 ≡ get_or xs k 0)
              at (j, hj, e) = (j, omega arith, e ∙ sym (others k l))
          came k h (no l) =
              let same : k ≡ n = omega arith in
              rw same (i, omega arith, sym last)

    -- the new one set at place n of a list that is longer
    abbrev with-new : List ℕ
    with-new = set seen n (get_or Ts i 0)

    new-same : n < length seen → get_or with-new n 0 ≡ get_or Ts i 0
    new-same h = get_or-set_same seen n (get_or Ts i 0) 0 h

    new-other : (k : ℕ) → k < n → get_or with-new k 0 ≡ get_or seen k 0
    new-other k h = get_or-set_other seen n k (get_or Ts i 0) 0 (λ e. absurd (omega arith))

    new_is : n < length seen → (k : ℕ) → k < n + 1 → get_or with-new k 0 ≡ grown k
    new_is len = grown_is with-new new-other (new-same len)

    new-mutual : n < length seen → Mutual (λ k. get_or with-new k 0) (n + 1)
    new-mutual len = longer-mutual with-new new-other (new-same len)

    pub new-more : n < length seen → Keeping Ts with-new (n + 1) (i + 1)
    new-more len = longer-more with-new new-other (new-same len)

    -- .. and pushed behind a list of n
    abbrev pushed : List ℕ
    pushed = seen ++ (get_or Ts i 0 ∷ [])

    pub pushed-more : n ≡ length seen → Keeping Ts pushed (n + 1) (i + 1)
    pushed-more len = longer-more pushed (λ k h. get_or-append seen _ 0 k (omega (arith, len))) (rw len (get_or-append_seam seen _ [] 0))

-- the two tests of the code, over the kept periods
pub seen-tells : (seen : List ℕ) (x : ℕ) → Tells (list_any (λ t. eqb t x) seen) (Seen seen (length seen) x)
seen-tells seen x = tells-list-any (λ t. eqb t x) (λ t. t ≡ x) (λ t. tells-eq t x) seen

neither-not : (a b : Bool) → not (either a b) ≡ (not a && not b)
neither-not true b = refl
neither-not false b = refl

pub clashes-tells : (seen : List ℕ) (x : ℕ) → Tells (list_any (λ t. not (eqb (x % t) 0) && not (eqb (t % x) 0)) seen) (Clashes seen (length seen) x)
unfolding chained divides
clashes-tells seen x = tells-list-any (λ t. not (eqb (x % t) 0) && not (eqb (t % x) 0)) (λ t. Chained t x → ⊥) each seen
  where
    each : (t : ℕ) → Tells (not (eqb (x % t) 0) && not (eqb (t % x) 0)) (Chained t x → ⊥)
    each t = rw (← neither-not (eqb (x % t) 0) (eqb (t % x) 0)) (tells-not (chained t x) (chained-tells t x))

-- .. as a call over a slice answers them
pub seen-told : (seen now : List ℕ) (x : ℕ) (b : Bool) → now ≡ seen → b ≡ list_any (λ t. eqb t x) now → Tells b (Seen seen (length seen) x)
seen-told seen now x b e f = rw (f, e) (seen-tells seen x)

pub clashes-told : (seen now : List ℕ) (x : ℕ) (b : Bool) → now ≡ seen → b ≡ list_any (λ t. not (eqb (x % t) 0) && not (eqb (t % x) 0)) now → Tells b (Clashes seen (length seen) x)
clashes-told seen now x b e f = rw (f, e) (clashes-tells seen x)
