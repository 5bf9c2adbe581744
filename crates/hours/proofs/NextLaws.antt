-- THE NEXT START: what `next_start` computes is what it promises.
--     candidate-from, -starts, -least   the first start of one probe from t on
--     next-unique                       at most one answer is a NextStart
--     next-found                        next_of is
--     next-meets                        of any list next_answer meets NextFrom
--     next_one, turn-sooner, -kept, next-all    the steps of the loop
-- Edges: only the empty table has no start.
-- Assumes nothing.
use Rattle.std.specs.Prelude.{◌≡◌, List, get_or}
use Rattle.std.proofs.Math.Path.{refl, sym}
use Rattle.std.proofs.Common.{ap, ◌∙◌, div-add-mod', mod-lt, mul-le-mul_right, add-one}
use Rattle.std.proofs.Math.Logic.{inl, inr}
use Prim.Native.Nat.{ℕ, zero, suc, ◌+◌, ◌-◌, ◌*◌, ◌/◌, ◌%◌, ◌≤◌, ◌<◌}
use Rattle.std.proofs.Math.Nat.{mul-mod_left, sub_self, zero-mod}
use Rattle.std.proofs.Math.Decide.{dec_le, dec_lt, ℕ_discrete}
use native.Mathlib.Omega.{arith}
use Rattle.std.proofs.Math.ListN.{length}
use borrow.Author.Tests.{le-leb, lt-leb, lt-ltb}
use Rattle.lists.specs.Answering.{first-of}
use Rattle.words.specs.declared.Answer.{Answer}
use Rattle.words.specs.Answers.{refused, pair, mark}
use Rattle.probes.proofs.Laws.{sound-gives}
use Rattle.moments.specs.Laws.{candidate-now, candidate-here, candidate-later}
use Rattle.hours.specs.Timetable.{ask_lines, ask_findings, Starts, IsNextStart, NextStart, NextFrom, phase, candidate, next_of, next_answer}
use Rattle.hours.specs.Asking.{ask_verdict, silent-asked, ask-find, ask-refused, ask-passed}

-- one probe
module _ (T s t : ℕ) where
  module _ (z : 0 < T) where
    record Fits (x : ℕ) : Type 0 where
      from : t ≤ x
      starts : Starts T s x
      least : (y : ℕ) → t ≤ y → Starts T s y → x ≤ y

    now-fits : t ≤ s → Fits s
    now-fits h = record { from = h; starts = (omega arith, rw (sub_self) (zero-mod T)); least = λ y k w. w.0 }

    here-fits : s < t → (t - s) % T ≡ 0 → Fits t
    here-fits h e = record { from = omega arith; starts = (omega arith, e); least = λ y k w. k }

    later-fits : s < t → ((t - s) % T ≡ 0 → ⊥) → Fits (t + (T - (t - s) % T))
    later-fits h n = record { from = omega arith; starts = (omega (arith, whole), turns); least = fewest }
      where
        -- whole turns from s to the end of the turn that t lies in
        whole : t + (T - (t - s) % T) - s ≡ suc ((t - s) / T) * T
        whole = omega (arith, div-add-mod' (t - s) T, mod-lt (t - s) z)

        turns : (t + (T - (t - s) % T) - s) % T ≡ 0
        turns = rw whole (mul-mod_left (suc ((t - s) / T)) T)

        -- a read that starts later than t is no fewer turns on
        fewest : (y : ℕ) → t ≤ y → Starts T s y → t + (T - (t - s) % T) ≤ y
        fewest y k (l, e) = by (dec_le (suc ((t - s) / T)) ((y - s) / T))
          where
            by : Dec (suc ((t - s) / T) ≤ (y - s) / T) → t + (T - (t - s) % T) ≤ y
            by (yes g) = omega (arith, mul-le-mul_right T g, div-add-mod' (y - s) T, whole)
            by (no g) =
                let o : (y - s) / T ≤ (t - s) / T = omega arith in
                absurd (omega (arith, mul-le-mul_right T o, div-add-mod' (y - s) T, div-add-mod' (t - s) T))

    candidate-fits : Fits (candidate T s t)
    unfolding phase
    candidate-fits = by (dec_le t s) (ℕ_discrete ((t - s) % T) 0)
      where
        by : Dec (t ≤ s) → Dec ((t - s) % T ≡ 0) → Fits (candidate T s t)
        by (yes h) d = rw (← (candidate-now T s t h)) (now-fits h)
        by (no h) (yes e) = rw (← (candidate-here T s t ((t - s) % T) refl (omega arith) e)) (here-fits (omega arith) e)
        by (no h) (no n) = rw (← (candidate-later T s t ((t - s) % T) refl (omega arith) n)) (later-fits (omega arith) n)

    pub candidate-from : t ≤ candidate T s t
    candidate-from = candidate-fits.from

    pub candidate-starts : Starts T s (candidate T s t)
    candidate-starts = candidate-fits.starts

    pub candidate-least : (y : ℕ) → t ≤ y → Starts T s y → candidate T s t ≤ y
    candidate-least = candidate-fits.least

module _ (Ts ss : List ℕ) (t : ℕ) where
  abbrev pub candidate_at : ℕ → ℕ
  candidate_at k = candidate (get_or Ts k 0) (get_or ss k 0) t

  -- the steps of the fold
  next-first : pair 0 0 0 (candidate_at 0) ≡ next_of Ts ss t 1
  unfolding next_of
  next-first = refl

  next-sooner : (i y k : ℕ) → 0 < k → pair 0 i 0 y ≡ next_of Ts ss t k → candidate_at k < y → pair 0 k 0 (candidate_at k) ≡ next_of Ts ss t (k + 1)
  unfolding next_of
  next-sooner i y k z e h = rw (add-one k, ← e, lt-ltb 0 k z, lt-leb y (candidate_at k) h)

  next-kept : (i y k : ℕ) → 0 < k → pair 0 i 0 y ≡ next_of Ts ss t k → y ≤ candidate_at k → pair 0 i 0 y ≡ next_of Ts ss t (k + 1)
  unfolding next_of
  next-kept i y k z e h = rw (add-one k, ← e, lt-ltb 0 k z, le-leb y (candidate_at k) h)

  -- the same, as the loop takes them
  pub next-none : length Ts ≡ 0 → refused 0 mark ≡ next_of Ts ss t (length Ts)
  unfolding next_of
  next-none e = rw e

  pub next_one : (x : ℕ) → x ≡ candidate_at 0 → pair 0 0 0 x ≡ next_of Ts ss t 1
  next_one x e = rw e next-first

  module _ (i y k x j v : ℕ) (z : 0 < k) (e : pair 0 i 0 y ≡ next_of Ts ss t k) (f : x ≡ candidate_at k) where
    pub turn-sooner : x < y → j ≡ k → v ≡ x → pair 0 j 0 v ≡ next_of Ts ss t (k + 1)
    turn-sooner h g o = rw (g, o, f) (next-sooner i y k z e (rw f at h))

    pub turn-kept : y ≤ x → j ≡ i → v ≡ y → pair 0 j 0 v ≡ next_of Ts ss t (k + 1)
    turn-kept h g o = rw (g, o) (next-kept i y k z e (rw f at h))

  pub next-all : (k : ℕ) (a : Answer) → a ≡ next_of Ts ss t k → k ≤ length Ts → length Ts ≤ k → a ≡ next_of Ts ss t (length Ts)
  next-all k a e h g = e ∙ ap (next_of Ts ss t) (omega arith)

  -- i is the lowest of the first k probes whose candidate is least
  record Soonest (k i : ℕ) : Type 0 where
    below : i < k
    least : (l : ℕ) → l < k → candidate_at i ≤ candidate_at l
    lowest : (l : ℕ) → l < i → candidate_at i < candidate_at l

  next-soonest : (k : ℕ) → (i : ℕ) × Soonest (suc k) i × (pair 0 i 0 (candidate_at i) ≡ next_of Ts ss t (suc k))
  next-soonest zero = (
    0,
    record {
      below = omega arith;
      least = λ l h.
          let e : l ≡ 0 = omega arith in
          rw e (omega arith);
      lowest = λ l h. absurd (omega arith);
    },
    next-first,
  )
  next-soonest (suc k) = by (next-soonest k)
    where
      by : (i : ℕ) × Soonest (suc k) i × (pair 0 i 0 (candidate_at i) ≡ next_of Ts ss t (suc k))
          → (i : ℕ) × Soonest (suc (suc k)) i × (pair 0 i 0 (candidate_at i) ≡ next_of Ts ss t (suc (suc k)))
      by (i, w, e) = take (dec_le (candidate_at i) (candidate_at (suc k)))
        where
          old : (l : ℕ) → l < suc (suc k) → candidate_at i ≤ candidate_at (suc k) → Dec (l < suc k) → candidate_at i ≤ candidate_at l
          old l h g (yes m) = w.least l m
          old l h g (no m) =
              let o : l ≡ suc k = omega arith in
              rw o g

          new : (l : ℕ) → l < suc (suc k) → candidate_at (suc k) < candidate_at i → Dec (l < suc k) → candidate_at (suc k) ≤ candidate_at l
          new l h g (yes m) = omega (arith, w.least l m)
          new l h g (no m) =
              let o : l ≡ suc k = omega arith in
              rw o (omega arith)

          take : Dec (candidate_at i ≤ candidate_at (suc k)) → (j : ℕ) × Soonest (suc (suc k)) j × (pair 0 j 0 (candidate_at j) ≡ next_of Ts ss t (suc (suc k)))
          take (yes g) = (
            i,
            record { below = omega (arith, w.below); least = λ l h. old l h g (dec_lt l (suc k)); lowest = w.lowest },
            rw (add-one (suc k)) at (next-kept i (candidate_at i) (suc k) (omega arith) e g),
          )
          take (no g) =
              let s : candidate_at (suc k) < candidate_at i = omega arith in (
                suc k,
                record { below = omega arith; least = λ l h. new l h s (dec_lt l (suc k)); lowest = λ l h. omega (arith, w.least l h) },
                rw (add-one (suc k)) at (next-sooner i (candidate_at i) (suc k) (omega arith) e s),
              )

  pub next-unique : (a b : Answer) → NextStart Ts ss t a → NextStart Ts ss t b → a ≡ b
  unfolding NextStart
  next-unique a b (inl (n, e)) (inl (m, f)) = e ∙ sym f
  next-unique a b (inl (n, e)) (inr (j, y, w, f)) = absurd (n j y w.probe w.from w.starts)
  next-unique a b (inr (i, x, v, e)) (inl (m, f)) = absurd (m i x v.probe v.from v.starts)
  next-unique a b (inr (i, x, v, e)) (inr (j, y, w, f)) =
      let p : ¬ (x < y) = λ h. w.none_before i x v.probe v.from h v.starts in
      let q : ¬ (y < x) = λ h. v.none_before j y w.probe w.from h w.starts in
      let o : x ≡ y = omega arith in
      let c : ¬ (i < j) = λ h. w.none-lower i h (rw o at v.starts) in
      let d : ¬ (j < i) = λ h. v.none-lower j h (rw (← o) at w.starts) in
      let u : i ≡ j = omega arith in
      e ∙ rw (o, u) (sym f)

  module _ (pos : (i : ℕ) → i < length Ts → 0 < get_or Ts i 0) where
    is-next : (k i : ℕ) → length Ts ≡ k → Soonest k i → IsNextStart Ts ss t i (candidate_at i)
    is-next k i e w =
        let h : i < length Ts = omega (arith, w.below) in
        record {
          probe = h;
          from = candidate-from _ _ t (pos i h);
          starts = candidate-starts _ _ t (pos i h);
          none_before = λ l y g m o s. absurd (omega (arith, w.least l (omega arith), candidate-least _ _ t (pos l g) y m s));
          none-lower = λ l g s. absurd (omega (arith, w.lowest l g, candidate-least _ _ t (pos l (omega arith)) (candidate_at i) (candidate-from _ _ t (pos i h)) s));
        }

    pub next-found : NextStart Ts ss t (next_of Ts ss t (length Ts))
    unfolding NextStart next_of
    next-found = by (length Ts) refl
      where
        by : (k : ℕ) → length Ts ≡ k → NextStart Ts ss t (next_of Ts ss t k)
        by zero e = inl (λ l y h. absurd (omega arith), refl)
        by (suc k) e =
            let (i, w, f) = next-soonest k in
            inr (i, candidate_at i, is-next (suc k) i e w, sym f)

module _ (Ts ps ss : List ℕ) (t : ℕ) where
  pub next-meets : NextFrom Ts ps ss t (next_answer Ts ps ss t)
  unfolding NextFrom next_answer
  next-meets =
      first-of (ask_lines Ts ps ss t) (ask_findings Ts ps ss t) refused (NextStart Ts ss t) (next_of Ts ss t (length Ts))
      (ask-find Ts ps ss t) (λ s. next-found Ts ss t (sound-gives Ts ps (silent-asked Ts ps ss t s).sound).least)

  pub next-refused : (a : Answer) → a ≡ ask_verdict Ts ps ss t → (a.number ≡ 0 → ⊥) → NextFrom Ts ps ss t a
  unfolding next_answer
  next-refused a e n =
      let same : a ≡ next_answer Ts ps ss t = ask-refused Ts ps ss t a (next_of Ts ss t (length Ts)) e n in
      rw same next-meets

  pub next-done : (a r : Answer) → a ≡ ask_verdict Ts ps ss t → a.number ≡ 0 → r ≡ next_of Ts ss t (length Ts) → NextFrom Ts ps ss t r
  unfolding next_answer
  next-done a r e z f =
      let same : r ≡ next_answer Ts ps ss t = f ∙ sym (ask-passed Ts ps ss t a (next_of Ts ss t (length Ts)) e z) in
      rw same next-meets
