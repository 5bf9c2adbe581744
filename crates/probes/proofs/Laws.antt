-- What follows from the definitions of specs/Laws.
--     verdict-meets           what validation computes is what the lines ask for
--     passes-sound, sound-passes   0 exactly when Sound
--     sound-gives             what Sound gives: each period in range, each length from 1 to w, of two periods the smaller divides the larger, H at most 4,096
--     late_meets              what the search for 9 finds is the lowest late place
--     never-mark              no start below a permitted period equals the mark
-- Assumes nothing.
use Rattle.std.specs.Prelude.{◌≡◌, ◌≢◌, Bool, true, false, not, List, [], ◌∷◌, ℕ, ◌≤◌, ◌<◌, ltb, eqb, get_or}
use Rattle.std.proofs.Math.Path.{refl, ap}
use Rattle.std.proofs.Common.{inl, inr, arith}
use Rattle.std.specs.Int.{◌∣◌}
use Rattle.std.proofs.Math.Nat.{dvd_refl, le_of_dvd}
use Rattle.std.proofs.Math.Decide.{dec_lt, dec_le, ℕ_discrete}
use Rattle.std.proofs.Math.ListN.{length}
use Rattle.lists.specs.Pick.{Tells, In}
use Rattle.lists.specs.Telling.{tells-not, tells-eq, tells-lt}
use Rattle.lists.specs.Standing.{stands, not_in}
use Rattle.lists.specs.Lowest.{Lowest, lowest, lowest-meets}
use Rattle.lists.specs.Refusals.{Silent, Silents, line, first-silents, first_rest}
use Rattle.lists.specs.Answering.{found, Finds, AllFind, finds-whole, first-of}
use Rattle.words.specs.declared.Answer.{Answer}
use Rattle.words.specs.Answers.{refused, done, mark}
use Rattle.probes.specs.Table.{most_probes, most_period, most_rows, shortest, rows, BadPeriod, BadLength, Unchained, Differ, lines, Sound, Late}
use Rattle.probes.specs.Verdict.{bad_period, bad_length, unchained, late, findings, verdict, Validates}
use Rattle.probes.specs.Seen.{Chained}
use Rattle.probes.proofs.Seen.{chained-tells, unchained-tells}
use Rattle.probes.specs.Steps.{bad-period-tells, bad-length-tells, late-tells}
use Rattle.probes.specs.Laws.{Soundness}

finds-line : (k n : ℕ) (P : ℕ → Type 0) (i : ℕ) → Lowest P n i → Finds (line k n P) (found k n i)
finds-line k n P i h = record { number = refl; places = refl; place = h }

module _ (Ts ps : List ℕ) where
  -- the six checks find what the six lines ask for, whatever columns number 1 counts
  pub findings-find : (D : Type 0) (d : Bool) → Tells d D → AllFind (lines Ts ps D) (findings d Ts ps)
  unfolding AllFind findings
  findings-find D d t = (
    finds-whole 1 D d t,
    (
      finds-whole 2 (most_probes < length Ts) (ltb most_probes (length Ts)) (tells-lt most_probes (length Ts)),
      (
        finds-line 3 (length Ts) (BadPeriod Ts ps) _ (lowest-meets (bad_period Ts) (BadPeriod Ts ps) (length Ts) (λ i h. bad-period-tells Ts ps i)),
        (
          finds-line 4 (length Ts) (BadLength Ts ps) _ (lowest-meets (bad_length (shortest Ts) ps) (BadLength Ts ps) (length Ts) (λ i h. bad-length-tells Ts ps i)),
          (
            finds-line 5 (length Ts) (Unchained Ts ps) _ (lowest-meets (unchained Ts) (Unchained Ts ps) (length Ts) (λ i h. unchained-tells Ts ps i)),
            (finds-whole 6 (most_rows < rows Ts) (ltb most_rows (rows Ts)) (tells-lt most_rows (rows Ts)), tt),
          ),
        ),
      ),
    ),
  )

  pub verdict-meets : Validates Ts ps (verdict Ts ps)
  unfolding verdict Validates
  verdict-meets =
      first-of (lines Ts ps (Differ Ts ps)) (findings (not (eqb (length Ts) (length ps))) Ts ps) refused (λ r. r ≡ done) done
      (findings-find (Differ Ts ps) (not (eqb (length Ts) (length ps))) (tells-not (eqb (length Ts) (length ps)) (tells-eq (length Ts) (length ps))))
      (λ s. refl)

  -- no line gives number 0
  never_done : (k i : ℕ) → In k (1 ∷ 2 ∷ 3 ∷ 4 ∷ 5 ∷ 6 ∷ []) → done ≡ refused k i → ⊥
  unfolding stands
  never_done k i h e =
      let z : 0 ≡ k = ap (λ (a : Answer). a.number) e in
      not_in 0 (1 ∷ 2 ∷ 3 ∷ 4 ∷ 5 ∷ 6 ∷ []) refl (rw (← z) at h)

  pub validates-sound : Validates Ts ps done → Sound Ts ps
  unfolding Validates
  validates-sound v = first-silents (lines Ts ps (Differ Ts ps)) refused (λ r. r ≡ done) done never_done v

  pub sound-validates : (a : Answer) → Sound Ts ps → Validates Ts ps a → a ≡ done
  unfolding Validates
  sound-validates a s v = first_rest (lines Ts ps (Differ Ts ps)) refused (λ r. r ≡ done) a s v

  pub passes-sound : verdict Ts ps ≡ done → Sound Ts ps
  passes-sound e = validates-sound (rw e at verdict-meets)

  pub sound-passes : Sound Ts ps → verdict Ts ps ≡ done
  sound-passes s = sound-validates (verdict Ts ps) s verdict-meets

module _ (Ts ps : List ℕ) where
  -- of any two periods one divides the other, where 5 does not apply
  either-divides : Silent (line 5 (length Ts) (Unchained Ts ps)) → (i j : ℕ) → i < length Ts → j < i → Chained (get_or Ts i 0) (get_or Ts j 0)
  either-divides s i j h l = by _ (chained-tells (get_or Ts i 0) (get_or Ts j 0))
    where
      by : (b : Bool) → Tells b (Chained (get_or Ts i 0) (get_or Ts j 0)) → Chained (get_or Ts i 0) (get_or Ts j 0)
      by true t = t.yes refl
      by false t = absurd (s i h (j, l, (λ d. t.no refl (inl d)), λ d. t.no refl (inr d)))

  ordered-divides : (a b : ℕ) → 0 < a → a ≤ b → Chained a b → a ∣ b
  ordered-divides a b z h (inl d) = d
  ordered-divides a b z h (inr d) =
      let same : a ≡ b = omega (arith, le_of_dvd z d) in
      rw same (dvd_refl b)

  pub sound-gives : Sound Ts ps → Soundness Ts ps
  unfolding Silents
  sound-gives (s₁, (s₂, (s₃, (s₄, (s₅, (s₆, end)))))) = record {
    same = equal (ℕ_discrete (length Ts) (length ps));
    few = at_most most_probes (length Ts) (s₂ 0 (omega arith)) (dec_le (length Ts) most_probes);
    least = from_one;
    most = λ i h. at_most most_period (get_or Ts i 0) (λ b. s₃ i h (inr b)) (dec_le (get_or Ts i 0) most_period);
    reads = λ i h. not_none i h (dec_lt 0 (get_or ps i 0));
    short = λ i h. at_most (shortest Ts) (get_or ps i 0) (λ b. s₄ i h (inr b)) (dec_le (get_or ps i 0) (shortest Ts));
    harmonic = record { positive = from_one; divides = λ i j h k l. chain i j h k l (dec_lt j i) (dec_lt i j) };
    low = at_most most_rows (rows Ts) (s₆ 0 (omega arith)) (dec_le (rows Ts) most_rows);
  }
    where
      at_most : (m x : ℕ) → (m < x → ⊥) → Dec (x ≤ m) → x ≤ m
      at_most m x none (yes h) = h
      at_most m x none (no h) = absurd (none (omega arith))

      equal : Dec (length Ts ≡ length ps) → length Ts ≡ length ps
      equal (yes e) = e
      equal (no n) = absurd (s₁ 0 (omega arith) n)

      from_one : (i : ℕ) → i < length Ts → 0 < get_or Ts i 0
      from_one i h = by (dec_lt (get_or Ts i 0) 1)
        where
          by : Dec (get_or Ts i 0 < 1) → 0 < get_or Ts i 0
          by (yes b) = absurd (s₃ i h (inl b))
          by (no b) = omega arith

      not_none : (i : ℕ) → i < length Ts → Dec (0 < get_or ps i 0) → 0 < get_or ps i 0
      not_none i h (yes l) = l
      not_none i h (no l) = absurd (s₄ i h (inl (omega arith)))

      chain : (i j : ℕ) → i < length Ts → j < length Ts → get_or Ts i 0 ≤ get_or Ts j 0 → Dec (j < i) → Dec (i < j) → get_or Ts i 0 ∣ get_or Ts j 0
      chain i j h k l (yes o) d = ordered-divides (get_or Ts i 0) (get_or Ts j 0) (from_one i h) l (either-divides s₅ i j h o)
      chain i j h k l (no o) (yes q) = ordered-divides (get_or Ts i 0) (get_or Ts j 0) (from_one i h) l (swapped (either-divides s₅ j i k q))
        where
          swapped : Chained (get_or Ts j 0) (get_or Ts i 0) → Chained (get_or Ts i 0) (get_or Ts j 0)
          swapped (inl d) = inr d
          swapped (inr d) = inl d
      chain i j h k l (no o) (no q) =
          let one : i ≡ j = omega arith in
          rw one (dvd_refl (get_or Ts j 0))

pub late_meets : (Ts ss : List ℕ) → Lowest (Late Ts ss) (length Ts) (lowest (late Ts ss) (length Ts))
late_meets Ts ss = lowest-meets (late Ts ss) (Late Ts ss) (length Ts) (λ i h. late-tells Ts ss i)

pub never-mark : (T s : ℕ) → T ≤ most_period → s < T → s ≢ mark
never-mark T s h l e = absurd (omega arith)

-- a list that holds the mark at a probe of a permitted period is late there
pub mark-late : (Ts ss : List ℕ) (i : ℕ) → get_or Ts i 0 ≤ most_period → get_or ss i 0 ≡ mark → Late Ts ss i
mark-late Ts ss i h e = omega arith
