-- WHAT THE CHECKER COMPUTES IS WHAT IT PROMISES.
--     judged-unique          of a list at most one answer is Judged
--     meeting-judged         of a list that passes 1 to 6 and 9, meeting_of is
--     checked-meets          so of any list checked meets Checks
--     check-refused, -done   the answer of a call that asks the judge first
-- Assumes nothing.
use Rattle.std.specs.Prelude.{◌≡◌, ◌⊎◌, Bool, not, List, ltb, get_or}
use Rattle.std.proofs.Math.Path.{refl, sym}
use Rattle.std.proofs.Common.{◌∙◌, inl, inr, arith, ltb-true, ltb-false}
use Rattle.std.proofs.Math.Bool.{true, false}
use Prim.Native.Nat.{ℕ, ◌<◌}
use Rattle.std.proofs.Math.ListN.{length}
use Rattle.lists.specs.Pick.{pick, Tells}
use Rattle.lists.specs.Telling.{tells-lt, tells_both, tells-not, tells-false}
use Rattle.lists.specs.Lowest.{Lowest, lowest-meets}
use Rattle.lists.specs.Answering.{first-of}
use Rattle.lists.specs.Harmonic.{Harmonic, Positive}
use Rattle.words.specs.declared.Answer.{Answer}
use Rattle.words.specs.Answers.{refused, done, pair}
use Rattle.wire.specs.Wire.{Clean}
use Rattle.wire.specs.Meeting.{apart_at, tick_at}
use Rattle.wire.proofs.FirstShared.{first-shared-unique}
use Rattle.wire.specs.CleanTest.{NeverMeetAt}
use Rattle.wire.proofs.CleanTest.{clean-pairs, apart-at-tells, tick-at-first}
use Rattle.probes.specs.Table.{widths, list_lines}
use Rattle.probes.specs.Verdict.{list_findings}
use Rattle.probes.proofs.Laws.{sound-gives}
use Rattle.probes.specs.Composing.{list_verdict}
use Rattle.probes.proofs.Composing.{list-find, list-numbered, compose-done, compose-refused, refusal_is}
use Rattle.meetings.specs.Check.{Meets, Judged, partner, opener, meeting_of, Checks, checked}
use Rattle.probes.proofs.Widths.{widths-none}
use Rattle.meetings.specs.Passing.{Passes, passes-gives, silent-passes}

module _ (Ts qs ss : List ℕ) where
  -- a pair that meets is in no clean list, and no pair that comes before it is named
  meets-clean : (i j t : ℕ) → Meets Ts qs ss i j t → Clean Ts qs ss → ⊥
  meets-clean i j t m c = (clean-pairs Ts qs ss).0 c i j m.ordered m.probes t m.shared.one m.shared.other

  never-later : (i j t k l x : ℕ) → Meets Ts qs ss i j t → Meets Ts qs ss k l x → (k < i) ⊎ ((k ≡ i) × (l < j)) → ⊥
  never-later i j t k l x m n h = m.before k l n.ordered n.probes h x n.shared.one n.shared.other

  same-pair : (i j t k l x : ℕ) → Meets Ts qs ss i j t → Meets Ts qs ss k l x → (i ≡ k) × (j ≡ l)
  same-pair i j t k l x m n =
      let a : ¬ (k < i) = λ h. never-later i j t k l x m n (inl h) in
      let b : ¬ (i < k) = λ h. never-later k l x i j t n m (inl h) in
      let e : i ≡ k = omega arith in
      let c : ¬ (l < j) = λ h. never-later i j t k l x m n (inr (sym e, h)) in
      let d : ¬ (j < l) = λ h. never-later k l x i j t n m (inr (e, h)) in
      (e, omega arith)

  pub judged-unique : (a b : Answer) → Judged Ts qs ss a → Judged Ts qs ss b → a ≡ b
  unfolding Judged
  judged-unique a b (inl (c, e)) (inl (d, f)) = e ∙ sym f
  judged-unique a b (inl (c, e)) (inr (k, l, x, n, f)) = absurd (meets-clean k l x n c)
  judged-unique a b (inr (i, j, t, m, e)) (inl (d, f)) = absurd (meets-clean i j t m d)
  judged-unique a b (inr (i, j, t, m, e)) (inr (k, l, x, n, f)) =
      let (p, q) = same-pair i j t k l x m n in
      let o = first-shared-unique _ _ _ _ _ _ t x m.shared (rw (← p, ← q) at n.shared) in
      e ∙ rw (p, q, o) (sym f)

  module _ (har : Harmonic Ts) (pos : Positive qs (length Ts)) (low : (i : ℕ) → i < length Ts → get_or ss i 0 < get_or Ts i 0) where
    -- i meets j, which stands above it
    Above : ℕ → ℕ → Type 0
    Above i j = (i < j) × (NeverMeetAt Ts qs ss i j → ⊥)

    partner-lowest : (i : ℕ) → i < length Ts → Lowest (Above i) (length Ts) (partner Ts qs ss i)
    unfolding partner Above
    partner-lowest i h =
        lowest-meets _ (Above i) (length Ts)
        (λ j k. tells_both (ltb i j) (not (apart_at Ts qs ss i j)) (tells-lt i j) (tells-not (apart_at Ts qs ss i j) (apart-at-tells Ts qs ss har pos i j h k)))

    opener-lowest : Lowest (λ i. partner Ts qs ss i < length Ts) (length Ts) (opener Ts qs ss)
    unfolding opener
    opener-lowest = lowest-meets _ _ (length Ts) (λ i h. tells-lt (partner Ts qs ss i) (length Ts))

    -- what was passed on the way never meets
    never : (i j : ℕ) → i < j → j < length Ts → j < partner Ts qs ss i → NeverMeetAt Ts qs ss i j
    unfolding Above
    never i j h k l = by (apart_at Ts qs ss i j) (apart-at-tells Ts qs ss har pos i j (omega arith) k)
      where
        by : (b : Bool) → Tells b (NeverMeetAt Ts qs ss i j) → NeverMeetAt Ts qs ss i j
        by true t = t.yes refl
        by false t = absurd ((partner-lowest i (omega arith)).passed j l (h, t.no refl))

    never-before : (k l : ℕ) → k < opener Ts qs ss → k < l → l < length Ts → NeverMeetAt Ts qs ss k l
    never-before k l o h m =
        let a = opener-lowest.passed k o in
        never k l h m (omega arith)

    meets : opener Ts qs ss < length Ts → Meets Ts qs ss (opener Ts qs ss) (partner Ts qs ss (opener Ts qs ss)) (tick_at Ts qs ss (opener Ts qs ss) (partner Ts qs ss (opener Ts qs ss)))
    unfolding Above
    meets h =
        let i = opener Ts qs ss in
        let j = partner Ts qs ss i in
        let m : j < length Ts = opener-lowest.found h in
        let f = (partner-lowest i h).found m in
        record {
          ordered = f.0;
          probes = m;
          shared = tick-at-first Ts qs ss har pos i j h m (low i h) (low j m) (tells-false (apart_at Ts qs ss i j) (apart-at-tells Ts qs ss har pos i j h m) f.1);
          before = earlier;
        }
      where
        earlier : (k l : ℕ) → k < l → l < length Ts → (k < opener Ts qs ss) ⊎ ((k ≡ opener Ts qs ss) × (l < partner Ts qs ss (opener Ts qs ss))) → NeverMeetAt Ts qs ss k l
        earlier k l g m (inl o) = never-before k l o g m
        earlier k l g m (inr (e, o)) = never k l g m (rw e o)

    pub meeting-meets : Judged Ts qs ss (meeting_of Ts qs ss)
    unfolding Judged meeting_of
    meeting-meets = by (ltb (opener Ts qs ss) (length Ts)) refl
      where
        i : ℕ
        i = opener Ts qs ss

        j : ℕ
        j = partner Ts qs ss i

        by : (b : Bool) → ltb (opener Ts qs ss) (length Ts) ≡ b → Judged Ts qs ss (pick b (pair 10 i j (tick_at Ts qs ss i j)) done)
        by true e = inr (i, j, tick_at Ts qs ss i j, meets (ltb-true _ _ e), refl)
        by false e = inl ((clean-pairs Ts qs ss).1 (λ k l h m. never-before k l (omega (arith, ltb-false (opener Ts qs ss) (length Ts) e)) h m), refl)

module _ (Ts ps ss : List ℕ) where
  pub meeting-judged : Passes Ts ps ss → Judged Ts (widths 0 ps) ss (meeting_of Ts (widths 0 ps) ss)
  meeting-judged p =
      rw (widths-none ps)
      (meeting-meets Ts ps ss (sound-gives Ts ps p.sound).harmonic (sound-gives Ts ps p.sound).reads (λ i h. (passes-gives Ts ps ss p i h).begins))

  pub checked-meets : Checks Ts ps ss (checked Ts ps ss)
  unfolding Checks checked
  checked-meets =
      first-of (list_lines Ts ps ss) (list_findings Ts ps ss) refused (Judged Ts (widths 0 ps) ss) (meeting_of Ts (widths 0 ps) ss) (list-find Ts ps ss)
      (λ s. meeting-judged (silent-passes Ts ps ss s))

  -- the judge refuses, and that is the answer; or it does not, and the meeting is
  pub check-refused : (a : Answer) → a ≡ list_verdict Ts ps ss → (a.number ≡ 0 → ⊥) → Checks Ts ps ss a
  unfolding list_verdict checked
  check-refused a e n =
      let same : a ≡ checked Ts ps ss =
      e ∙ refusal_is (list_findings Ts ps ss) ∙ sym (compose-refused (list_findings Ts ps ss) refused (meeting_of Ts (widths 0 ps) ss) (rw e at n))
      in
      rw same checked-meets

  pub check_done : (a r : Answer) → a ≡ list_verdict Ts ps ss → a.number ≡ 0 → r ≡ meeting_of Ts (widths 0 ps) ss → Checks Ts ps ss r
  unfolding list_verdict checked
  check_done a r e z f =
      let same : checked Ts ps ss ≡ meeting_of Ts (widths 0 ps) ss = compose-done (list_findings Ts ps ss) refused (meeting_of Ts (widths 0 ps) ss) (list-numbered Ts ps ss) (rw e at z) in
      rw (f, ← same) checked-meets
