-- WHO HOLDS THE TICK: what `holder` computes is what it promises.
--     held-unique               at most one answer is HeldBy
--     holder-held               holder_of is
--     holder-meets              of any list holder_answer meets Holder
--     holder-found, -idle       the ways out of `holder`
-- Assumes nothing.
use Rattle.std.specs.Prelude.{◌≡◌, List, ℕ, ◌≤◌, ◌<◌, ltb, length, get_or}
use Rattle.std.proofs.Math.Path.{refl, sym, ap}
use Rattle.std.proofs.Common.{◌∙◌}
use borrow.Author.Tests.{lt-ltb, le-ltb}
use Rattle.lists.specs.Pick.{pick}
use Rattle.lists.specs.Lowest.{lowest, lowest-meets, lowest-unique}
use Rattle.lists.specs.Answering.{first-of}
use Rattle.words.specs.declared.Answer.{Answer}
use Rattle.words.specs.Answers.{refused, mark}
use Rattle.wire.specs.Wire.{HoldsAt}
use Rattle.wire.specs.Window.{holds}
use Rattle.wire.proofs.Window.{holds-tells}
use Rattle.probes.specs.Table.{widths}
use Rattle.hours.specs.Timetable.{ask_lines, ask_findings, phase, HeldBy, holds_test, holder_of, Holder, holder_answer}
use Rattle.probes.proofs.Widths.{widths-none}
use Rattle.hours.specs.Asking.{ask_verdict, ask-find, ask-refused, ask-passed}

module _ (Ts qs ss : List ℕ) (t : ℕ) where
  pub holds_at : (i : ℕ) → holds_test Ts qs ss t i ≡ holds (get_or Ts i 0) (get_or qs i 0) (get_or ss i 0) t
  unfolding holds_test phase
  holds_at i = refl

  pub held-unique : (a b : Answer) → HeldBy Ts qs ss t a → HeldBy Ts qs ss t b → a ≡ b
  unfolding HeldBy
  held-unique a b (r, l, e) (s, m, f) =
      e ∙ ap (λ (x : ℕ). refused 0 (pick (ltb x (length Ts)) x mark)) (lowest-unique (λ i. HoldsAt Ts qs ss i t) (length Ts) r s l m) ∙ sym f

  pub holder-held : HeldBy Ts qs ss t (holder_of Ts qs ss t)
  unfolding HeldBy holder_of holds_test phase
  holder-held = (
    lowest (holds_test Ts qs ss t) (length Ts),
    lowest-meets (holds_test Ts qs ss t) (λ i. HoldsAt Ts qs ss i t) (length Ts) (λ i h. holds-tells (get_or Ts i 0) (get_or qs i 0) (get_or ss i 0) t),
    refl,
  )

  pub holder-found : (i : ℕ) → i ≡ lowest (holds_test Ts qs ss t) (length Ts) → i < length Ts → refused 0 i ≡ holder_of Ts qs ss t
  unfolding holder_of
  holder-found i e h = rw (← e, lt-ltb i (length Ts) h)

  pub holder-idle : (i : ℕ) → i ≡ lowest (holds_test Ts qs ss t) (length Ts) → length Ts ≤ i → refused 0 mark ≡ holder_of Ts qs ss t
  unfolding holder_of
  holder-idle i e h = rw (← e, le-ltb i (length Ts) h)

module _ (Ts ps ss : List ℕ) (t : ℕ) where
  pub holder-meets : Holder Ts ps ss t (holder_answer Ts ps ss t)
  unfolding Holder holder_answer
  holder-meets =
      first-of (ask_lines Ts ps ss t) (ask_findings Ts ps ss t) refused (HeldBy Ts (widths 0 ps) ss t) (holder_of Ts (widths 0 ps) ss t)
      (ask-find Ts ps ss t) (λ s. holder-held Ts (widths 0 ps) ss t)

  pub holder-refused : (a : Answer) → a ≡ ask_verdict Ts ps ss t → (a.number ≡ 0 → ⊥) → Holder Ts ps ss t a
  unfolding holder_answer
  holder-refused a e n =
      let same : a ≡ holder_answer Ts ps ss t = ask-refused Ts ps ss t a (holder_of Ts (widths 0 ps) ss t) e n in
      rw same holder-meets

  pub holder-done : (a r : Answer) → a ≡ ask_verdict Ts ps ss t → a.number ≡ 0 → r ≡ holder_of Ts ps ss t → Holder Ts ps ss t r
  unfolding holder_answer
  holder-done a r e z f =
      let same : r ≡ holder_answer Ts ps ss t = rw (widths-none ps) f ∙ sym (ask-passed Ts ps ss t a (holder_of Ts (widths 0 ps) ss t) e z) in
      rw same holder-meets
