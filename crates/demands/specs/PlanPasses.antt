-- WHAT THE PLANNER ANSWERS WITH 0, THE CHECKER PASSES. Demand 2: one definition of clean stands behind both.
--     plan-passes           a done plan's n starts, handed to the checker, give 0
-- Assumes nothing.
use Rattle.std.specs.Prelude.{◌≡◌, List, ℕ, ◌<◌, length, get_or, take}
use Rattle.std.proofs.Common.{sym, ap, inl, arith, get_or-take}
use Rattle.std.proofs.Math.Seq.{length-take-le}
use Rattle.words.specs.declared.Answer.{Answer}
use Rattle.words.specs.Answers.{done}
use Rattle.wire.specs.Wire.{Clean}
use Rattle.probes.specs.Table.{widths}
use Rattle.probes.proofs.Widths.{widths-none}
use Rattle.stack.specs.FirstFit.{Outcome, placed}
use Rattle.stack.specs.Planning.{fit, fit-holds}
use Rattle.probes.proofs.Laws.{sound-gives}
use Rattle.probes.proofs.Widths.{sound-positive}
use Rattle.rectangles.specs.Plan.{Plans}
use Rattle.rectangles.specs.Ends.{silent-plan}
use Rattle.rectangles.proofs.Promises.{plan-below, plan-clean}
use Rattle.meetings.specs.Check.{Checks}
use Rattle.meetings.specs.Passing.{Passes}
use Rattle.meetings.proofs.Promises.{check-complete}

module _ (Ts ps ss fs : List ℕ) (o : Outcome) (p : Plans Ts ps ss fs o) (e : o.answer ≡ done) where
  -- the starts that the plan wrote
  abbrev pub written : List ℕ
  written = take (length Ts) o.starts

  written_at : (i : ℕ) → i < length Ts → get_or (take (length Ts) o.starts) i 0 ≡ get_or o.starts i 0
  written_at i h = get_or-take (length Ts) o.starts i 0 h

  zero : o.answer.number ≡ 0
  zero = ap (λ (a : Answer). a.number) e

  written-length : length (take (length Ts) o.starts) ≡ length Ts
  unfolding placed fit
  written-length =
      let q = silent-plan Ts ps ss fs o p (inl zero) in
      let g = sound-gives Ts ps q.1.sound in
      let f = (fit-holds Ts ps (widths 0 ps) ss g.harmonic (sound-positive Ts ps g) q.1.long-s).long in
      length-take-le (length Ts) o.starts (rw (ap (λ (r : Outcome). r.starts) q.0, f) q.1.long-s)

  written-clean : Clean Ts ps (take (length Ts) o.starts)
  written-clean t i j hi hj a b =
      rw (widths-none ps) at (plan-clean Ts ps ss fs o p e) t i j hi hj (rw (written_at i hi) at a) (rw (written_at j hj) at b)

  passes : Passes Ts ps (take (length Ts) o.starts)
  passes = record {
    sound = (silent-plan Ts ps ss fs o p (inl zero)).1.sound;
    below = λ i h l. absurd (omega (arith, written_at i h, plan-below Ts ps ss fs o p e i h));
    same = sym written-length;
  }

  pub plan-passes : (a : Answer) → Checks Ts ps (take (length Ts) o.starts) a → a ≡ done
  plan-passes a c = check-complete Ts ps (take (length Ts) o.starts) a passes written-clean c
