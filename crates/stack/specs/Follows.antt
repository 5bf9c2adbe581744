-- FIRST FIT, SAID OVER ROWS. Document 01, "First fit", as a relation and not as a loop.
--     RaisedRows fs gs y h q    the rows from y for h rose by q, and no other row changed
--     Follows Ts qs is ss fs o  for each probe in turn: its sub-bin had room, no lower one had, its x is the fill that its rows had, those rows rose by its width and no other did; or no
--                               sub-bin has room, and the outcome is 8 with the marks and the fills as they stand                         (believe this)
--     follows-fitted            first fit is such an outcome
--     follows-unique            and the only one
-- Assumes nothing.
use Rattle.std.specs.Prelude.{◌≡◌, ◌⊎◌, Bool, true, false, ℕ, ◌+◌, ◌*◌, ◌≤◌, ◌<◌, ltb, length, get_or, set}
use Rattle.std.proofs.Math.Path.{refl}
use Rattle.std.proofs.Common.{sym, ◌∙◌, inl, inr, suc-mul, mul-le-mul_right, div-mul-le_self, arith, ext_get_or, ltb-true, ltb-false, lt-ltb, le-ltb}
use mathlib.Core.List.{List, [], ◌∷◌}
use Rattle.std.proofs.Math.Decide.{dec_lt}
use Rattle.lists.specs.Pick.{pick}
use Rattle.lists.specs.Lowest.{Lowest, lowest-unique}
use Rattle.words.specs.Answers.{refused, done}
use Rattle.probes.specs.Table.{shortest, height}
use Rattle.stack.specs.Stack.{raised, Fits, bins}
use Rattle.stack.specs.FirstFit.{Outcome, outcome, marked, bin_of, start_in, fitted}
use Rattle.stack.specs.Rows.{length-raised, raised_below, raised-in, raised-above}
use Rattle.stack.specs.Fitting.{lowest-bin}

pub record RaisedRows (fs gs : List ℕ) (y h q : ℕ) : Type 0 where
  pub long : length gs ≡ length fs
  pub rose : (r : ℕ) → y ≤ r → r < y + h → get_or gs r 0 ≡ get_or fs r 0 + q
  pub stayed : (r : ℕ) → (r < y) ⊎ (y + h ≤ r) → get_or gs r 0 ≡ get_or fs r 0

raised-rows : (fs : List ℕ) (y h q : ℕ) → y + h ≤ length fs → RaisedRows fs (raised fs y h q) y h q
raised-rows fs y h q fits = record { long = length-raised fs y h q fits; rose = raised-in fs y h q fits; stayed = outside }
  where
    outside : (r : ℕ) → (r < y) ⊎ (y + h ≤ r) → get_or (raised fs y h q) r 0 ≡ get_or fs r 0
    outside r (inl l) = raised_below fs y h q fits r l
    outside r (inr l) = raised-above fs y h q fits r l

raised-unique : (fs gs : List ℕ) (y h q : ℕ) → y + h ≤ length fs → RaisedRows fs gs y h q → gs ≡ raised fs y h q
raised-unique fs gs y h q fits g = ext_get_or 0 gs (raised fs y h q) (g.long ∙ sym (length-raised fs y h q fits)) (λ r l. same r (dec_lt r y) (dec_lt r (y + h)))
  where
    same : (r : ℕ) → Dec (r < y) → Dec (r < y + h) → get_or gs r 0 ≡ get_or (raised fs y h q) r 0
    same r (yes l) d = g.stayed r (inl l) ∙ sym (raised_below fs y h q fits r l)
    same r (no l) (yes u) = g.rose r (omega arith) u ∙ sym (raised-in fs y h q fits r (omega arith) u)
    same r (no l) (no u) = g.stayed r (inr (omega arith)) ∙ sym (raised-above fs y h q fits r (omega arith))

bin-rows : (fs : List ℕ) (h j : ℕ) → j < bins fs h → j * h + h ≤ length fs
unfolding bins
bin-rows fs h j l = omega (arith, suc-mul j h, mul-le-mul_right h l, div-mul-le_self (length fs) h)

module _ (Ts qs : List ℕ) where
  -- sub-bin j is where probe i goes, and gs are the rows afterwards
  pub record Goes (i : ℕ) (fs : List ℕ) (j : ℕ) (gs : List ℕ) : Type 0 where
    pub there : j < bins fs (height Ts (get_or Ts i 0))
    pub room : Fits fs (height Ts (get_or Ts i 0)) (get_or qs i 0) (shortest Ts) j
    pub lower : (k : ℕ) → k < j → Fits fs (height Ts (get_or Ts i 0)) (get_or qs i 0) (shortest Ts) k → ⊥
    pub rows : RaisedRows fs gs (j * height Ts (get_or Ts i 0)) (height Ts (get_or Ts i 0)) (get_or qs i 0)

  unfoldable pub Follows : List ℕ → List ℕ → List ℕ → Outcome → Type 0
  Follows [] ss fs o = o ≡ outcome done ss fs
  Follows (i ∷ is) ss fs o =
      ((j : ℕ) × (gs : List ℕ) × Goes i fs j gs × Follows is (set ss i (start_in Ts qs i fs j)) gs o)
      ⊎ (((j : ℕ) → j < bins fs (height Ts (get_or Ts i 0)) → Fits fs (height Ts (get_or Ts i 0)) (get_or qs i 0) (shortest Ts) j → ⊥) × (o ≡ outcome (refused 8 i) (marked (i ∷ is) ss) fs))

  found : (i : ℕ) (fs : List ℕ) → Lowest (Fits fs (height Ts (get_or Ts i 0)) (get_or qs i 0) (shortest Ts)) (bins fs (height Ts (get_or Ts i 0))) (bin_of Ts qs i fs)
  unfolding bin_of
  found i fs = lowest-bin fs (height Ts (get_or Ts i 0)) (get_or qs i 0) (shortest Ts)

  pub follows-fitted : (is ss fs : List ℕ) → Follows is ss fs (fitted Ts qs is ss fs)
  unfolding Follows fitted
  follows-fitted [] ss fs = refl
  follows-fitted (i ∷ is) ss fs =
      by (ltb (bin_of Ts qs i fs) (bins fs (height Ts (get_or Ts i 0)))) refl
      (follows-fitted is (set ss i (start_in Ts qs i fs (bin_of Ts qs i fs))) (raised fs (bin_of Ts qs i fs * height Ts (get_or Ts i 0)) (height Ts (get_or Ts i 0)) (get_or qs i 0)))
    where
      next : Outcome
      next = fitted Ts qs is (set ss i (start_in Ts qs i fs (bin_of Ts qs i fs))) (raised fs (bin_of Ts qs i fs * height Ts (get_or Ts i 0)) (height Ts (get_or Ts i 0)) (get_or qs i 0))

      by : (b : Bool) → ltb (bin_of Ts qs i fs) (bins fs (height Ts (get_or Ts i 0))) ≡ b
          → Follows is (set ss i (start_in Ts qs i fs (bin_of Ts qs i fs))) (raised fs (bin_of Ts qs i fs * height Ts (get_or Ts i 0)) (height Ts (get_or Ts i 0)) (get_or qs i 0)) next
          → Follows (i ∷ is) ss fs (pick b next (outcome (refused 8 i) (marked (i ∷ is) ss) fs))
      by true e ih =
          let l = ltb-true (bin_of Ts qs i fs) (bins fs (height Ts (get_or Ts i 0))) e in
          inl (
            bin_of Ts qs i fs,
            _,
            record {
              there = l;
              room = (found i fs).found l;
              lower = (found i fs).passed;
              rows = raised-rows fs (bin_of Ts qs i fs * height Ts (get_or Ts i 0)) (height Ts (get_or Ts i 0)) (get_or qs i 0) (bin-rows fs (height Ts (get_or Ts i 0)) (bin_of Ts qs i fs) l);
            },
            ih,
          )
      by false e ih =
          let l = ltb-false (bin_of Ts qs i fs) (bins fs (height Ts (get_or Ts i 0))) e in
          inr ((λ j k. (found i fs).passed j (omega arith)), refl)

  pub follows-unique : (is ss fs : List ℕ) (o : Outcome) → Follows is ss fs o → o ≡ fitted Ts qs is ss fs
  unfolding Follows fitted
  follows-unique [] ss fs o e = e
  follows-unique (i ∷ is) ss fs o (inl (j, gs, g, f)) =
      let same : j ≡ bin_of Ts qs i fs =
      lowest-unique (Fits fs (height Ts (get_or Ts i 0)) (get_or qs i 0) (shortest Ts)) (bins fs (height Ts (get_or Ts i 0))) j (bin_of Ts qs i fs)
      (record { within = omega (arith, g.there); passed = g.lower; found = λ h. g.room }) (found i fs) in
      let rose : gs ≡ raised fs (j * height Ts (get_or Ts i 0)) (height Ts (get_or Ts i 0)) (get_or qs i 0) =
      raised-unique fs gs (j * height Ts (get_or Ts i 0)) (height Ts (get_or Ts i 0)) (get_or qs i 0) (bin-rows fs (height Ts (get_or Ts i 0)) j g.there) g.rows in
      let l : bin_of Ts qs i fs < bins fs (height Ts (get_or Ts i 0)) = omega (arith, g.there) in
      rw (lt-ltb (bin_of Ts qs i fs) (bins fs (height Ts (get_or Ts i 0))) l)
      (rw (rose, same) at (follows-unique is (set ss i (start_in Ts qs i fs j)) gs o f))
  follows-unique (i ∷ is) ss fs o (inr (none, e)) = by (dec_lt (bin_of Ts qs i fs) (bins fs (height Ts (get_or Ts i 0))))
    where
      by : Dec (bin_of Ts qs i fs < bins fs (height Ts (get_or Ts i 0)))
          → o ≡ pick (ltb (bin_of Ts qs i fs) (bins fs (height Ts (get_or Ts i 0)))) (fitted Ts qs is (set ss i (start_in Ts qs i fs (bin_of Ts qs i fs))) (raised fs (bin_of Ts qs i fs * height Ts (get_or Ts i 0)) (height Ts (get_or Ts i 0)) (get_or qs i 0))) (outcome (refused 8 i) (marked (i ∷ is) ss) fs)
      by (yes l) = absurd (none (bin_of Ts qs i fs) l ((found i fs).found l))
      by (no l) = rw (le-ltb (bin_of Ts qs i fs) (bins fs (height Ts (get_or Ts i 0))) (omega arith)) e
