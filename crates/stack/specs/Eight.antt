-- NUMBER 8, EXACTLY. Document 01: "Number 8 stops at the first probe with no such j". It is given exactly when every probe before that one in planning order was placed, and no sub-bin has
-- room for it in the rows as they then stand.
--     StopsAt Ts qs is ss fs i  the probes before i are all placed, and i has no sub-bin
--     eight-sound               8 with index i: it stops at i, and the fills are those rows
--     eight-complete            it stops at i: 8 with index i
-- Assumes nothing.
use Rattle.std.proofs.Math.Path.{◌≡◌, refl, ap}
use Rattle.std.specs.Prelude.{Bool, true, false, ltb, get_or}
use mathlib.Core.List.{List, [], ◌∷◌, ◌++◌}
use Prim.Native.Nat.{ℕ, ◌*◌, ◌<◌}
use Rattle.std.proofs.Math.Decide.{dec_lt}
use Rattle.std.proofs.Common.{arith, ltb-false, le-ltb}
use Rattle.std.proofs.Math.ListN.{set}
use Rattle.lists.specs.Lowest.{Lowest}
use Rattle.words.specs.declared.Answer.{Answer}
use Rattle.words.specs.Answers.{refused, done}
use Rattle.probes.specs.Table.{shortest, height}
use Rattle.stack.specs.Stack.{raised, Fits, bins}
use Rattle.stack.specs.FirstFit.{bin_of, start_in, fitted}
use Rattle.stack.specs.Fitting.{lowest-bin}

module _ (Ts qs : List ℕ) where
  pub record StopsAt (is ss fs : List ℕ) (i : ℕ) : Type 0 where
    pub before : List ℕ
    pub after : List ℕ
    pub parts : is ≡ before ++ i ∷ after
    pub placed : (fitted Ts qs before ss fs).answer ≡ done
    pub no_room : (j : ℕ) → j < bins (fitted Ts qs before ss fs).fills (height Ts (get_or Ts i 0))
        → Fits (fitted Ts qs before ss fs).fills (height Ts (get_or Ts i 0)) (get_or qs i 0) (shortest Ts) j → ⊥

  found-bin : (i : ℕ) (fs : List ℕ) → Lowest (Fits fs (height Ts (get_or Ts i 0)) (get_or qs i 0) (shortest Ts)) (bins fs (height Ts (get_or Ts i 0))) (bin_of Ts qs i fs)
  unfolding bin_of
  found-bin i fs = lowest-bin fs (height Ts (get_or Ts i 0)) (get_or qs i 0) (shortest Ts)

  pub eight-sound : (is ss fs : List ℕ) (i : ℕ) → (fitted Ts qs is ss fs).answer ≡ refused 8 i
      → (s : StopsAt is ss fs i) × ((fitted Ts qs is ss fs).fills ≡ (fitted Ts qs s.before ss fs).fills)
  unfolding fitted
  eight-sound [] ss fs i e =
      let z : ◌≡◌ {A = ℕ} 0 8 = ap (λ (a : Answer). a.number) e in
      absurd (omega arith)
  eight-sound (k ∷ is) ss fs i e =
      by (ltb (bin_of Ts qs k fs) (bins fs (height Ts (get_or Ts k 0)))) refl
      (eight-sound is (set ss k (start_in Ts qs k fs (bin_of Ts qs k fs))) (raised fs (bin_of Ts qs k fs * height Ts (get_or Ts k 0)) (height Ts (get_or Ts k 0)) (get_or qs k 0)) i)
    where
      ss₁ : List ℕ
      ss₁ = set ss k (start_in Ts qs k fs (bin_of Ts qs k fs))

      fs₁ : List ℕ
      fs₁ = raised fs (bin_of Ts qs k fs * height Ts (get_or Ts k 0)) (height Ts (get_or Ts k 0)) (get_or qs k 0)

      by : (b : Bool) → ltb (bin_of Ts qs k fs) (bins fs (height Ts (get_or Ts k 0))) ≡ b
          → ((fitted Ts qs is ss₁ fs₁).answer ≡ refused 8 i → (s : StopsAt is ss₁ fs₁ i) × ((fitted Ts qs is ss₁ fs₁).fills ≡ (fitted Ts qs s.before ss₁ fs₁).fills))
          → (s : StopsAt (k ∷ is) ss fs i) × ((fitted Ts qs (k ∷ is) ss fs).fills ≡ (fitted Ts qs s.before ss fs).fills)
      by true t ih =
          let (s, f) = ih (rw t at e) in (
            record {
              before = k ∷ s.before;
              after = s.after;
              parts = ap (λ (l : List ℕ). k ∷ l) s.parts;
              placed = rw t s.placed;
              no_room = rw t s.no_room;
            },
            rw t f,
          )
      by false t ih =
          let same : k ≡ i = ap (λ (a : Answer). a.index) (rw t at e) in
          let full = ltb-false (bin_of Ts qs k fs) (bins fs (height Ts (get_or Ts k 0))) t in (
            record {
              before = [];
              after = is;
              parts = ap (λ (x : ℕ). x ∷ is) same;
              placed = refl;
              no_room = rw (← same) (λ j l. (found-bin k fs).passed j (omega arith));
            },
            rw t,
          )

  stops-part : (bs as₁ ss fs : List ℕ) (i : ℕ) → (fitted Ts qs bs ss fs).answer ≡ done
      → ((j : ℕ) → j < bins (fitted Ts qs bs ss fs).fills (height Ts (get_or Ts i 0)) → Fits (fitted Ts qs bs ss fs).fills (height Ts (get_or Ts i 0)) (get_or qs i 0) (shortest Ts) j → ⊥)
      → (fitted Ts qs (bs ++ i ∷ as₁) ss fs).answer ≡ refused 8 i
  unfolding fitted
  stops-part [] as₁ ss fs i d n = at (dec_lt (bin_of Ts qs i fs) (bins fs (height Ts (get_or Ts i 0))))
    where
      at : Dec (bin_of Ts qs i fs < bins fs (height Ts (get_or Ts i 0))) → (fitted Ts qs (i ∷ as₁) ss fs).answer ≡ refused 8 i
      at (yes l) = absurd (n (bin_of Ts qs i fs) l ((found-bin i fs).found l))
      at (no l) = rw (le-ltb (bin_of Ts qs i fs) (bins fs (height Ts (get_or Ts i 0))) (omega arith))
  stops-part (k ∷ bs) as₁ ss fs i d n =
      by (ltb (bin_of Ts qs k fs) (bins fs (height Ts (get_or Ts k 0)))) refl
      (stops-part bs as₁ (set ss k (start_in Ts qs k fs (bin_of Ts qs k fs))) (raised fs (bin_of Ts qs k fs * height Ts (get_or Ts k 0)) (height Ts (get_or Ts k 0)) (get_or qs k 0)) i)
    where
      ss₁ : List ℕ
      ss₁ = set ss k (start_in Ts qs k fs (bin_of Ts qs k fs))

      fs₁ : List ℕ
      fs₁ = raised fs (bin_of Ts qs k fs * height Ts (get_or Ts k 0)) (height Ts (get_or Ts k 0)) (get_or qs k 0)

      by : (b : Bool) → ltb (bin_of Ts qs k fs) (bins fs (height Ts (get_or Ts k 0))) ≡ b
          → ((fitted Ts qs bs ss₁ fs₁).answer ≡ done
          → ((j : ℕ) → j < bins (fitted Ts qs bs ss₁ fs₁).fills (height Ts (get_or Ts i 0)) → Fits (fitted Ts qs bs ss₁ fs₁).fills (height Ts (get_or Ts i 0)) (get_or qs i 0) (shortest Ts) j → ⊥)
          → (fitted Ts qs (bs ++ i ∷ as₁) ss₁ fs₁).answer ≡ refused 8 i)
          → (fitted Ts qs (k ∷ (bs ++ i ∷ as₁)) ss fs).answer ≡ refused 8 i
      by true t ih = rw t (ih (rw t at d) (rw t at n))
      by false t ih =
          let z : ◌≡◌ {A = ℕ} 8 0 = ap (λ (a : Answer). a.number) (rw t at d) in
          absurd (omega arith)

  pub eight-complete : (is ss fs : List ℕ) (i : ℕ) → StopsAt is ss fs i → (fitted Ts qs is ss fs).answer ≡ refused 8 i
  eight-complete is ss fs i s = rw s.parts (stops-part s.before s.after ss fs i s.placed s.no_room)
