-- PIECES ONE AFTER ANOTHER: the records of a block, the blocks of a book. Common facts of them, over the piece's length m.
--     run_from f i k         f i, f (i + 1), .. : k pieces
--     run-next              one piece more
--     length_run            k pieces of m bytes are k * m bytes
--     run-piece             piece j stands at j * m
--     run_of                bytes whose pieces are those of a run are the run
--     sets-on               stores that go on where others ended
--     run_store             a loop that stores piece after piece
-- Assumes nothing.
use Rattle.std.specs.Prelude.{◌≡◌, length, set}
use Rattle.std.proofs.Math.Path.{refl, sym, ap}
use Rattle.std.proofs.Common.{◌∙◌, length-drop, take-append-drop, take_at}
use mathlib.Core.List.{List, [], ◌∷◌, ◌++◌, append_assoc, append-nil}
use Prim.Native.Nat.{ℕ, zero, suc, ◌+◌, ◌*◌, ◌<◌}
use Rattle.std.proofs.Math.Nat.{add-zero}
use native.Mathlib.Omega.{arith}
use Rattle.std.proofs.Math.ListN.{take, drop, length-append}
use Rattle.std.proofs.lemmas.List.Edits.{sets}
use Rattle.std.proofs.Math.Seq.{drop_at, drop-drop}

unfoldable pub run_from : (ℕ → List ℕ) → ℕ → ℕ → List ℕ
run_from f i zero = []
run_from f i (suc k) = f i ++ run_from f (suc i) k

module _ (f : ℕ → List ℕ) where
  pub run-next : (i k : ℕ) → run_from f i (k + 1) ≡ run_from f i k ++ f (i + k)
  unfolding run_from
  run-next i zero = append-nil (f i) ∙ ap f (sym (add-zero i))
  run-next i (suc k) =
      let e : suc k + 1 ≡ suc (k + 1) = omega arith in
      let g : suc i + k ≡ i + suc k = omega arith in
      rw e (ap (λ (z : List ℕ). f i ++ z) (run-next (suc i) k ∙ ap (λ (j : ℕ). run_from f (suc i) k ++ f j) g) ∙ sym (append_assoc (f i) (run_from f (suc i) k) (f (i + suc k))))

  module _ (m : ℕ) (long : (i : ℕ) → length (f i) ≡ m) where
    pub length_run : (i k : ℕ) → length (run_from f i k) ≡ k * m
    unfolding run_from
    length_run i zero = omega arith
    length_run i (suc k) = length-append (f i) (run_from f (suc i) k) ∙ omega (arith, long i, length_run (suc i) k)

    pub run-piece : (i j k : ℕ) → j < k → take m (drop (j * m) (run_from f i k)) ≡ f (i + j)
    unfolding run_from
    run-piece i j zero h = absurd (omega arith)
    run-piece i zero (suc k) h =
        let z : 0 * m ≡ 0 = omega arith in
        rw (z, add-zero i) (take_at (f i) (run_from f (suc i) k) m (long i))
    run-piece i (suc j) (suc k) h =
        let e : suc j * m ≡ m + j * m = omega arith in
        let g : suc i + j ≡ i + suc j = omega arith in
        rw (e, ← drop-drop (j * m) m (f i ++ run_from f (suc i) k), drop_at (f i) (run_from f (suc i) k) m (long i)) (run-piece (suc i) j k (omega arith) ∙ ap f g)

    pub run_of : (i k : ℕ) (X : List ℕ) → length X ≡ k * m → ((j : ℕ) → j < k → take m (drop (j * m) X) ≡ f (i + j)) → run_from f i k ≡ X
    unfolding run_from
    run_of i zero [] l each = refl
    run_of i zero (x ∷ X) l each = absurd (omega arith)
    run_of i (suc k) X l each =
        let z : 0 * m ≡ 0 = omega arith in
        let first : take m X ≡ f i = rw (z, add-zero i) at (each 0 (omega arith)) in
        let rest : run_from f (suc i) k ≡ drop m X =
        run_of (suc i) k (drop m X) (rw (length-drop m X) (omega arith))
        (λ j h.
        let e : suc j * m ≡ m + j * m = omega arith in
        let g : suc i + j ≡ i + suc j = omega arith in
        rw (drop-drop (j * m) m X, ← e, g) (each (suc j) (omega arith))) in
        rw (rest, ← first) (take-append-drop m X)

-- stores that go on where others ended
pub sets-on : (l : List ℕ) (i j : ℕ) (a b : List ℕ) → j ≡ i + length a → sets (sets l i a) j b ≡ sets l i (a ++ b)
sets-on l i j [] b e =
    let z : j ≡ i = omega arith in
    rw z
sets-on l i j (x ∷ a) b e = sets-on (set l i x) (suc i) j a b (omega arith)

-- a turn of a loop that stores piece k behind the k pieces before it
pub run_store : (f : ℕ → List ℕ) (m : ℕ) (long : (i : ℕ) → length (f i) ≡ m) (l₀ l l₁ : List ℕ) (at i k place : ℕ)
    → l ≡ sets l₀ at (run_from f i k) → place ≡ at + k * m → l₁ ≡ sets l place (f (i + k)) → l₁ ≡ sets l₀ at (run_from f i (k + 1))
run_store f m long l₀ l l₁ at i k place e p s =
    s ∙ rw e (sets-on l₀ at place (run_from f i k) (f (i + k)) (omega (arith, length_run f m long i k)) ∙ ap (λ (z : List ℕ). sets l₀ at z) (sym (run-next f i k)))
