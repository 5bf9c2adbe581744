-- COLUMNS THAT A LOOP FILLS, entry by entry.
--     counted f i k         f i, f (i + 1), .. : k numbers
--     filled f n l          the column l with its first n entries f 0, f 1, .. ; the entries past n stay
--     Filling f l₀ l i      a loop has written the first i entries of l₀, and no other
-- Assumes nothing.
use Rattle.std.specs.Prelude.{◌≡◌, refl, List, [], ◌∷◌, ◌++◌, ℕ, zero, suc, ◌+◌, ◌≤◌, ◌<◌, length, get_or, set, drop}
use Rattle.std.proofs.Common.{sym, ap, ◌∙◌, append_assoc, add-zero, zero-add, add-one, arith, length-append, length-drop, drop-cons}
use Rattle.std.proofs.lemmas.List.{set_at}

unfoldable pub counted : (ℕ → ℕ) → ℕ → ℕ → List ℕ
counted f i zero = []
counted f i (suc k) = f i ∷ counted f (suc i) k

pub length-counted : (f : ℕ → ℕ) (i k : ℕ) → length (counted f i k) ≡ k
unfolding counted
length-counted f i zero = refl
length-counted f i (suc k) = ap suc (length-counted f (suc i) k)

pub counted-at : (f : ℕ → ℕ) (i k j : ℕ) → j < k → get_or (counted f i k) j 0 ≡ f (i + j)
unfolding counted
counted-at f i zero j h = absurd (omega arith)
counted-at f i (suc k) zero h = ap f (sym (add-zero i))
counted-at f i (suc k) (suc j) h = counted-at f (suc i) k j (omega arith) ∙ ap f (omega arith)

pub counted-last : (f : ℕ → ℕ) (i k : ℕ) → counted f i (suc k) ≡ counted f i k ++ (f (i + k) ∷ [])
unfolding counted
counted-last f i zero = ap (λ (x : ℕ). f x ∷ []) (sym (add-zero i))
counted-last f i (suc k) = ap (λ (l : List ℕ). f i ∷ l) (counted-last f (suc i) k ∙ ap (λ (x : ℕ). counted f (suc i) k ++ (f x ∷ [])) (omega arith))

abbrev pub filled : (ℕ → ℕ) → ℕ → List ℕ → List ℕ
filled f n l = counted f 0 n ++ drop n l

pub record Filling (f : ℕ → ℕ) (l₀ l : List ℕ) (i : ℕ) : Type 0 where
  pub within : i ≤ length l₀
  pub now-is : l ≡ filled f i l₀

pub filling-start : (f : ℕ → ℕ) (l : List ℕ) → Filling f l l 0
unfolding counted
filling-start f l = record { within = omega arith; now-is = refl }

pub filling-length : (f : ℕ → ℕ) (l₀ l : List ℕ) (i : ℕ) → Filling f l₀ l i → length l ≡ length l₀
filling-length f l₀ l i g =
    ap length g.now-is ∙ length-append (counted f 0 i) (drop i l₀) ∙ rw (length-counted f 0 i, length-drop i l₀) (omega (arith, g.within))

pub filling-next : (f : ℕ → ℕ) (l₀ l : List ℕ) (i v : ℕ) → i < length l₀ → v ≡ f i → Filling f l₀ l i → Filling f l₀ (set l i v) (i + 1)
filling-next f l₀ l i v h e g = record {
  within = omega arith;
  now-is =
      rw (g.now-is, drop-cons l₀ i 0 h)
      (set_at (counted f 0 i) (get_or l₀ i 0) (drop (suc i) l₀) v i (length-counted f 0 i)
      ∙ rw (add-one i, counted-last f 0 i, append_assoc, zero-add i, e));
}
