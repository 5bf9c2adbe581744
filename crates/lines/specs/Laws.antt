-- LAWS OF PRINTED LINES: how they are put field by field.
--     most_line, most_check       44 bytes for a line of four 32-bit numbers; 54 where the last has 64 bits
--     line_on                   a field, a space and a line are a line
--     answer-put, check-put, head-put, probe-put    the fields of each line, put one after another
--     start-put, mark-put       a start, and `-` for the mark
--     probes-next, probes-put, probes-none   one line more, and none
-- Assumes nothing.
use Rattle.std.specs.Prelude.{◌≡◌, refl, List, [], ◌∷◌, ◌++◌, ℕ, zero, suc, ◌+◌, get_or, set}
use Rattle.std.proofs.Common.{sym, ap, ◌∙◌, append_assoc, append-nil, add-zero, zero-add, add-one, arith, eq-eqb, ne_eqb}
use Rattle.words.specs.declared.Answer.{Answer}
use Rattle.words.specs.Answers.{mark}
use Rattle.text.specs.Text.{letters, decimal, spaced, printed_line}
use Rattle.text.specs.Putting.{Put, put_on}
use Rattle.lines.specs.Lines.{answer_line, check_line, head_line, start_text, probe_line, probe_lines}

abbrev pub most_line : ℕ
most_line = 44

abbrev pub most_check : ℕ
most_check = 54

pub line_on : (x y : List ℕ) (ys : List (List ℕ)) → (x ++ (32 ∷ [])) ++ printed_line (y ∷ ys) ≡ printed_line (x ∷ y ∷ ys)
unfolding letters spaced printed_line
line_on x y ys =
    append_assoc x (32 ∷ []) (spaced (y ∷ ys) ++ (10 ∷ [])) ∙ sym (append_assoc x (32 ∷ spaced (y ∷ ys)) (10 ∷ []))

line-end : (x : List ℕ) → x ++ (10 ∷ []) ≡ printed_line (x ∷ [])
unfolding letters spaced printed_line
line-end x = refl

two-put : (x y : List ℕ) → (x ++ (32 ∷ [])) ++ (y ++ (10 ∷ [])) ≡ printed_line (x ∷ y ∷ [])
two-put x y = ap (λ (l : List ℕ). (x ++ (32 ∷ [])) ++ l) (line-end y) ∙ line_on x y []

three-put : (x y z : List ℕ) → (x ++ (32 ∷ [])) ++ ((y ++ (32 ∷ [])) ++ (z ++ (10 ∷ []))) ≡ printed_line (x ∷ y ∷ z ∷ [])
three-put x y z = ap (λ (l : List ℕ). (x ++ (32 ∷ [])) ++ l) (two-put y z) ∙ line_on x y (z ∷ [])

four-put : (x y z u : List ℕ) → (x ++ (32 ∷ [])) ++ ((y ++ (32 ∷ [])) ++ ((z ++ (32 ∷ [])) ++ (u ++ (10 ∷ [])))) ≡ printed_line (x ∷ y ∷ z ∷ u ∷ [])
four-put x y z u = ap (λ (l : List ℕ). (x ++ (32 ∷ [])) ++ l) (three-put y z u) ∙ line_on x y (z ∷ u ∷ [])

module _ {l₀ l₁ l₂ : List ℕ} {at a b : ℕ} where
  pub answer-put : (g : Answer) → Put l₀ at (decimal g.number ++ (32 ∷ [])) a l₁ → Put l₁ a (decimal g.index ++ (10 ∷ [])) b l₂ → Put l₀ at (answer_line g) b l₂
  unfolding answer_line
  answer-put g p q = rw (two-put (decimal g.number) (decimal g.index)) at (put_on p q)

  module _ {l₃ : List ℕ} {c : ℕ} where
    pub head-put : (k n H : ℕ) → Put l₀ at (decimal k ++ (32 ∷ [])) a l₁ → Put l₁ a (decimal n ++ (32 ∷ [])) b l₂ → Put l₂ b (decimal H ++ (10 ∷ [])) c l₃ → Put l₀ at (head_line k n H) c l₃
    unfolding head_line
    head-put k n H p q r = rw (three-put (decimal k) (decimal n) (decimal H)) at (put_on p (put_on q r))

    module _ {l₄ : List ℕ} {d : ℕ} where
      pub check-put : (g : Answer) → Put l₀ at (decimal g.number ++ (32 ∷ [])) a l₁ → Put l₁ a (decimal g.index ++ (32 ∷ [])) b l₂
          → Put l₂ b (decimal g.second ++ (32 ∷ [])) c l₃ → Put l₃ c (decimal g.tick ++ (10 ∷ [])) d l₄ → Put l₀ at (check_line g) d l₄
      unfolding check_line
      check-put g p q r s = rw (four-put (decimal g.number) (decimal g.index) (decimal g.second) (decimal g.tick)) at (put_on p (put_on q (put_on r s)))

      pub probe-put : (i T p s : ℕ) → Put l₀ at (decimal i ++ (32 ∷ [])) a l₁ → Put l₁ a (decimal T ++ (32 ∷ [])) b l₂ → Put l₂ b (decimal p ++ (32 ∷ [])) c l₃
          → Put l₃ c (start_text s ++ (10 ∷ [])) d l₄ → Put l₀ at (probe_line i T p s) d l₄
      unfolding probe_line
      probe-put i T p s e f g h = rw (four-put (decimal i) (decimal T) (decimal p) (start_text s)) at (put_on e (put_on f (put_on g h)))

-- a start, and the mark
pub start-put : (s : ℕ) {out : List ℕ} {at to : ℕ} {new : List ℕ} → (s ≡ mark → ⊥) → Put out at (decimal s ++ (10 ∷ [])) to new → Put out at (start_text s ++ (10 ∷ [])) to new
unfolding start_text
start-put s n p = rw (ne_eqb s mark n) p

pub mark-put : (s : ℕ) (out : List ℕ) (at : ℕ) → s ≡ mark → Put out at (start_text s ++ (10 ∷ [])) (at + 2) (set (set out at 45) (at + 1) 10)
unfolding start_text letters
mark-put s out at e = rw (eq-eqb s mark e, add-one at) (record { bytes = refl; place = refl })

pub probes-next : (Ts ps ss : List ℕ) (i k : ℕ) → probe_lines Ts ps ss i (k + 1) ≡ probe_lines Ts ps ss i k ++ probe_line (i + k) (get_or Ts (i + k) 0) (get_or ps (i + k) 0) (get_or ss (i + k) 0)
unfolding probe_lines
probes-next Ts ps ss i zero = append-nil (probe_line i (get_or Ts i 0) (get_or ps i 0) (get_or ss i 0)) ∙ rw (add-zero i)
probes-next Ts ps ss i (suc k) =
    let e : suc k + 1 ≡ suc (k + 1) = omega arith in
    let g : suc i + k ≡ i + suc k = omega arith in
    rw (e, ← g)
    (ap (λ (z : List ℕ). probe_line i (get_or Ts i 0) (get_or ps i 0) (get_or ss i 0) ++ z) (probes-next Ts ps ss (suc i) k)
    ∙ sym (append_assoc (probe_line i (get_or Ts i 0) (get_or ps i 0) (get_or ss i 0)) (probe_lines Ts ps ss (suc i) k) (probe_line (suc i + k) (get_or Ts (suc i + k) 0) (get_or ps (suc i + k) 0) (get_or ss (suc i + k) 0))))

pub probes-put : (Ts ps ss : List ℕ) (i : ℕ) {out : List ℕ} {from at : ℕ} {half : List ℕ} {to : ℕ} {new : List ℕ} → Put out from (probe_lines Ts ps ss 0 i) at half
    → Put half at (probe_line i (get_or Ts i 0) (get_or ps i 0) (get_or ss i 0)) to new → Put out from (probe_lines Ts ps ss 0 (i + 1)) to new
probes-put Ts ps ss i p q = rw (probes-next Ts ps ss 0 i, zero-add i) (put_on p q)

pub probes-none : (Ts ps ss out : List ℕ) (from : ℕ) → Put out from (probe_lines Ts ps ss 0 0) from out
unfolding probe_lines
probes-none Ts ps ss out from = record { bytes = refl; place = omega arith }
