-- LAWS OF AN ANSWER IN BYTES.
--     tick-halves           eight bytes of a tick are four of its lower half and four of its upper
--     told                  the five stores of an answer, its tick in halves
--     told_whole            its four stores
-- Assumes nothing.
use Rattle.std.specs.Prelude.{◌≡◌, List, ◌++◌, ℕ, ◌/◌, ◌%◌, ◌≤◌, length, drop}
use Rattle.std.proofs.Common.{ap, ◌∙◌, arith}
use Rattle.std.proofs.lemmas.List.Edits.{sets, sets-eq}
use Rattle.words.specs.declared.Answer.{Answer}
use Rattle.sheets.specs.Bytes.{bytes, value}
use Rattle.sheets.specs.ByteLaws.{bytes-value}
use Rattle.sheets.specs.Pieces.{bytes-are}
use Rattle.telling.specs.Shown.{answer_bytes, shown}

low_value : (t : ℕ) → value (bytes 4 t) ≡ t % 4294967296
unfolding bytes value
low_value t = omega arith

low-bytes : (t : ℕ) → bytes 4 (t % 4294967296) ≡ bytes 4 t
unfolding bytes
low-bytes t = rw (← low_value t) (bytes-value (bytes 4 t) (bytes-are 4 t))

pub tick-halves : (t : ℕ) → bytes 4 (t % 4294967296) ++ bytes 4 (t / 4294967296) ≡ bytes 8 t
unfolding bytes
tick-halves t =
    let e : t / 4294967296 ≡ t / 256 / 256 / 256 / 256 = omega arith in
    ap (λ (z : List ℕ). z ++ bytes 4 (t / 4294967296)) (low-bytes t) ∙ rw e

pub told : (l₀ l₁ l₂ l₃ l₄ l₅ : List ℕ) (a : Answer) → answer_bytes ≤ length l₀
    → l₁ ≡ sets l₀ 0 (bytes 4 a.number) → l₂ ≡ sets l₁ 4 (bytes 4 a.index) → l₃ ≡ sets l₂ 8 (bytes 4 a.second)
    → l₄ ≡ sets l₃ 12 (bytes 4 (a.tick % 4294967296)) → l₅ ≡ sets l₄ 16 (bytes 4 (a.tick / 4294967296)) → l₅ ≡ shown a ++ drop answer_bytes l₀
unfolding shown bytes
told l₀ l₁ l₂ l₃ l₄ l₅ a room e₁ e₂ e₃ e₄ e₅ =
    rw (e₅, e₄, e₃, e₂, e₁)
    (ap (λ (z : List ℕ). sets l₀ 0 (bytes 4 a.number ++ (bytes 4 a.index ++ (bytes 4 a.second ++ z)))) (tick-halves a.tick) ∙ sets-eq (shown a) l₀ 0 room)

pub told_whole : (l₀ l₁ l₂ l₃ l₄ : List ℕ) (a : Answer) → answer_bytes ≤ length l₀
    → l₁ ≡ sets l₀ 0 (bytes 4 a.number) → l₂ ≡ sets l₁ 4 (bytes 4 a.index) → l₃ ≡ sets l₂ 8 (bytes 4 a.second)
    → l₄ ≡ sets l₃ 12 (bytes 8 a.tick) → l₄ ≡ shown a ++ drop answer_bytes l₀
unfolding shown bytes
told_whole l₀ l₁ l₂ l₃ l₄ a room e₁ e₂ e₃ e₄ = rw (e₄, e₃, e₂, e₁) (sets-eq (shown a) l₀ 0 room)
