-- THE LINES OF THE PROBES, PIECE BY PIECE.
--     mark_text, number_text    the text of the mark, and of any other start
--     probe_text                three numbers, a space, the start, and a newline
--     numbers_short, start_short    the room that they take
--     lines_none, lines_next    no line, and one line more
-- Assumes nothing.
use Rattle.std.specs.Prelude.{◌≡◌, ◌≢◌, refl, List, [], ◌∷◌, ◌++◌, ℕ, ◌+◌, ◌<◌, ◌≤◌, length, get_or}
use Rattle.std.proofs.Common.{append_assoc, arith, length-append, ne_eqb, zero-add}
use Rattle.std.proofs.Math.Decide.{ℕ_discrete}
use Rattle.words.specs.Answers.{mark}
use Rattle.text.specs.declared.Printer.{Printer}
use Rattle.text.specs.Text.{letters, decimal, spaced, printed_line}
use Rattle.text.specs.TextLaws.{decimal-word}
use Rattle.text.specs.Printing.{Puts, puts_none, puts_on}
use Rattle.lines.specs.Lines.{start_text, probe_line, probe_lines}
use Rattle.lines.specs.Laws.{probes-next}

pub mark_text : start_text mark ≡ 45 ∷ []
unfolding start_text letters
mark_text = refl

pub number_text : (s : ℕ) → s ≢ mark → start_text s ≡ decimal s
unfolding start_text
number_text s n = rw (ne_eqb s mark n)

pub probe_text : (i T p s : ℕ) → spaced (decimal i ∷ decimal T ∷ decimal p ∷ []) ++ (32 ∷ (start_text s ++ (10 ∷ []))) ≡ probe_line i T p s
unfolding probe_line printed_line spaced letters
probe_text i T p s = simp append_assoc

pub numbers_short : (i T p : ℕ) → i < 4294967296 → T < 4294967296 → p < 4294967296 → length (spaced (decimal i ∷ decimal T ∷ decimal p ∷ [])) ≤ 32
unfolding spaced letters
numbers_short i T p a b c = simp length-append (omega (arith, decimal-word i a, decimal-word T b, decimal-word p c))

pub start_short : (s : ℕ) → s < 4294967296 → length (start_text s) ≤ 10
start_short s h = by (ℕ_discrete s mark)
  where
    by : Dec (s ≡ mark) → length (start_text s) ≤ 10
    by (yes e) = rw (e, mark_text) (omega arith)
    by (no n) = rw (number_text s n) (decimal-word s h)

pub lines_none : (Ts ps ss : List ℕ) (p : Printer) → Puts p (probe_lines Ts ps ss 0 0) p
unfolding probe_lines
lines_none Ts ps ss p = puts_none p

pub lines_next : (Ts ps ss : List ℕ) (i : ℕ) {before mid after : Printer} → Puts before (probe_lines Ts ps ss 0 i) mid
    → Puts mid (probe_line i (get_or Ts i 0) (get_or ps i 0) (get_or ss i 0)) after → Puts before (probe_lines Ts ps ss 0 (i + 1)) after
lines_next Ts ps ss i p q = rw (probes-next Ts ps ss 0 i, zero-add i) (puts_on p q)
