-- THE LINES THAT `plan` AND `check` PRINT. Document 01, "The book": "It prints number, n, H; then per probe its number, period, length, start, with `-` for the mark."
--     answer_line a              number and index
--     check_line a               number, both indexes and tick
--     head_line k n H            number, n and H
--     probe_line i T p s         a probe's number, period, length and start
--     probe_lines Ts ps ss i k   the lines of k probes from probe i on
-- Assumes nothing.
use Rattle.std.specs.Prelude.{List, [], ◌∷◌, ◌++◌, ℕ, zero, suc, eqb, get_or}
use Rattle.lists.specs.Pick.{pick}
use Rattle.words.specs.declared.Answer.{Answer}
use Rattle.words.specs.Answers.{mark}
use Rattle.text.specs.Text.{letters, decimal, printed_line}

unfoldable pub answer_line : Answer → List ℕ
answer_line a = printed_line (decimal a.number ∷ decimal a.index ∷ [])

unfoldable pub check_line : Answer → List ℕ
check_line a = printed_line (decimal a.number ∷ decimal a.index ∷ decimal a.second ∷ decimal a.tick ∷ [])

unfoldable pub head_line : ℕ → ℕ → ℕ → List ℕ
head_line k n H = printed_line (decimal k ∷ decimal n ∷ decimal H ∷ [])

unfoldable pub start_text : ℕ → List ℕ
start_text s = pick (eqb s mark) (letters "-") (decimal s)

unfoldable pub probe_line : ℕ → ℕ → ℕ → ℕ → List ℕ
probe_line i T p s = printed_line (decimal i ∷ decimal T ∷ decimal p ∷ start_text s ∷ [])

unfoldable pub probe_lines : List ℕ → List ℕ → List ℕ → ℕ → ℕ → List ℕ
probe_lines Ts ps ss i zero = []
probe_lines Ts ps ss i (suc k) = probe_line i (get_or Ts i 0) (get_or ps i 0) (get_or ss i 0) ++ probe_lines Ts ps ss (suc i) k
