-- THE NUMBERS THAT A BOOK CAN ANSWER: never 1, 2 or 24, since the columns of a book that is read are of one length and of at most 256 entries.
--     list-numbers          of columns of one length with at most 256 entries: the lines 3, 4, 5, 6 and 9, those behind them, or the rest
-- Assumes nothing.
use Rattle.std.specs.Prelude.{◌≡◌, refl, ◌⊎◌, List, ◌∷◌, ◌++◌, ℕ, ◌≤◌, ◌<◌, length}
use Rattle.std.proofs.Common.{inl, inr, ⊎_elim, arith}
use Rattle.lists.specs.Pick.{In}
use Rattle.lists.specs.Refusals.{Line, line, whole, numbers, First, first-numbers}
use Rattle.words.specs.declared.Answer.{Answer}
use Rattle.words.specs.Answers.{refused}
use Rattle.probes.specs.Table.{most_probes, most_rows, rows, BadPeriod, BadLength, Unchained, late_line, list_lines}

pub list-numbers : (Ts ps ss : List ℕ) (ms : List Line) (Rest : Answer → Type 0) (a : Answer) → length Ts ≡ length ps → length Ts ≡ length ss → length Ts ≤ most_probes
    → First (list_lines Ts ps ss ++ ms) refused Rest a → In a.number (3 ∷ 4 ∷ 5 ∷ 6 ∷ 9 ∷ numbers ms) ⊎ Rest a
unfolding First
list-numbers Ts ps ss ms Rest a e f few (inl (i, at, r)) = absurd (⊎_elim (λ d. d f) (λ d. d e) (at.1.found at.0))
list-numbers Ts ps ss ms Rest a e f few (inr (s, inl (i, at, r))) = absurd (omega (arith, at.1.found at.0))
list-numbers Ts ps ss ms Rest a e f few (inr (s, inr (s₂, p))) =
    first-numbers (λ (r : Answer). r.number)
    (line 3 (length Ts) (BadPeriod Ts ps) ∷ line 4 (length Ts) (BadLength Ts ps) ∷ line 5 (length Ts) (Unchained Ts ps) ∷ whole 6 (most_rows < rows Ts) ∷ late_line Ts ss ∷ ms)
    refused Rest (λ k i. refl) a p
