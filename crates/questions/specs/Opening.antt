-- A BOOK THAT IS OPENED: read into columns of at least 256 entries, it is refused by one of its lines, or its columns are there.
--     book-numbers              the numbers of the book's lines
--     silent-few                where no line applies, the book has at most 256 probes
--     Opened bs o               what a done reading leaves: n, and the book's columns in the first n entries
--     reads-refused             a reading with another number than 0 is the refusal of a line of the book
--     reads-opened              a reading with number 0 shows that no line applies
-- Assumes nothing.
use Rattle.std.specs.Prelude.{◌≡◌, ◌⊎◌, length}
use Rattle.std.proofs.Math.Path.{refl, ap}
use Rattle.std.proofs.Common.{◌∙◌}
use Rattle.std.proofs.Math.Logic.{inl, inr, ⊎_elim}
use mathlib.Core.List.{List, [], ◌∷◌, ◌++◌, append-nil}
use Prim.Native.Nat.{ℕ, zero, suc, ◌≤◌}
use Rattle.std.proofs.Math.Decide.{dec_le}
use native.Mathlib.Omega.{arith}
use Rattle.std.proofs.Math.ListN.{take, drop}
use Rattle.std.proofs.Math.Seq.{take_at}
use Rattle.lists.specs.Pick.{In}
use Rattle.lists.specs.Refusals.{numbers, whole, First, Silents, first-numbers, first-parts}
use Rattle.words.specs.declared.Answer.{Answer}
use Rattle.words.specs.Answers.{refused}
use Rattle.sheets.specs.Layout.{first_edition, most_n}
use Rattle.volumes.specs.Reading.{blocks_in, n_of, block_lines, column, Columns, ShortColumn, refused_read, done_read, Reads}
use Rattle.sheets.specs.BlocksLaws.{RightSize}
use Rattle.sheets.proofs.BlocksLaws.{right-size, block-numbers}
use Rattle.sheets.proofs.Loading.{length-column}
use Rattle.questions.specs.Carrying.{Refused, first-split, first-carry}
use Rattle.questions.specs.Replies.{book_lines, periods_in, lengths_in, starts_in}

module _ (bs : List ℕ) where
  pub book-numbers : (x : ℕ) → In x (numbers (book_lines bs)) → In x (20 ∷ 21 ∷ 22 ∷ 23 ∷ [])
  unfolding In
  book-numbers x (inl e) = inl e
  book-numbers x (inr h) = inr (block-numbers first_edition bs [] x 0 (blocks_in bs) (rw (append-nil (block_lines first_edition bs 0 (blocks_in bs))) h))

  first_block : RightSize first_edition bs → (k : ℕ) → blocks_in bs ≡ k → Silents (block_lines first_edition bs 0 k) → n_of bs ≤ most_n
  unfolding Silents block_lines blocks_in
  first_block size zero e s = absurd (omega (arith, size.some, size.whole))
  first_block size (suc k) e (s₁, (s₂, s)) = by (dec_le (n_of bs) most_n)
    where
      by : Dec (n_of bs ≤ most_n) → n_of bs ≤ most_n
      by (yes h) = h
      by (no h) = absurd (s₂ 0 (omega arith) (refl, inl (omega arith)))

  pub silent-few : Silents (book_lines bs) → n_of bs ≤ most_n
  unfolding Silents
  silent-few (s, ss) = first_block (right-size first_edition bs (s 0 (omega arith))) (blocks_in bs) refl ss

  pub record Opened (o : Columns) : Type 0 where
    pub answer : o.answer ≡ refused 0 (n_of bs)
    pub few : n_of bs ≤ most_n
    pub periods : take (n_of bs) o.periods ≡ periods_in bs
    pub lengths : take (n_of bs) o.lengths ≡ lengths_in bs
    pub starts : take (n_of bs) o.starts ≡ starts_in bs

  module _ (Ts ps ss : List ℕ) (long-T : most_n ≤ length Ts) (long-p : most_n ≤ length ps) (long-s : most_n ≤ length ss) (o : Columns) (r : Reads first_edition bs Ts ps ss o) where
    -- number 24 does not come up
    not_short : n_of bs ≤ most_n → ShortColumn first_edition bs Ts ps ss → ⊥
    not_short few (inl h) = omega arith
    not_short few (inr (inl h)) = omega arith
    not_short few (inr (inr h)) = omega arith

    done-opened : n_of bs ≤ most_n → o ≡ done_read first_edition bs Ts ps ss → Opened o
    unfolding done_read
    done-opened few e =
        let cut : (f : ℕ) (xs : List ℕ) → take (n_of bs) (column first_edition bs f 0 (n_of bs) ++ drop (n_of bs) xs) ≡ column first_edition bs f 0 (n_of bs) =
        λ f xs. take_at (column first_edition bs f 0 (n_of bs)) (drop (n_of bs) xs) (n_of bs) (length-column first_edition bs f 0 (n_of bs)) in
        record {
          answer = ap (λ (c : Columns). c.answer) e;
          few = few;
          periods = ap (λ (c : Columns). take (n_of bs) c.periods) e ∙ cut 0 Ts;
          lengths = ap (λ (c : Columns). take (n_of bs) c.lengths) e ∙ cut 1 ps;
          starts = ap (λ (c : Columns). take (n_of bs) c.starts) e ∙ cut 2 ss;
        }

    -- refused by a line of the book, or opened
    pub reads-split : Refused (book_lines bs) (refused_read first_edition bs Ts ps ss) o ⊎ (Silents (book_lines bs) × Opened o)
    unfolding Reads First
    reads-split =
        ⊎_elim inl (λ (s, p). inr (s, done-opened (silent-few s) (last (silent-few s) p)))
        (first-split (book_lines bs) (refused_read first_edition bs Ts ps ss)
        (First (whole 24 (ShortColumn first_edition bs Ts ps ss) ∷ []) (refused_read first_edition bs Ts ps ss) (λ c. c ≡ done_read first_edition bs Ts ps ss)) o
        (first-parts (book_lines bs) (whole 24 (ShortColumn first_edition bs Ts ps ss) ∷ []) (refused_read first_edition bs Ts ps ss) (λ c. c ≡ done_read first_edition bs Ts ps ss) o r))
      where
        last : n_of bs ≤ most_n → First (whole 24 (ShortColumn first_edition bs Ts ps ss) ∷ []) (refused_read first_edition bs Ts ps ss) (λ c. c ≡ done_read first_edition bs Ts ps ss) o → o ≡ done_read first_edition bs Ts ps ss
        last few (inl (i, at, e)) = absurd (not_short few (at.1.found at.0))
        last few (inr (s, e)) = e

    -- no line of the book gives 0
    refused-other : Refused (book_lines bs) (refused_read first_edition bs Ts ps ss) o → o.answer.number ≡ 0 → ⊥
    unfolding In
    refused-other p z =
        ⊎_elim (λ h. never (book-numbers o.answer.number h)) (λ h. h)
        (first-numbers (λ (c : Columns). c.answer.number) (book_lines bs) (refused_read first_edition bs Ts ps ss) (λ c. ⊥) (λ k i. refl) o p)
      where
        never : In o.answer.number (20 ∷ 21 ∷ 22 ∷ 23 ∷ []) → ⊥
        never (inl e) = omega arith
        never (inr (inl e)) = omega arith
        never (inr (inr (inl e))) = omega arith
        never (inr (inr (inr (inl e)))) = omega arith
        never (inr (inr (inr (inr h)))) = h

    pub reads-refused : {P : Type 0} (f : Columns → P) (again : ℕ → ℕ → P) (Rest : P → Type 0) → ((k i : ℕ) → f (refused_read first_edition bs Ts ps ss k i) ≡ again k i)
        → (o.answer.number ≡ 0 → ⊥) → First (book_lines bs) again Rest (f o)
    reads-refused f again Rest same d =
        ⊎_elim (first-carry f (book_lines bs) (refused_read first_edition bs Ts ps ss) again Rest o same)
        (λ (s, p). absurd (d (ap (λ (a : Answer). a.number) p.answer))) reads-split

    pub reads-opened : o.answer.number ≡ 0 → Silents (book_lines bs) × Opened o
    reads-opened z = ⊎_elim (λ p. absurd (refused-other p z)) (λ h. h) reads-split
