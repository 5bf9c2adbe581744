-- WHAT THE THREE EXPORTS PROMISE, in words of specs/ alone: specs/Exports has the promise `Exports`, crate questions what a book answers.
--     export-unique             two results that meet the promise are one: the number that comes back and all lent bytes
--     export-total              every book and every lent bytes have one
--     export-short              with fewer than 20 bytes it is 7, and nothing is written
--     export-reads, reads-export    it is the same as reading the book and then making the library's call
--     check-, holder-, next-start-export-numbers    the numbers that it can give: never 1, 2 or 24
-- Assumes nothing.
use mathlib.Core.Path.{◌≡◌, refl, sym, ap, subst, ◌∙◌}
use mathlib.Core.Logic.{◌⊎◌, inl, inr, ⊎_elim}
use mathlib.Core.List.{List, [], ◌∷◌, ◌++◌}
use Prim.Native.Nat.{ℕ, ◌≤◌, ◌<◌}
use native.Mathlib.Decide.{ℕ_discrete}
use lib.ListN.{length, take, drop}
use Rattle.lists.specs.Pick.{In, in_left, in_right}
use Rattle.lists.specs.Refusals.{Silents, whole, First, first-unique, first-numbers, first_rest, rest-first}
use Rattle.words.specs.declared.Answer.{Answer}
use Rattle.words.specs.Answers.{refused}
use Rattle.words.specs.Ticks.{TooLate}
use Rattle.probes.specs.Table.{widths}
use Rattle.sheets.specs.Layout.{first_edition, most_n}
use Rattle.volumes.specs.Reading.{n_of, column, Columns, Reads}
use Rattle.sheets.proofs.Loading.{length-column}
use Rattle.meetings.specs.Check.{Judged, Checks}
use Rattle.hours.specs.Timetable.{ask_lines, HeldBy, Holder, NextStart, NextFrom}
use Rattle.telling.specs.Shown.{answer_bytes, shown}
use Rattle.questions.specs.declared.Question.{Question}
use Rattle.questions.specs.declared.Question.TheVariants.{IsClean, HolderAt, StartFrom}
use Rattle.questions.specs.Carrying.{Refused, first-split}
use Rattle.questions.specs.Replies.{book_lines, periods_in, lengths_in, starts_in, Replies, Answers}
use Rattle.questions.specs.Opening.{book-numbers, silent-few, Opened, reads-refused, reads-opened}
use Rattle.questions.proofs.Asking.{answers-unique}
use Rattle.exports.specs.Exports.{Given, given, export_lines, refused_export, ToldOf, Exports, export_of}
use Rattle.exports.specs.Laws.{exports-short, export-meets}
use Rattle.exports.specs.Numbers.{list-numbers}

module _ (q : Question) (bs out : List ℕ) where
  one_told : (a b : Given) → ToldOf q bs out a → ToldOf q bs out b → a ≡ b
  one_told a b (x, p, e) (y, r, f) = e ∙ ap (λ (z : Answer). given z.number (shown z ++ drop answer_bytes out)) (answers-unique q bs x y p r) ∙ sym f

  pub export-unique : (a b : Given) → Exports q bs out a → Exports q bs out b → a ≡ b
  unfolding Exports
  export-unique = first-unique (export_lines q bs out) (refused_export q bs out) (ToldOf q bs out) one_told

  pub export-total : Exports q bs out (export_of q bs out)
  export-total = export-meets q bs out

  pub export-short : (o : Given) → Exports q bs out o → length out < answer_bytes → o ≡ given 7 out
  export-short o p h = export-unique o (given 7 out) p (exports-short q bs out h)

-- a book is read into columns that are long enough; then the refusal is the answer, or the library's call on the first n entries gives it
module _ (q : Question) (bs Ts ps ss : List ℕ) (long-T : most_n ≤ length Ts) (long-p : most_n ≤ length ps) (long-s : most_n ≤ length ss) (o : Columns) (r : Reads first_edition bs Ts ps ss o) where
  abbrev pub ReadThenAsked : Answer → Type 0
  ReadThenAsked a =
      ((o.answer.number ≡ 0 → ⊥) × (a ≡ o.answer))
      ⊎ ((o.answer.number ≡ 0) × Replies q (take o.answer.index o.periods) (take o.answer.index o.lengths) (take o.answer.index o.starts) a)

  opened-index : Opened bs o → o.answer.index ≡ n_of bs
  opened-index p = ap (λ (x : Answer). x.index) p.answer

  pub reads-export : (a : Answer) → ReadThenAsked a → Answers q bs a
  unfolding Answers
  reads-export a (inl (d, e)) =
      rw e
      (reads-refused bs Ts ps ss long-T long-p long-s o r (λ (c : Columns). c.answer) refused (Replies q (periods_in bs) (lengths_in bs) (starts_in bs)) (λ k i. refl) d)
  reads-export a (inr (z, p)) =
      let (s, op) = reads-opened bs Ts ps ss long-T long-p long-s o r z in
      rest-first (book_lines bs) refused (Replies q (periods_in bs) (lengths_in bs) (starts_in bs)) a s
      (rw (opened-index op, op.periods, op.lengths, op.starts) at p)

  pub export-reads : (a : Answer) → Answers q bs a → ReadThenAsked a
  unfolding Answers
  export-reads a p = by (ℕ_discrete o.answer.number 0)
    where
      by : Dec (o.answer.number ≡ 0) → ReadThenAsked a
      by (no d) = inl (d, answers-unique q bs a o.answer p (reads-export o.answer (inl (d, refl))))
      by (yes z) =
          let (s, op) = reads-opened bs Ts ps ss long-T long-p long-s o r z in
          inr (z, rw (opened-index op, op.periods, op.lengths, op.starts) (first_rest (book_lines bs) refused (Replies q (periods_in bs) (lengths_in bs) (starts_in bs)) a s p))

-- numbers
module _ (bs : List ℕ) (a : Answer) where
  same-lengths : (f g : ℕ) → length (column first_edition bs f 0 (n_of bs)) ≡ length (column first_edition bs g 0 (n_of bs))
  same-lengths f g = length-column first_edition bs f 0 (n_of bs) ∙ sym (length-column first_edition bs g 0 (n_of bs))

  few-periods : Silents (book_lines bs) → length (periods_in bs) ≤ most_n
  few-periods s = rw (length-column first_edition bs 0 0 (n_of bs)) (silent-few bs s)

  refused-number : (xs : List ℕ) → Refused (book_lines bs) refused a → In a.number ((20 ∷ 21 ∷ 22 ∷ 23 ∷ []) ++ xs)
  refused-number xs p =
      in_left a.number (20 ∷ 21 ∷ 22 ∷ 23 ∷ []) xs
      (⊎_elim (book-numbers bs a.number) absurd (first-numbers (λ (r : Answer). r.number) (book_lines bs) refused (λ r. ⊥) (λ k i. refl) a p))

  check-numbers : Answers IsClean bs a → In a.number (20 ∷ 21 ∷ 22 ∷ 23 ∷ 3 ∷ 4 ∷ 5 ∷ 6 ∷ 9 ∷ 0 ∷ 10 ∷ [])
  unfolding Answers Replies Checks Judged In
  check-numbers p =
      ⊎_elim (refused-number (3 ∷ 4 ∷ 5 ∷ 6 ∷ 9 ∷ 0 ∷ 10 ∷ []))
      (λ (s, c). in_right a.number (20 ∷ 21 ∷ 22 ∷ 23 ∷ []) (3 ∷ 4 ∷ 5 ∷ 6 ∷ 9 ∷ 0 ∷ 10 ∷ [])
      (⊎_elim (in_left a.number (3 ∷ 4 ∷ 5 ∷ 6 ∷ 9 ∷ []) (0 ∷ 10 ∷ []))
      (⊎_elim (λ j. in_right a.number (3 ∷ 4 ∷ 5 ∷ 6 ∷ 9 ∷ []) (0 ∷ 10 ∷ []) (inl (rw j.1 refl)))
      (λ m. in_right a.number (3 ∷ 4 ∷ 5 ∷ 6 ∷ 9 ∷ []) (0 ∷ 10 ∷ []) (inr (inl (rw m.4 refl)))))
      (list-numbers (periods_in bs) (lengths_in bs) (starts_in bs) [] (Judged (periods_in bs) (widths 0 (lengths_in bs)) (starts_in bs)) a (same-lengths 0 1) (same-lengths 0 2) (few-periods s) c)))
      (first-split (book_lines bs) refused (Replies IsClean (periods_in bs) (lengths_in bs) (starts_in bs)) a p)

  -- of both questions about a tick
  asked-numbers : (t : ℕ) (Rest : Answer → Type 0) → (Rest a → a.number ≡ 0) → Silents (book_lines bs)
      → First (ask_lines (periods_in bs) (lengths_in bs) (starts_in bs) t) refused Rest a → In a.number (3 ∷ 4 ∷ 5 ∷ 6 ∷ 9 ∷ 11 ∷ 0 ∷ [])
  unfolding In
  asked-numbers t Rest zero_is s c =
      ⊎_elim (in_left a.number (3 ∷ 4 ∷ 5 ∷ 6 ∷ 9 ∷ 11 ∷ []) (0 ∷ []))
      (λ r. in_right a.number (3 ∷ 4 ∷ 5 ∷ 6 ∷ 9 ∷ 11 ∷ []) (0 ∷ []) (inl (zero_is r)))
      (list-numbers (periods_in bs) (lengths_in bs) (starts_in bs) (whole 11 (TooLate t) ∷ []) Rest a (same-lengths 0 1) (same-lengths 0 2) (few-periods s) c)

  holder-numbers : (t : ℕ) → Answers (HolderAt t) bs a → In a.number (20 ∷ 21 ∷ 22 ∷ 23 ∷ 3 ∷ 4 ∷ 5 ∷ 6 ∷ 9 ∷ 11 ∷ 0 ∷ [])
  unfolding Answers Replies Holder HeldBy
  holder-numbers t p =
      ⊎_elim (refused-number (3 ∷ 4 ∷ 5 ∷ 6 ∷ 9 ∷ 11 ∷ 0 ∷ []))
      (λ (s, c). in_right a.number (20 ∷ 21 ∷ 22 ∷ 23 ∷ []) (3 ∷ 4 ∷ 5 ∷ 6 ∷ 9 ∷ 11 ∷ 0 ∷ [])
      (asked-numbers t (HeldBy (periods_in bs) (widths 0 (lengths_in bs)) (starts_in bs) t) (λ h. ap (λ (r : Answer). r.number) h.2) s c))
      (first-split (book_lines bs) refused (Replies (HolderAt t) (periods_in bs) (lengths_in bs) (starts_in bs)) a p)

  next-start-numbers : (t : ℕ) → Answers (StartFrom t) bs a → In a.number (20 ∷ 21 ∷ 22 ∷ 23 ∷ 3 ∷ 4 ∷ 5 ∷ 6 ∷ 9 ∷ 11 ∷ 0 ∷ [])
  unfolding Answers Replies NextFrom NextStart
  next-start-numbers t p =
      ⊎_elim (refused-number (3 ∷ 4 ∷ 5 ∷ 6 ∷ 9 ∷ 11 ∷ 0 ∷ []))
      (λ (s, c). in_right a.number (20 ∷ 21 ∷ 22 ∷ 23 ∷ []) (3 ∷ 4 ∷ 5 ∷ 6 ∷ 9 ∷ 11 ∷ 0 ∷ [])
      (asked-numbers t (NextStart (periods_in bs) (starts_in bs) t) (⊎_elim (λ h. ap (λ (r : Answer). r.number) h.1) (λ h. ap (λ (r : Answer). r.number) h.3)) s c))
      (first-split (book_lines bs) refused (Replies (StartFrom t) (periods_in bs) (lengths_in bs) (starts_in bs)) a p)

-- the number that comes back is 7, or the number of the book's answer
export-number : (q : Question) (bs out : List ℕ) (ns : List ℕ) → ((a : Answer) → Answers q bs a → In a.number ns) → (o : Given) → Exports q bs out o → In o.number (7 ∷ ns)
unfolding Exports First In
export-number q bs out ns each o (inl (i, at, e)) = inl (ap (λ (g : Given). g.number) e)
export-number q bs out ns each o (inr (s, (a, p, e))) = inr (subst (λ (k : ℕ). In k ns) (sym (ap (λ (g : Given). g.number) e)) (each a p))

module _ (bs out : List ℕ) (o : Given) where
  pub check-export-numbers : Exports IsClean bs out o → In o.number (7 ∷ 20 ∷ 21 ∷ 22 ∷ 23 ∷ 3 ∷ 4 ∷ 5 ∷ 6 ∷ 9 ∷ 0 ∷ 10 ∷ [])
  check-export-numbers = export-number IsClean bs out (20 ∷ 21 ∷ 22 ∷ 23 ∷ 3 ∷ 4 ∷ 5 ∷ 6 ∷ 9 ∷ 0 ∷ 10 ∷ []) (check-numbers bs) o

  pub holder-export-numbers : (t : ℕ) → Exports (HolderAt t) bs out o → In o.number (7 ∷ 20 ∷ 21 ∷ 22 ∷ 23 ∷ 3 ∷ 4 ∷ 5 ∷ 6 ∷ 9 ∷ 11 ∷ 0 ∷ [])
  holder-export-numbers t = export-number (HolderAt t) bs out (20 ∷ 21 ∷ 22 ∷ 23 ∷ 3 ∷ 4 ∷ 5 ∷ 6 ∷ 9 ∷ 11 ∷ 0 ∷ []) (λ a. holder-numbers bs a t) o

  pub next-start-export-numbers : (t : ℕ) → Exports (StartFrom t) bs out o → In o.number (7 ∷ 20 ∷ 21 ∷ 22 ∷ 23 ∷ 3 ∷ 4 ∷ 5 ∷ 6 ∷ 9 ∷ 11 ∷ 0 ∷ [])
  next-start-export-numbers t = export-number (StartFrom t) bs out (20 ∷ 21 ∷ 22 ∷ 23 ∷ 3 ∷ 4 ∷ 5 ∷ 6 ∷ 9 ∷ 11 ∷ 0 ∷ []) (λ a. next-start-numbers bs a t) o
