-- LAWS OF NUMBERS WITH ONE SPACE BETWEEN THEM.
--     after_first           a space and its digits for each number that follows the first
--     numbers_none          no number is no text
--     numbers_spaced        else the first number's digits, and what is after them
--     numbers_next          one number more after the first
--     numbers_length        their length
--     numbers_room          the room that is left for one more after the first
--     line_length           a line of numbers is as long as they are with a byte behind each
-- Assumes nothing.
use Rattle.std.specs.Prelude.{◌≡◌, refl, List, [], ◌∷◌, ◌++◌, ℕ, suc, ◌+◌, ◌≤◌, ◌<◌, length, map, sum_by, flat_map, take, get_or}
use Rattle.std.proofs.Common.{sym, ap, ◌∙◌, append-nil, arith, length-append}
use Rattle.std.proofs.lemmas.List.{take_more}
use Rattle.std.proofs.lemmas.List.Concat.{length-flat_map}
use Rattle.std.proofs.lemmas.List.Folds.{length-flat_map-take}
use Rattle.std.proofs.lemmas.Grind.{flat_map-append}
use Rattle.text.specs.declared.Printer.{Printer}
use Rattle.text.specs.Text.{letters, decimal, spaced, printed_line}
use Rattle.text.specs.Printing.{Puts, puts_length}

abbrev pub after_first : List ℕ → List ℕ
after_first ys = flat_map (λ y. 32 ∷ decimal y) ys

pub numbers_none : (ns : List ℕ) → length ns ≡ 0 → spaced (map decimal ns) ≡ []
unfolding spaced
numbers_none [] e = refl
numbers_none (n ∷ ns) e = absurd (omega arith)

spaced-first : (x : ℕ) (ys : List ℕ) → spaced (map decimal (x ∷ ys)) ≡ decimal x ++ after_first ys
unfolding letters spaced
spaced-first x [] = sym (append-nil (decimal x))
spaced-first x (y ∷ ys) = ap (λ (l : List ℕ). decimal x ++ (32 ∷ l)) (spaced-first y ys)

pub numbers_spaced : {ns : List ℕ} (x : ℕ) (ys : List ℕ) → ns ≡ x ∷ ys → spaced (map decimal ns) ≡ decimal x ++ after_first ys
numbers_spaced x ys e = rw e (spaced-first x ys)

pub numbers_length : {ns : List ℕ} (x : ℕ) (ys : List ℕ) → ns ≡ x ∷ ys → length (spaced (map decimal ns)) ≡ length (decimal x) + length (after_first ys)
numbers_length x ys e = rw (numbers_spaced x ys e) (length-append (decimal x) (after_first ys))

pub numbers_next : (ys : List ℕ) (i : ℕ) → i < length ys → after_first (take (i + 1) ys) ≡ after_first (take i ys) ++ (32 ∷ decimal (get_or ys i 0))
numbers_next ys i h = ap after_first (take_more ys i 0 h) ∙ flat_map-append (λ y. 32 ∷ decimal y) (take i ys) (get_or ys i 0 ∷ []) ∙ ap (λ (l : List ℕ). after_first (take i ys) ++ (32 ∷ l)) (append-nil (decimal (get_or ys i 0)))

pub numbers_room : {ns : List ℕ} {before mid after : Printer} (x : ℕ) (ys : List ℕ) (i : ℕ) → ns ≡ x ∷ ys → before.at + length (spaced (map decimal ns)) ≤ length before.page.now
    → Puts before (decimal x) mid → Puts mid (after_first (take i ys)) after → i < length ys → after.at + length (32 ∷ decimal (get_or ys i 0)) ≤ length after.page.now
numbers_room x ys i e room p q h =
    omega (arith, room, numbers_length x ys e, p.put.place, puts_length p, q.put.place, puts_length q, length-flat_map-take (λ y. 32 ∷ decimal y) ys i 0 h)

pub line_length : (n : ℕ) (ns : List ℕ) → length (printed_line (map decimal (n ∷ ns))) ≡ suc (length (decimal n)) + sum_by (λ m. suc (length (decimal m))) ns
unfolding letters printed_line
line_length n ns = omega (arith, length-append (spaced (map decimal (n ∷ ns))) (10 ∷ []), numbers_length {ns = n ∷ ns} n ns refl, length-flat_map (λ y. 32 ∷ decimal y) ns)
