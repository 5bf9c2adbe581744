-- TEXT THAT IS PUT INTO BYTES.
--     Put out at text to new    `new` is `out` with the text at place `at`, and `to` is the place behind it
--     put-length                no byte is added or lost
--     put_on                    text put behind text is one text
--     put_one                   one byte
--     put-page                  text put at place 0 of bytes that are long enough stands before what is left of them
-- Assumes nothing.
use Rattle.std.specs.Prelude.{◌≡◌, refl, List, [], ◌∷◌, ◌++◌, ℕ, suc, ◌+◌, ◌≤◌, length, drop, set}
use Rattle.std.proofs.Common.{ap, ◌∙◌, zero-add, arith, length-set, length-append}
use Rattle.std.proofs.lemmas.List.Edits.{sets, sets-eq}
use Rattle.sheets.specs.Runs.{sets-on}

pub record Put (out : List ℕ) (at : ℕ) (text : List ℕ) (to : ℕ) (new : List ℕ) : Type 0 where
  pub bytes : new ≡ sets out at text
  pub place : to ≡ at + length text

length-sets : (l : List ℕ) (i : ℕ) (xs : List ℕ) → length (sets l i xs) ≡ length l
length-sets l i [] = refl
length-sets l i (x ∷ xs) = length-sets (set l i x) (suc i) xs ∙ length-set l i x

pub put-length : {out : List ℕ} {at : ℕ} {text : List ℕ} {to : ℕ} {new : List ℕ} → Put out at text to new → length new ≡ length out
put-length {out = out} {at = at} {text = text} p = rw p.bytes (length-sets out at text)

pub put_on : {out : List ℕ} {at : ℕ} {one : List ℕ} {mid : ℕ} {half : List ℕ} {two : List ℕ} {to : ℕ} {new : List ℕ} → Put out at one mid half → Put half mid two to new → Put out at (one ++ two) to new
put_on {out = out} {at = at} {one = one} {mid = mid} {two = two} p q = record {
  bytes = q.bytes ∙ ap (λ (l : List ℕ). sets l mid two) p.bytes ∙ sets-on out at mid one two p.place;
  place = rw (length-append one two) (omega (arith, p.place, q.place));
}

pub put_one : (out : List ℕ) (at x : ℕ) → Put out at (x ∷ []) (at + 1) (set out at x)
put_one out at x = record { bytes = refl; place = refl }

pub put-page : {out page : List ℕ} {to : ℕ} {new : List ℕ} → Put out 0 page to new → to ≤ length out → new ≡ page ++ drop (length page) out
put-page {out = out} {page = page} p h = p.bytes ∙ sets-eq page out 0 (omega (arith, p.place)) ∙ ap (λ (n : ℕ). page ++ drop n out) (zero-add (length page))
