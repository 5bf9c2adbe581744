-- LAWS OF A BLOCK THAT IS WRITTEN.
--     length-record, length-head, length-body, length-block   how many bytes each has
--     zeros-store           a loop that stores zeros
--     part-stored           a part that a block was put into
--     filled                head, records, zeros and sums, stored one after another, are the block
-- Assumes nothing.
use Rattle.std.specs.Prelude.{◌≡◌, refl, ℕ, ◌+◌, ◌-◌, ◌*◌, ◌≤◌, take, drop, set}
use Rattle.std.proofs.Common.{sym, ◌∙◌, drop_of_length-le, take_at, drop-drop}
use Rattle.std.proofs.Math.Path.{ap}
use mathlib.Core.List.{List, [], ◌∷◌, ◌++◌, append_assoc, append-nil}
use native.Mathlib.Omega.{arith}
use Rattle.std.proofs.Math.ListN.{length, replicate, length-append, length-replicate}
use Rattle.std.proofs.lemmas.List.{replicate-append-replicate}
use Rattle.std.proofs.lemmas.List.Edits.{sets}
use Rattle.std.proofs.Math.Seq.{sets-eq}
use Rattle.sheets.specs.Bytes.{bytes}
use Rattle.sheets.specs.Layout.{first_edition, block_bytes, head_bytes, sum_place, records_of}
use Rattle.sheets.specs.Runs.{run_from, length_run, sets-on}
use Rattle.sheets.proofs.LayoutLaws.{records-most}
use Rattle.sheets.specs.Filling.{record_at, head_of, body_of, sums_of, block_of}
pub use Rattle.sheets.specs.RecordLaws.{length-record}

pub length-head : (n b : ℕ) → length (head_of first_edition n b) ≡ head_bytes
unfolding bytes head_of
length-head n b = refl

pub length-sums : (body : List ℕ) → length (sums_of body) ≡ 8
unfolding bytes sums_of
length-sums body = refl

-- a turn of a loop that stores zeros
pub zeros-store : (l₀ l : List ℕ) (at k place : ℕ) → l ≡ sets l₀ at (replicate k 0) → place ≡ at + k → set l place 0 ≡ sets l₀ at (replicate (k + 1) 0)
zeros-store l₀ l at k place e p =
    rw e (sets-on l₀ at place (replicate k 0) (0 ∷ []) (omega (arith, length-replicate {A = ℕ} k 0)) ∙ ap (λ (z : List ℕ). sets l₀ at z) (replicate-append-replicate k 1 0))

module _ (Ts ps ss : List ℕ) (b : ℕ) where
  used : ℕ
  used = records_of first_edition (length Ts) b

  records : List ℕ
  records = run_from (record_at Ts ps ss) (b * 41) used

  zeros-long : (504 - (12 + used * 12)) ≡ (41 - used) * 12
  unfolding used
  zeros-long =
      let most = records-most first_edition (omega arith) (length Ts) b in
      omega arith

  records-long : length records ≡ used * 12
  unfolding used records
  records-long = length_run (record_at Ts ps ss) 12 (length-record Ts ps ss) (b * 41) used

  pub length-body : length (body_of first_edition Ts ps ss b) ≡ sum_place
  unfolding body_of used records
  length-body =
      let most = records-most first_edition (omega arith) (length Ts) b in
      let zeros = length-replicate {A = ℕ} ((41 - used) * 12) 0 in
      rw (length-append (head_of first_edition (length Ts) b) (records ++ replicate ((41 - used) * 12) 0), length-append records (replicate ((41 - used) * 12) 0))
      (omega (arith, length-head (length Ts) b, records-long, zeros-long))

  pub length-block : length (block_of first_edition Ts ps ss b) ≡ block_bytes
  unfolding block_of
  length-block =
      length-append (body_of first_edition Ts ps ss b) (sums_of (body_of first_edition Ts ps ss b))
      ∙ omega (arith, length-body, length-sums (body_of first_edition Ts ps ss b))

  module _ (l₀ l₁ l₂ l₃ l₄ : List ℕ) (from : ℕ) (long : length l₀ ≡ block_bytes) (start : from ≡ head_bytes + records_of first_edition (length Ts) b * 12)
      (head : l₁ ≡ sets l₀ 0 (head_of first_edition (length Ts) b))
      (middle : l₂ ≡ sets l₁ head_bytes (run_from (record_at Ts ps ss) (b * 41) (records_of first_edition (length Ts) b)))
      (rest : l₃ ≡ sets l₂ from (replicate (sum_place - from) 0))
      (sums : l₄ ≡ sets l₃ sum_place (sums_of (take sum_place l₃))) where
    body-stored : l₃ ≡ sets l₀ 0 (body_of first_edition Ts ps ss b)
    unfolding body_of used records
    body-stored =
        rw (rest, middle, head)
        (rw (start, zeros-long, sets-on (sets l₀ 0 (head_of first_edition (length Ts) b)) 12 (12 + used * 12) records (replicate ((41 - used) * 12) 0) (omega (arith, records-long)))
        (sets-on l₀ 0 12 (head_of first_edition (length Ts) b) (records ++ replicate ((41 - used) * 12) 0) (omega (arith, length-head (length Ts) b))))

    body-there : take sum_place l₃ ≡ body_of first_edition Ts ps ss b
    body-there =
        rw (body-stored, sets-eq (body_of first_edition Ts ps ss b) l₀ 0 (omega (arith, length-body)))
        (take_at (body_of first_edition Ts ps ss b) (drop (0 + length (body_of first_edition Ts ps ss b)) l₀) sum_place length-body)

    pub filled : l₄ ≡ block_of first_edition Ts ps ss b
    unfolding block_of
    filled =
        sums
        ∙ rw (body-there, body-stored)
        (sets-on l₀ 0 sum_place (body_of first_edition Ts ps ss b) (sums_of (body_of first_edition Ts ps ss b)) (omega (arith, length-body))
        ∙ sets-eq (block_of first_edition Ts ps ss b) l₀ 0 (omega (arith, length-block))
        ∙ ap (λ (z : List ℕ). block_of first_edition Ts ps ss b ++ z) (drop_of_length-le l₀ {i = 0 + length (block_of first_edition Ts ps ss b)} (omega (arith, length-block)))
        ∙ append-nil (block_of first_edition Ts ps ss b))

-- a part that a block was put into is a run of stores
pub part-stored : (l ys : List ℕ) (a e : ℕ) → a ≤ e → length ys ≡ e - a → e ≤ length l → take a l ++ (ys ++ drop (e - a) (drop a l)) ≡ sets l a ys
part-stored l ys a e h long room =
    let end : a + (e - a) ≡ a + length ys = omega arith in
    sym (sets-eq ys l a (omega arith) ∙ append_assoc (take a l) ys (drop (a + length ys) l) ∙ ap (λ (z : List ℕ). take a l ++ (ys ++ z)) (sym (drop-drop (e - a) a l ∙ ap (λ (n : ℕ). drop n l) end)))
