-- THE WAYS OUT OF READING behind the test of the size.
--     block_refused         a block has a fault
--     column_short          a column is shorter than n
--     columns_filled        three columns are filled
-- Assumes nothing.
use Rattle.std.specs.Prelude.{◌≡◌, ◌⊎◌, refl, false, List, ◌++◌, ℕ, ◌≤◌, ◌<◌, length, drop}
use Rattle.std.proofs.Common.{ap, ◌∙◌, inl, inr, arith}
use Rattle.words.specs.declared.Answer.{Answer}
use Rattle.words.specs.declared.refusals.Refusal.{Refusal}
use Rattle.words.specs.Answers.{refused, named}
use Rattle.words.specs.Refused.{refusal}
use Rattle.words.proofs.Refused.{refusal-not-done}
use Rattle.sheets.specs.Layout.{first_edition}
use Rattle.sheets.proofs.BlocksLaws.{judged-n}
use Rattle.volumes.specs.Reading.{bad_size, judged_blocks, n_of, column, columns, ShortColumn, Reads}
use Rattle.volumes.specs.ReadLaws.{reads_as, read-block, read_short, read_done, done-is}

module _ (bs Ts ps ss : List ℕ) (size : bad_size first_edition bs ≡ false) where
  pub block_refused : (r : Refusal) → refusal r ≡ judged_blocks first_edition bs → Reads first_edition bs Ts ps ss (columns (refusal r) Ts ps ss)
  block_refused r e =
      reads_as first_edition bs Ts ps ss _ (read-block first_edition bs Ts ps ss size (refusal r) e (refusal-not-done r))

  module _ (n : ℕ) (right : named n ≡ judged_blocks first_edition bs) where
    done-n : named n ≡ refused 0 (n_of bs)
    done-n = judged-n first_edition bs (named n) right refl

    n-is : n ≡ n_of bs
    n-is = ap (λ (a : Answer). a.index) done-n

    pub column_short : (length Ts < n) ⊎ ((length ps < n) ⊎ (length ss < n)) → Reads first_edition bs Ts ps ss (columns (refused 24 0) Ts ps ss)
    column_short w = reads_as first_edition bs Ts ps ss _ (read_short first_edition bs Ts ps ss size (named n) right refl (rw n-is at w))

    none-short : n ≤ length Ts → n ≤ length ps → n ≤ length ss → ShortColumn first_edition bs Ts ps ss → ⊥
    none-short h i j (inl k) = omega (arith, n-is)
    none-short h i j (inr (inl k)) = omega (arith, n-is)
    none-short h i j (inr (inr k)) = omega (arith, n-is)

    pub columns_filled : (Ts' ps' ss' : List ℕ) → n ≤ length Ts → n ≤ length ps → n ≤ length ss → Ts' ≡ column first_edition bs 0 0 n ++ drop n Ts
        → ps' ≡ column first_edition bs 1 0 n ++ drop n ps → ss' ≡ column first_edition bs 2 0 n ++ drop n ss → Reads first_edition bs Ts ps ss (columns (named n) Ts' ps' ss')
    columns_filled Ts' ps' ss' h i j f g k =
        reads_as first_edition bs Ts ps ss _
        (done-is first_edition bs Ts ps ss Ts' ps' ss' (named n) done-n f g k
        ∙ read_done first_edition bs Ts ps ss size (named n) right refl (none-short h i j))
