-- THE BLOCKS OF A BOOK as the library's chunks, and what is known of a block that has no fault.
--     chunk-verdict         the verdict of a chunk is that of the block
--     fault-above           a fault has a number above 0
-- Assumes nothing.
use Rattle.std.specs.Prelude.{◌≡◌, List, ℕ, zero, suc, ◌+◌, ◌*◌, ◌/◌, ◌<◌, length, get_or, take, drop}
use Rattle.std.proofs.Common.{ap, ◌∙◌, arith}
use Rattle.std.proofs.Math.Seq.{drop-drop}
use Rattle.std.specs.Simd.{first_chunks}
use Rattle.sheets.specs.Bytes.{word}
use Rattle.sheets.specs.Layout.{first_edition}
use Rattle.sheets.specs.Block.{block_verdict}
use Rattle.sheets.specs.Blocks.{block_at, blocks_in, n_of}
use Rattle.sheets.specs.BlocksLaws.{verdict_at}
use Rattle.judging.specs.declared.Fault.{Fault}
use Rattle.judging.specs.declared.Fault.TheVariants.{WrongSum, WrongField, UsedUnused}
use Rattle.judging.specs.Faults.{fault_number}

chunk-at : (m k b : ℕ) (xs d : List ℕ) → b < k → get_or (first_chunks m k xs) b d ≡ take m (drop (b * m) xs)
chunk-at m zero b xs d h = absurd (omega arith)
chunk-at m (suc k) zero xs d h =
    let z : 0 * m ≡ 0 = omega arith in
    rw z
chunk-at m (suc k) (suc b) xs d h =
    let e : suc b * m ≡ m + b * m = omega arith in
    rw e (chunk-at m k b (drop m xs) d (omega arith) ∙ ap (take m) (drop-drop (b * m) m xs))

pub chunk-verdict : (bs d : List ℕ) (chunks : List (List ℕ)) (b n k r : ℕ) → chunks ≡ first_chunks 512 (length bs / 512) bs → k ≡ length bs / 512 → b < k → n ≡ word 2 6 bs
    → r ≡ block_verdict first_edition n k b (get_or chunks b d) → r ≡ verdict_at first_edition bs b
unfolding n_of blocks_in block_at
chunk-verdict bs d chunks b n k r c e h w v =
    let a = chunk-at 512 (length bs / 512) b bs d (omega arith) in
    v ∙ rw (c, e, w, a)

pub fault-above : (f : Fault) → fault_number f ≡ 0 → ⊥
fault-above WrongSum e = omega arith
fault-above WrongField e = omega arith
fault-above UsedUnused e = omega arith
