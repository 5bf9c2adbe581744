-- ONE BLOCK, AND WHAT IT MUST BE. Document 01, "The book": "Bytes 0-1 block number from 0, 2-3 blocks in the book, 4-5 records in this block, 6-7 n, 8-11 zero .. At 504 the sum of
-- bytes 0 to 503; at 508 the sum of (place + 1) times byte over the same bytes .. unused records are zero. Every block carries the same n and count."
-- "21, a sum is wrong; 22, n is above 256 or any field of bytes 0 to 11 is not what the size and the rules above require; 23, an unused record not zero".
-- B is the block's bytes, b its number, k the blocks in the book by its size, n the book's n, which block 0 carries.
--     WrongSum B            21
--     WrongField L n k b B  22
--     UsedUnused L n b B    23
--     wrong_sum, wrong_field, used_unused   the same as tests
--     block_verdict L n k b B    the first of 21, 22 and 23 that applies, and 0 where none does
-- Edges: n = 257 to 287 fits seven blocks and is 22.
-- Assumes nothing.
use Rattle.std.specs.Prelude.{◌⊎◌, ◌≢◌, Bool, not, List, ℕ, ◌+◌, ◌*◌, ◌<◌, ltb, eqb, take, drop}
use Rattle.lists.specs.Pick.{pick, either}
use Rattle.sheets.specs.Bytes.{word, byte_sum, place_sum, AllZero, all_zero}
use Rattle.sheets.specs.Layout.{Layout, head_bytes, sum_place, sum_place2, most_n, blocks_of, records_of}

abbrev pub WrongSum : List ℕ → Type 0
WrongSum B = (word 4 sum_place B ≢ byte_sum (take sum_place B)) ⊎ (word 4 sum_place2 B ≢ place_sum 0 (take sum_place B))

unfoldable pub wrong_sum : List ℕ → Bool
wrong_sum B = either (not (eqb (word 4 sum_place B) (byte_sum (take sum_place B)))) (not (eqb (word 4 sum_place2 B) (place_sum 0 (take sum_place B))))

-- n is the same in every block; the number of blocks is what n asks for and what the size gives
abbrev pub WrongField : Layout → ℕ → ℕ → ℕ → List ℕ → Type 0
WrongField L n k b B =
    (most_n < n)
    ⊎ ((blocks_of L n ≢ k)
    ⊎ ((word 2 0 B ≢ b)
    ⊎ ((word 2 2 B ≢ k)
    ⊎ ((word 2 4 B ≢ records_of L n b)
    ⊎ ((word 2 6 B ≢ n)
    ⊎ (word 4 8 B ≢ 0))))))

unfoldable pub wrong_field : Layout → ℕ → ℕ → ℕ → List ℕ → Bool
wrong_field L n k b B =
    either (ltb most_n n)
    (either (not (eqb (blocks_of L n) k))
    (either (not (eqb (word 2 0 B) b))
    (either (not (eqb (word 2 2 B) k))
    (either (not (eqb (word 2 4 B) (records_of L n b)))
    (either (not (eqb (word 2 6 B) n))
    (not (eqb (word 4 8 B) 0)))))))

-- the bytes behind the used records, up to the sums
unfoldable pub unused : Layout → ℕ → ℕ → List ℕ → List ℕ
unused L n b B = drop (head_bytes + records_of L n b * L.record_bytes) (take sum_place B)

abbrev pub UsedUnused : Layout → ℕ → ℕ → List ℕ → Type 0
UsedUnused L n b B = AllZero (unused L n b B) → ⊥

unfoldable pub used_unused : Layout → ℕ → ℕ → List ℕ → Bool
used_unused L n b B = not (all_zero (unused L n b B))

unfoldable pub block_verdict : Layout → ℕ → ℕ → ℕ → List ℕ → ℕ
block_verdict L n k b B = pick (wrong_sum B) 21 (pick (wrong_field L n k b B) 22 (pick (used_unused L n b B) 23 0))
