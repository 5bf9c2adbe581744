-- THE BOOK'S LAYOUT. Document 01, "The book": "Blocks of 512 bytes, each with its own check .. Then 41 records of 12 bytes .. There are as many blocks as n divided by 41, rounded up, and
-- one for n = 0; all are full but the last".
--     Layout                what an edition of the book fixes: bytes of a record, records of a block, the most blocks
--     first_edition          12, 41 and 7
--     block_bytes, head_bytes, sum_place, sum_place2   512, 12, 504 and 508: where a block ends, its records begin and its two sums stand
--     blocks_of L n          how many blocks n probes take
--     records_of L n b       how many records block b holds
-- Assumes nothing.
use Rattle.std.specs.Prelude.{ℕ, ◌+◌, ◌-◌, ◌*◌, ◌/◌, ltb, eqb}
use Rattle.lists.specs.Pick.{pick}

pub record Layout : Type 0 where
  pub record_bytes : ℕ
  pub records : ℕ
  pub most_blocks : ℕ

abbrev pub first_edition : Layout
first_edition = record { record_bytes = 12; records = 41; most_blocks = 7 }

abbrev pub block_bytes : ℕ
block_bytes = 512

abbrev pub head_bytes : ℕ
head_bytes = 12

abbrev pub sum_place : ℕ
sum_place = 504

abbrev pub sum_place2 : ℕ
sum_place2 = 508

abbrev pub most_n : ℕ
most_n = 256

unfoldable pub blocks_of : Layout → ℕ → ℕ
blocks_of L n = pick (eqb n 0) 1 ((n + (L.records - 1)) / L.records)

unfoldable pub records_of : Layout → ℕ → ℕ → ℕ
records_of L n b = pick (ltb (b + 1) (blocks_of L n)) L.records (n - b * L.records)
