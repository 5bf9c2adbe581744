-- HOW MANY BLOCKS AND RECORDS: the definitions as the library's division and least of two.
-- Assumes nothing.
use Rattle.std.specs.Prelude.{◌≡◌, ℕ, ◌+◌, ◌-◌, ◌*◌, ◌/◌, ◌%◌, ◌≤◌, ◌<◌, min, max}
use Rattle.std.proofs.Common.{arith}
use Rattle.std.proofs.Math.Decide.{dec_lt, ℕ_discrete}
use Rattle.sheets.specs.Layout.{first_edition, blocks_of, records_of}
use Rattle.sheets.proofs.LayoutLaws.{blocks-none, blocks_more, blocks-room, blocks-least, records-full, records-rest, records-most, records-end}

module _ (n : ℕ) where
  pub blocks_by_division : max (n / 41 + min 1 (n % 41)) 1 ≡ blocks_of first_edition n
  blocks_by_division = by (ℕ_discrete n 0)
    where
      by : Dec (n ≡ 0) → max (n / 41 + min 1 (n % 41)) 1 ≡ blocks_of first_edition n
      by (yes e) = omega (arith, blocks-none first_edition n e)
      by (no d) = omega (arith, blocks_more first_edition n d)

  -- the last block begins at or before record n
  pub blocks_within : blocks_of first_edition n * 41 ≤ n + 41
  blocks_within = omega (arith, blocks_by_division)

  pub records_within : (b : ℕ) → records_of first_edition n b ≤ 41
  records_within b = records-most first_edition (omega arith) n b

  pub records_end : (b : ℕ) → b < blocks_of first_edition n → b * 41 + records_of first_edition n b ≤ n
  records_end b h = records-end first_edition (omega arith) n b h

  pub records_by_limit : (b : ℕ) → b < blocks_of first_edition n → min (n - b * 41) 41 ≡ records_of first_edition n b
  records_by_limit b h = by (dec_lt (b + 1) (blocks_of first_edition n))
    where
      by : Dec (b + 1 < blocks_of first_edition n) → min (n - b * 41) 41 ≡ records_of first_edition n b
      by (yes l) = omega (arith, records-full first_edition n b l, blocks-least first_edition (omega arith) n (b + 1) l)
      by (no l) = omega (arith, records-rest first_edition n b (omega arith), blocks-room first_edition (omega arith) n)
