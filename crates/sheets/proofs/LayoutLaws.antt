-- LAWS OF THE LAYOUT. Document 01, "The book": "as many blocks as n divided by 41, rounded up, and one for n = 0; all are full but the last". Over any layout that has records.
--     blocks-some           there is a block
--     blocks-room           the blocks have room for n records
--     blocks-least          no block but that of n = 0 is without a record
--     blocks-few            there are no more than n + 1 blocks
--     records-most          a block holds no more than it has room for
--     records-end           its records are among the n
--     records-full, records-last   every block but the last is full; the last ends with record n
-- Assumes nothing.
use Rattle.std.specs.Prelude.{◌≡◌, ℕ, ◌+◌, ◌-◌, ◌*◌, ◌/◌, ◌≤◌, ◌<◌}
use Rattle.std.proofs.Common.{div-mul-le_self, mul-le-mul_left, mul-le-mul_right, arith, eq-eqb, ne_eqb, lt-ltb, le-ltb}
use Rattle.std.proofs.Math.Nat.{lt-div-mul-add}
use Rattle.std.proofs.Math.Decide.{dec_lt, ℕ_discrete}
use Rattle.sheets.specs.Layout.{Layout, blocks_of, records_of}

module _ (L : Layout) (n : ℕ) where
  pub blocks-none : n ≡ 0 → blocks_of L n ≡ 1
  unfolding blocks_of
  blocks-none e = rw (eq-eqb n 0 e)

  pub blocks_more : (n ≡ 0 → ⊥) → blocks_of L n ≡ (n + (L.records - 1)) / L.records
  unfolding blocks_of
  blocks_more d = rw (ne_eqb n 0 d)

  pub records-full : (b : ℕ) → b + 1 < blocks_of L n → records_of L n b ≡ L.records
  unfolding records_of
  records-full b h = rw (lt-ltb (b + 1) (blocks_of L n) h)

  pub records-rest : (b : ℕ) → blocks_of L n ≤ b + 1 → records_of L n b ≡ n - b * L.records
  unfolding records_of
  records-rest b h = rw (le-ltb (b + 1) (blocks_of L n) h)

module _ (L : Layout) (full : 0 < L.records) (n : ℕ) where
  blocks-low : (n ≡ 0 → ⊥) → blocks_of L n * L.records ≤ n + (L.records - 1)
  blocks-low d = rw (blocks_more L n d) (div-mul-le_self (n + (L.records - 1)) L.records)

  blocks-high : (n ≡ 0 → ⊥) → n + (L.records - 1) < blocks_of L n * L.records + L.records
  blocks-high d = rw (blocks_more L n d) (lt-div-mul-add {a = n + (L.records - 1)} {b = L.records} full)

  pub blocks-room : n ≤ blocks_of L n * L.records
  blocks-room = by (ℕ_discrete n 0)
    where
      by : Dec (n ≡ 0) → n ≤ blocks_of L n * L.records
      by (yes e) = omega arith
      by (no d) = omega (arith, blocks-high d)

  pub blocks-some : 0 < blocks_of L n
  blocks-some = by (ℕ_discrete n 0)
    where
      by : Dec (n ≡ 0) → 0 < blocks_of L n
      by (yes e) = omega (arith, blocks-none L n e)
      by (no d) = positive (dec_lt 0 (blocks_of L n))
        where
          positive : Dec (0 < blocks_of L n) → 0 < blocks_of L n
          positive (yes h) = h
          positive (no h) =
              let z : blocks_of L n ≡ 0 = omega arith in
              absurd (omega (arith, rw z at blocks-room))

  pub blocks-least : (b : ℕ) → b < blocks_of L n → b * L.records ≤ n
  blocks-least b h = by (ℕ_discrete n 0)
    where
      by : Dec (n ≡ 0) → b * L.records ≤ n
      by (yes e) =
          let z : b ≡ 0 = omega (arith, blocks-none L n e) in
          rw z (omega arith)
      by (no d) = omega (arith, blocks-low d, mul-le-mul_right L.records h)

  pub blocks-few : blocks_of L n ≤ n + 1
  blocks-few = by (blocks_of L n - 1) (omega (arith, blocks-some))
    where
      by : (b : ℕ) → b + 1 ≡ blocks_of L n → blocks_of L n ≤ n + 1
      by b e = omega (arith, blocks-least b (omega arith), mul-le-mul_left b full)

  pub records-last : (b : ℕ) → b + 1 ≡ blocks_of L n → b * L.records + records_of L n b ≡ n
  records-last b e = omega (arith, records-rest L n b (omega arith), blocks-least b (omega arith))

  pub records-most : (b : ℕ) → records_of L n b ≤ L.records
  records-most b = by (dec_lt (b + 1) (blocks_of L n))
    where
      by : Dec (b + 1 < blocks_of L n) → records_of L n b ≤ L.records
      by (yes h) = omega (arith, records-full L n b h)
      by (no h) =
          let l : blocks_of L n ≤ b + 1 = omega arith in
          omega (arith, records-rest L n b l, blocks-room, mul-le-mul_right L.records l)

  pub records-end : (b : ℕ) → b < blocks_of L n → b * L.records + records_of L n b ≤ n
  records-end b h = by (dec_lt (b + 1) (blocks_of L n))
    where
      by : Dec (b + 1 < blocks_of L n) → b * L.records + records_of L n b ≤ n
      by (yes l) = omega (arith, records-full L n b l, blocks-least (b + 1) l)
      by (no l) = omega (arith, records-last b (omega arith))
