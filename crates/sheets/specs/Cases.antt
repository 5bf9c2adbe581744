-- CASES OF THE LAYOUT. Document 01, "Bench sheet": "41 probes take one block, 42 two, 256 seven".
-- Assumes nothing.
use Rattle.std.specs.Prelude.{◌≡◌, refl}
use Rattle.sheets.specs.Layout.{first_edition, blocks_of, records_of}

pub blocks-of-cases : (blocks_of first_edition 0 ≡ 1) × (blocks_of first_edition 41 ≡ 1) × (blocks_of first_edition 42 ≡ 2) × (blocks_of first_edition 256 ≡ 7)
unfolding blocks_of
blocks-of-cases = (refl, refl, refl, refl)

-- all are full but the last
pub records-of-cases : (records_of first_edition 0 0 ≡ 0) × (records_of first_edition 41 0 ≡ 41) × (records_of first_edition 42 0 ≡ 41) × (records_of first_edition 42 1 ≡ 1) × (records_of first_edition 256 6 ≡ 10)
unfolding blocks_of records_of
records-of-cases = (refl, refl, refl, refl, refl)
