-- A CASE OF A BLOCK THAT IS WRITTEN. Document 01, "Bench sheet": "the empty book has sums 1 and 3".
-- Assumes nothing.
use Rattle.std.specs.Prelude.{◌≡◌, refl, [], ◌∷◌, drop}
use Rattle.sheets.specs.Bytes.{bytes, byte_sum, place_sum}
use Rattle.sheets.specs.Layout.{first_edition, sum_place, blocks_of, records_of}
use Rattle.sheets.specs.Runs.{run_from}
use Rattle.sheets.specs.Filling.{record_of, record_at, head_of, body_of, sums_of, block_of}

pub empty-sums : drop sum_place (block_of first_edition [] [] [] 0) ≡ 1 ∷ 0 ∷ 0 ∷ 0 ∷ 3 ∷ 0 ∷ 0 ∷ 0 ∷ []
unfolding bytes byte_sum place_sum blocks_of records_of run_from record_of record_at head_of body_of sums_of block_of
empty-sums = refl
