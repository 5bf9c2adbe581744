-- A PART OF A BLOCK THAT IS FILLED WITH ZEROS, up to where the sums stand, is a run of stores.
-- Assumes nothing.
use Rattle.std.specs.Prelude.{◌≡◌, List, ◌++◌, ℕ, ◌-◌, ◌≤◌, length, take, drop, replicate}
use Rattle.std.proofs.Common.{arith, length-drop, length-take-le}
use Rattle.std.proofs.lemmas.List.{length-replicate}
use Rattle.std.proofs.lemmas.List.Edits.{sets}
use Rattle.sheets.proofs.FillingLaws.{part-stored}

pub zeros_stored : (l : List ℕ) (f : ℕ) → f ≤ 504 → length l ≡ 512
    → take f l ++ (replicate (length (take (504 - f) (drop f l))) 0 ++ drop (504 - f) (drop f l)) ≡ sets l f (replicate (504 - f) 0)
zeros_stored l f h long =
    rw (length-take-le (504 - f) (drop f l) (omega (arith, length-drop f l)))
    (part-stored l (replicate (504 - f) 0) f 504 h (length-replicate {A = ℕ} (504 - f) 0) (omega arith))
