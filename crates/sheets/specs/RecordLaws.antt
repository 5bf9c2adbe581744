-- LAWS OF A RECORD THAT IS WRITTEN.
--     length-record         how many bytes it has
--     record-stored         three numbers, stored one after another, are a record
-- Assumes nothing.
use Rattle.std.specs.Prelude.{◌≡◌, refl, List, ◌++◌, ℕ, ◌+◌, length}
use Rattle.std.proofs.lemmas.List.Edits.{sets}
use Rattle.sheets.specs.Bytes.{bytes}
use Rattle.sheets.specs.Layout.{first_edition}
use Rattle.sheets.specs.Runs.{sets-on}
use Rattle.sheets.specs.Records.{record_of, record_at}

pub length-record : (Ts ps ss : List ℕ) (i : ℕ) → length (record_at Ts ps ss i) ≡ first_edition.record_bytes
unfolding bytes record_of record_at
length-record Ts ps ss i = refl

-- three numbers stored one after another are a record
pub record-stored : (l₀ l₁ l₂ l₃ : List ℕ) (at T p s : ℕ) → l₁ ≡ sets l₀ at (bytes 4 T) → l₂ ≡ sets l₁ (at + 4) (bytes 4 p) → l₃ ≡ sets l₂ (at + 8) (bytes 4 s)
    → l₃ ≡ sets l₀ at (record_of T p s)
unfolding bytes record_of
record-stored l₀ l₁ l₂ l₃ at T p s e f g =
    rw (g, f, e)
    (rw (sets-on l₀ at (at + 4) (bytes 4 T) (bytes 4 p) refl) (sets-on l₀ at (at + 8) (bytes 4 T ++ bytes 4 p) (bytes 4 s) refl))
