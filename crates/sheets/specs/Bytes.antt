-- NUMBERS AS BYTES. Document 01, "The book": "numbers least byte first".
--     byte_values            256: a byte is a number below it
--     AreBytes bs, AreWords xs   every number is below 256; below 2^32
--     bytes k x             x in k bytes, least first
--     value bs              the number that bytes make, least first
--     word k at bs          the number in the k bytes at a place
--     byte_sum bs            "the sum of bytes"
--     place_sum i bs         "the sum of (place + 1) times byte"; the first byte stands at place i
--     AllZero bs            every byte is zero
-- Assumes nothing.
use Rattle.std.specs.Prelude.{Bool, true, ◌≡◌, List, [], ◌∷◌, ℕ, zero, suc, ◌+◌, ◌*◌, ◌/◌, ◌%◌, ◌<◌, eqb, get_or, take, drop}
use Rattle.lists.specs.Pick.{both}

abbrev pub byte_values : ℕ
byte_values = 256

abbrev pub AreBytes : List ℕ → Type 0
AreBytes bs = (i : ℕ) → get_or bs i 0 < byte_values

abbrev pub AreWords : List ℕ → Type 0
AreWords xs = (i : ℕ) → get_or xs i 0 < 4294967296

unfoldable pub bytes : ℕ → ℕ → List ℕ
bytes zero x = []
bytes (suc k) x = x % 256 ∷ bytes k (x / 256)

unfoldable pub value : List ℕ → ℕ
value [] = 0
value (b ∷ bs) = b + 256 * value bs

unfoldable pub word : ℕ → ℕ → List ℕ → ℕ
word k at bs = value (take k (drop at bs))

unfoldable pub byte_sum : List ℕ → ℕ
byte_sum [] = 0
byte_sum (b ∷ bs) = b + byte_sum bs

unfoldable pub place_sum : ℕ → List ℕ → ℕ
place_sum i [] = 0
place_sum i (b ∷ bs) = suc i * b + place_sum (suc i) bs

unfoldable pub AllZero : List ℕ → Type 0
AllZero [] = Unit {0}
AllZero (b ∷ bs) = (b ≡ 0) × AllZero bs

unfoldable pub all_zero : List ℕ → Bool
all_zero [] = true
all_zero (b ∷ bs) = both (eqb b 0) (all_zero bs)
