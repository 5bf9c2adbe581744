-- TEXT. What a program prints, as bytes.
--     letters s             the bytes of a quoted text
--     decimal x             a number in decimal, without leading zeros
--     spaced xs             numbers with one space between them
--     printed_line ..        a line ends with a newline
-- Differs from the words: the digits are taken from a number's remainder by 10 while there are any, at most twenty of them, which is enough for 64 bits.
-- Assumes nothing.
use Rattle.std.specs.Prelude.{List, [], ◌∷◌, ◌++◌, ℕ, zero, suc, ◌+◌, ◌/◌, ◌%◌, eqb}
use Prim.Native.String.{String}
use Prim.Native.Char.{code}
use Rattle.lists.specs.Pick.{pick}

unfoldable pub letters : String → List ℕ
letters String.[] = []
letters (String.◌∷◌ c s) = code c ∷ letters s

-- the digits of x in front of what follows, at most k of them
unfoldable pub digits_then : ℕ → ℕ → List ℕ → List ℕ
digits_then zero x rest = rest
digits_then (suc k) x rest = pick (eqb (x / 10) 0) ((48 + x % 10) ∷ rest) (digits_then k (x / 10) ((48 + x % 10) ∷ rest))

unfoldable pub decimal : ℕ → List ℕ
decimal x = digits_then 20 x []

unfoldable pub spaced : List (List ℕ) → List ℕ
spaced [] = []
spaced (x ∷ []) = x
spaced (x ∷ y ∷ ys) = x ++ (letters " " ++ spaced (y ∷ ys))

unfoldable pub printed_line : List (List ℕ) → List ℕ
printed_line xs = spaced xs ++ letters "\n"
