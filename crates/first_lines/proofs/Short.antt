-- THE FIRST LINES ARE SHORT.
--     two_short, three_short    a line of two and of three 32-bit numbers
--     check_short               and of three and one of 64 bits
-- Assumes nothing.
use Rattle.std.specs.Prelude.{[], ◌∷◌, ℕ, ◌<◌, ◌≤◌, length}
use Rattle.std.proofs.Common.{arith}
use Rattle.text.specs.Text.{decimal, printed_line}
use Rattle.text.specs.TextLaws.{decimal-word, decimal-wide}
use Rattle.text.proofs.Spaced.{line_length}
use Rattle.lines.specs.Laws.{most_line, most_check}

pub two_short : (x y : ℕ) → x < 4294967296 → y < 4294967296 → length (printed_line (decimal x ∷ decimal y ∷ [])) ≤ most_line
two_short x y a b = omega (arith, line_length x (y ∷ []), decimal-word x a, decimal-word y b)

pub three_short : (x y z : ℕ) → x < 4294967296 → y < 4294967296 → z < 4294967296 → length (printed_line (decimal x ∷ decimal y ∷ decimal z ∷ [])) ≤ most_line
three_short x y z a b c = omega (arith, line_length x (y ∷ z ∷ []), decimal-word x a, decimal-word y b, decimal-word z c)

pub check_short : (x y z t : ℕ) → x < 4294967296 → y < 4294967296 → z < 4294967296 → t < 18446744073709551616 → length (printed_line (decimal x ∷ decimal y ∷ decimal z ∷ decimal t ∷ [])) ≤ most_check
check_short x y z t a b c d = omega (arith, line_length x (y ∷ z ∷ t ∷ []), decimal-word x a, decimal-word y b, decimal-word z c, decimal-wide t d)
