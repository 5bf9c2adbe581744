use Prim.Native.Nat.{ℕ, suc, ◌+◌, ◌/◌, ◌%◌, ◌≤◌, ◌<◌}
use mathlib.Core.Path.{◌≡◌, ap, ◌∙◌}
use mathlib.Core.List.{List, [], ◌∷◌}
use native.Mathlib.Omega.{arith}
use lib.ListN.{length, length-append}
use Rattle.text.specs.Text.{decimal}
use Rattle.text.specs.TextLaws.{tens, decimal-one, decimal-more}
use Rattle.text.specs.Printing.{puts_length, puts_on}
use Rattle.text.proofs.Printer.+put_number.Goals as goal
use Rattle.text.proofs.Printer.+put_number.Goals.{then-x-ge10, else-x-ge10}

small : (x : ℕ) → x < 18446744073709551616 → x < tens 20
unfolding tens
small x w = omega arith

shorter : (x : ℕ) → 10 ≤ x → x < 18446744073709551616 → length (decimal x) ≡ suc (length (decimal (x / 10)))
shorter x h w = ap (λ (l : List ℕ). length l) (decimal-more x h (small x w)) ∙ length-append (decimal (x / 10)) ((48 + x % 10) ∷ []) ∙ omega arith

one-digit : (x : ℕ) → x < 10 → decimal x ≡ (48 + x % 10) ∷ []
one-digit x h = let e : x % 10 ≡ x = omega arith in rw e (decimal-one x h)

pub put_number-requires : goal.put_number-requires
put_number-requires t c = (omega arith, omega (arith, c.requires, shorter c.args.x c.if-x-ge10.true (omega arith)))

pub put_byte-requires : goal.put_byte-requires
put_byte-requires t c =
    elim c.if-x-ge10.branch [
      | then-x-ge10 w ↦ rw w.self-is (omega (arith, c.requires, shorter c.args.x w.if-x-ge10.true (omega arith), puts_length w.put_number.ensures, w.put_number.ensures.put.place))
      | else-x-ge10 w ↦ rw w.self-is (omega (arith, c.requires, ap (λ (l : List ℕ). length l) (one-digit c.args.x w.if-x-ge10.false)))
    ]

pub returns : goal.returns
returns t c =
    elim c.if-x-ge10.branch [
      | then-x-ge10 w ↦ rw (decimal-more c.args.x w.if-x-ge10.true (small c.args.x (omega arith))) (puts_on w.put_number.ensures (rw w.self-is at c.put_byte.ensures))
      | else-x-ge10 w ↦ rw (one-digit c.args.x w.if-x-ge10.false) (rw w.self-is at c.put_byte.ensures)
    ]
