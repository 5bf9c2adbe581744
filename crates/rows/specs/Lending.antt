-- THE PART OF THE ROWS THAT IS LENT. Document 01, "First fit": "Then the part of the row column from y for h rows is raised by p, and no other row."
--     lent rows y h     the rows from y up to y + h
--     lent_row          row k of that part is row y + k of the column, and there is one
--     lent-raised       the part given back raised by p makes the column raised by p from y for h rows
-- Edges: where h is 0 nothing is lent, and the column stays.
-- Assumes nothing.
use Rattle.std.specs.Prelude.{◌≡◌, ℕ, ◌+◌, ◌-◌, ◌≤◌, ◌<◌, length, get_or, take, drop}
use Rattle.std.proofs.Math.Path.{ap}
use Rattle.std.proofs.Common.{◌∙◌, arith, length-drop, get_or-take, get_or-drop, length-take-le}
use mathlib.Core.List.{List}
use borrow.Rule.Slice.PartMut.{put_mid, Post-is}
use Rattle.stack.specs.Stack.{raise, raised}

-- a part is lent by where it ends, so that its length is y + h less y
abbrev pub lent : List ℕ → ℕ → ℕ → List ℕ
lent rows y h = take (y + h - y) (drop y rows)

module _ (rows : List ℕ) (y h : ℕ) (fits : y + h ≤ length rows) where
  rest : y + h - y ≡ h
  rest = omega arith

  lent_length : length (lent rows y h) ≡ h
  lent_length = length-take-le (y + h - y) (drop y rows) (rw (length-drop y rows) (omega arith)) ∙ rest

  pub lent_row : (k : ℕ) → k < length (lent rows y h) → (y + k < length rows) × (get_or (lent rows y h) k 0 ≡ get_or rows (y + k) 0)
  lent_row k l = (omega (arith, lent_length), get_or-take (y + h - y) (drop y rows) k 0 (omega (arith, lent_length)) ∙ get_or-drop y rows k 0)

  pub lent-raised : (p : ℕ) (part : List ℕ) → part ≡ raise p (lent rows y h) → put_mid y (y + h - y) rows part ≡ raised rows y h p
  unfolding raised
  lent-raised p part e =
      ap (λ (zs : List ℕ). put_mid y (y + h - y) rows zs) e
      ∙ rw (Post-is y (y + h) rows (omega arith), rest)
