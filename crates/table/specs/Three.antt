-- W, M AND H AS THE CODE COMPUTES THEM; a quotient by 0 is 0, as H of the empty table.
--     ThreeOf Ts w m h          w, m and h are the table's three numbers
--     three-none, three-some    of the empty table, and of any other
-- Assumes nothing.
use Rattle.std.specs.Prelude.{◌≡◌, List, ℕ, ◌/◌}
use Rattle.std.proofs.Common.{sym, ◌∙◌}
use Rattle.std.proofs.Math.Nat.{div-zero}
use Rattle.table.specs.declared.Table.{Table}
use Rattle.probes.specs.Table.{shortest, longest, rows}

module _ (Ts : List ℕ) (w m : ℕ) (ew : w ≡ shortest Ts) (em : m ≡ longest Ts) where
  abbrev pub ThreeOf : ℕ → Type 0
  ThreeOf h = ◌≡◌ {A = Table} (record { shortest = w; longest = m; rows = h }) (record { shortest = shortest Ts; longest = longest Ts; rows = rows Ts })

  pub three-none : w ≡ 0 → ThreeOf 0
  unfolding rows
  three-none z =
      let none : longest Ts / shortest Ts ≡ 0 = rw (sym ew ∙ z) (div-zero (longest Ts)) in
      rw (ew, em, none)

  pub three-some : ThreeOf (m / w)
  unfolding rows
  three-some = rw (ew, em)
