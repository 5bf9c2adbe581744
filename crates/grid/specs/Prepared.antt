-- WHAT THE CONVERSIONS ASK.
--     table_of, chain_of      w, M and H of a table, and its chain of ratios
--     Prepared Ts t c       a table whose periods divide one another, with its w, M, H and its chain of ratios
-- Assumes nothing.
use Rattle.std.specs.Prelude.{◌≡◌, List, ℕ, ◌≤◌, ◌<◌, length, get_or}
use Rattle.lists.specs.Harmonic.{Harmonic}
use Rattle.table.specs.declared.Table.{Table}
use Rattle.probes.specs.Table.{most_period, most_rows, shortest, longest, rows}
use Rattle.flipping.specs.declared.Chain.{Chain}
use Rattle.chain.specs.Ratios.{ratios, twelve}

abbrev pub table_of : List ℕ → Table
table_of Ts = record { shortest = shortest Ts; longest = longest Ts; rows = rows Ts }

abbrev pub chain_of : List ℕ → Chain
chain_of Ts = record { ratios = twelve (ratios Ts); rows = rows Ts }

pub record Prepared (Ts : List ℕ) (t : Table) (c : Chain) : Type 0 where
  pub harmonic : Harmonic Ts
  pub most : (i : ℕ) → i < length Ts → get_or Ts i 0 ≤ most_period
  pub low : rows Ts ≤ most_rows
  pub table_is : t ≡ table_of Ts
  pub chain-is : c ≡ chain_of Ts
