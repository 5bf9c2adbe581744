-- WHAT A JUDGE THAT ANSWERS 0 GIVES. Every call asks a judge first; here is, once, what its 0 says.
--     Passes Ts ps ss           a list that passes 1 to 6 and 9: the table is sound, every start lies below its period, and starts are as many as periods
-- Edges: the empty list passes.
-- Assumes nothing.
use Rattle.std.specs.Prelude.{◌≡◌, List, ℕ, length}
use Rattle.probes.specs.Table.{Sound, Below}

pub record Passes (Ts ps ss : List ℕ) : Type 0 where
  pub sound : Sound Ts ps
  pub below : Below Ts ss
  pub same : length Ts ≡ length ss
