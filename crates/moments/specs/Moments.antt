-- ONE PROBE AND A TICK. Document 01, "The line and its words".
--     phase T s t       ticks since the start of the read or pause that tick t lies in
--     candidate T s t   the first start of one probe from t on
-- Assumes nothing.
use Rattle.std.specs.Prelude.{ℕ, ◌+◌, ◌-◌, ◌%◌, leb, eqb}
use Rattle.lists.specs.Pick.{pick}

unfoldable pub phase : ℕ → ℕ → ℕ → ℕ
phase T s t = (t - s) % T

-- the first start of one probe from t on: its start, or t where a read starts then, or the rest of the turn later
unfoldable pub candidate : ℕ → ℕ → ℕ → ℕ
candidate T s t = pick (leb t s) s (pick (eqb (phase T s t) 0) t (t + (T - phase T s t)))
