-- TICKS. Document 01: "All times are whole ticks from 0"; "tick asked about: 0 to 1,099,511,627,776"; "period: 1 to 1,048,576".
--     last_tick          the last tick that may be asked about
--     most_period        the longest period that a probe may have
--     TooLate t         number 11: the tick asked about is too late
-- Assumes nothing.
use Rattle.std.specs.Prelude.{Bool, ℕ, ◌<◌, ltb}

abbrev pub last_tick : ℕ
last_tick = 1099511627776

abbrev pub most_period : ℕ
most_period = 1048576

abbrev pub TooLate : ℕ → Type 0
TooLate t = last_tick < t

-- the test that the code computes
abbrev pub too_late : ℕ → Bool
too_late t = ltb last_tick t
