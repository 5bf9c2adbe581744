-- ANSWERS. Document 01, "Numbers the master shows": "Every answer has a number, an index, a second index and a tick; fields not named are 0."
--     done              number 0, nothing named
--     refused k i       number k with index i; i is 0 where the table of 01 has no index
--     named i           number 0 with index i
--     pair k i j t      number k with the probes i and j and the tick t
--     mark              4,294,967,295: the start of a probe that has none, the index of no probe
-- Edges: no start below a permitted period equals the mark (probes, proofs/Laws).
-- Assumes nothing.
use Rattle.std.specs.Prelude.{ℕ}
use Rattle.words.specs.declared.Answer.{Answer}

abbrev pub pair : ℕ → ℕ → ℕ → ℕ → Answer
pair k i j t = record { number = k; index = i; second = j; tick = t }

abbrev pub refused : ℕ → ℕ → Answer
refused k i = pair k i 0 0

abbrev pub named : ℕ → Answer
named i = refused 0 i

abbrev pub done : Answer
done = refused 0 0

abbrev pub mark : ℕ
mark = 4294967295
