-- MEETING ON THE WIRE: THE PUBLISHED CONDITION. Document 01, "Meeting on the wire"; document 004, Lemma 1.
--     lag T o s                "the remainder of" s - o "by" T, "from 0 up"
--     Apart T q s U r u        for T <= U: "p_i <= d <= T_i - p_j", where d = lag T s u
--     apart ..                 the same as a test
--     shared_tick ..            for T <= U: the first tick that two probes share which are not apart, in four cases
--     apart_at Ts qs ss i j     the test of probes i and j, the shorter period first
--     tick_at Ts qs ss i j      their first shared tick
--     clean Ts qs ss           the test of every pair: what the code computes in place of Clean
--     moved o Ts ss            every start moved to o: "replace each s by the remainder of s - o by T"
-- Differs from the words: numbers have no negatives, so d <= T - p is d + p <= T (the same where p <= T, as soundness gives), and the remainder of
-- s - o is taken of s + (T - o mod T).
-- Assumes nothing.
use Rattle.std.specs.Prelude.{Bool, true, List, [], ◌∷◌, ℕ, zero, suc, ◌+◌, ◌-◌, ◌%◌, ◌≤◌, leb, ltb, length, get_or}
use Rattle.lists.specs.Pick.{pick, both}

unfoldable pub lag : ℕ → ℕ → ℕ → ℕ
lag T o s = (s + (T - o % T)) % T

abbrev pub Apart : ℕ → ℕ → ℕ → ℕ → ℕ → ℕ → Type 0
Apart T q s U r u = (q ≤ lag T s u) × (lag T s u + r ≤ T)

unfoldable pub apart : ℕ → ℕ → ℕ → ℕ → ℕ → ℕ → Bool
apart T q s U r u = both (leb q (lag T s u)) (leb (lag T s u + r) T)

-- the longer one's first read begins in a read; or runs into the next one; or is met by the shorter one's first; or only its second read is met
unfoldable pub shared_tick : ℕ → ℕ → ℕ → ℕ → ℕ → ℕ → ℕ
shared_tick T q s U r u =
    pick (leb s u)
    (pick (ltb (lag T s u) q) u (u + (T - lag T s u)))
    (pick (ltb s (u + r)) s (u + U))

module _ (Ts qs ss : List ℕ) where
  unfoldable pub apart_at : ℕ → ℕ → Bool
  apart_at i j =
      pick (leb (get_or Ts i 0) (get_or Ts j 0))
      (apart (get_or Ts i 0) (get_or qs i 0) (get_or ss i 0) (get_or Ts j 0) (get_or qs j 0) (get_or ss j 0))
      (apart (get_or Ts j 0) (get_or qs j 0) (get_or ss j 0) (get_or Ts i 0) (get_or qs i 0) (get_or ss i 0))

  unfoldable pub tick_at : ℕ → ℕ → ℕ
  tick_at i j =
      pick (leb (get_or Ts i 0) (get_or Ts j 0))
      (shared_tick (get_or Ts i 0) (get_or qs i 0) (get_or ss i 0) (get_or Ts j 0) (get_or qs j 0) (get_or ss j 0))
      (shared_tick (get_or Ts j 0) (get_or qs j 0) (get_or ss j 0) (get_or Ts i 0) (get_or qs i 0) (get_or ss i 0))

  -- probe j is apart from each of the first i
  unfoldable pub apart_below : ℕ → ℕ → Bool
  apart_below j zero = true
  apart_below j (suc i) = both (apart_at i j) (apart_below j i)

  -- the first n probes, each apart from every earlier one
  unfoldable pub clean_below : ℕ → Bool
  clean_below zero = true
  clean_below (suc j) = both (apart_below j j) (clean_below j)

  unfoldable pub clean : Bool
  clean = clean_below (length Ts)

unfoldable pub moved : ℕ → List ℕ → List ℕ → List ℕ
moved o [] ss = []
moved o (T ∷ Ts) [] = []
moved o (T ∷ Ts) (s ∷ ss) = lag T o s ∷ moved o Ts ss
