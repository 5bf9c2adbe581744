-- THE STEPS OF THE CHECKER: what each loop knows.
--     searching-from        a search may begin at place i where no place below i would do
--     above-is              the test of a partner at a place above i
-- Assumes nothing.
use Rattle.std.specs.Prelude.{◌≡◌, Bool, true, false, not, List, ℕ, zero, suc, ◌+◌, ◌≤◌, ◌<◌, ltb, length}
use Rattle.std.proofs.Common.{add-one, arith}
use borrow.Author.Tests.{lt-ltb, le-ltb}
use Rattle.lists.specs.Pick.{both}
use Rattle.lists.specs.Lowest.{Searching, searching-start, searching-next}
use Rattle.words.specs.Answers.{done, pair}
use Rattle.wire.specs.Meeting.{apart_at, tick_at}
use Rattle.meetings.specs.Check.{partner, opener, meeting_of}

pub searching-from : (f : ℕ → Bool) (n i : ℕ) → i ≤ n → ((k : ℕ) → k < i → f k ≡ false) → Searching f n i
searching-from f n zero h none = searching-start f n
searching-from f n (suc i) h none =
    rw (add-one i) at (searching-next f n i (omega arith) (none i (omega arith)) (searching-from f n i (omega arith) (λ k l. none k (omega arith))))

module _ (Ts qs ss : List ℕ) where
  -- no place up to i is tried for a partner of i
  pub partner-start : (i : ℕ) → i < length Ts → Searching (λ j. both (ltb i j) (not (apart_at Ts qs ss i j))) (length Ts) (i + 1)
  partner-start i h = searching-from _ (length Ts) (i + 1) (omega arith) passed
    where
      passed : (k : ℕ) → k < i + 1 → both (ltb i k) (not (apart_at Ts qs ss i k)) ≡ false
      passed k l =
          let m : k ≤ i = omega arith in
          rw (le-ltb i k m)

  pub above-is : (i j : ℕ) (b : Bool) → i < j → b ≡ apart_at Ts qs ss i j → both (ltb i j) (not (apart_at Ts qs ss i j)) ≡ not b
  above-is i j b h e = rw (lt-ltb i j h, ← e)

  -- i has a partner, or it has none
  pub has-partner : (i j : ℕ) → j ≡ partner Ts qs ss i → j < length Ts → ltb (partner Ts qs ss i) (length Ts) ≡ true
  has-partner i j e h = rw (← e) (lt-ltb j (length Ts) h)

  pub no-partner : (i j : ℕ) → j ≡ partner Ts qs ss i → length Ts ≤ j → ltb (partner Ts qs ss i) (length Ts) ≡ false
  no-partner i j e h = rw (← e) (le-ltb j (length Ts) h)

  -- the ways out of `meeting`
  pub meeting-found : (i j t : ℕ) → i ≡ opener Ts qs ss → j ≡ partner Ts qs ss i → j < length Ts → i < length Ts → t ≡ tick_at Ts qs ss i j
      → pair 10 i j t ≡ meeting_of Ts qs ss
  unfolding meeting_of
  meeting-found i j t e f h k g = rw (← e, ← f, ← g, lt-ltb i (length Ts) k)

  pub meeting-none : (i : ℕ) → i ≡ opener Ts qs ss → length Ts ≤ i → done ≡ meeting_of Ts qs ss
  unfolding meeting_of
  meeting-none i e h = rw (← e, le-ltb i (length Ts) h)
