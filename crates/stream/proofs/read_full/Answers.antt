use Rattle.std.proofs.Common.{◌≡◌, ℕ, ◌+◌, ◌-◌, ◌≤◌, List, ◌++◌, rules, length, take, sym, ap, ◌∙◌, subst, le_refl, drop_at, length-take-le}
use Rattle.std.proofs.lemmas.Slice.{take-put_mid_below}
use Rattle.std.specs.Io.KnownBytes.{Consumes}
use Rattle.std.proofs.KnownBytes.{Consumes-trans}
use borrow.Rule.Slice.PartMut.{put_mid, post_of}
use lib.Seq.{take-add, take-append-le}
use Rattle.stream.proofs.read_full.Goals as goal

-- what was read stands behind what stood before it
read-behind : (a k n : ℕ) (xs ys : List ℕ) → a ≤ length xs → n ≤ length ys → take a xs ++ take n ys ≡ take (a + n) (put_mid a k xs ys)
read-behind a k n xs ys within fits =
    let below = sym (take-put_mid_below a k xs ys a (le_refl _) within) in
    let part = sym (take-append-le n ys (post_of a k xs) fits) ∙ ap (take n) (sym (drop_at (take a xs) (ys ++ post_of a k xs) a (length-take-le a xs within))) in
    ap (λ l. l ++ take n ys) below ∙ ap (λ l. take a (put_mid a k xs ys) ++ l) part ∙ sym (take-add a n (put_mid a k xs ys))

pub loop-done-preserved : goal.loop-done-preserved
loop-done-preserved g c =
    (search rules, subst (Consumes _ _) (read-behind c.loop-done.done (length c.loop-done.buf - c.loop-done.done) c.in-Ok.n c.loop-done.buf c.read.new.buf c.loop-done.invariant.0 c.in-Ok.ensures.bound.0) (Consumes-trans _ _ _ _ _ c.loop-done.invariant.1 c.in-Ok.ensures.bytes.0))
