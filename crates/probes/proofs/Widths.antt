-- THE WIDTHS OF READS. In the base the wire is free at once, so a read's width is its length.
--     widths-none       widths 0 ps is ps
--     widths-at         the width of probe i is its length and the gap
--     sound-positive    the reads of a sound table take at least one tick
-- Assumes nothing.
use Rattle.std.specs.Prelude.{◌≡◌, refl, List, [], ◌∷◌, ℕ, zero, suc, ◌+◌, ◌<◌, length, get_or}
use Rattle.std.proofs.Common.{add-zero, arith}
use Rattle.lists.specs.Harmonic.{Positive}
use Rattle.probes.specs.Table.{widths}
use Rattle.probes.specs.Laws.{Soundness}

pub widths-none : (ps : List ℕ) → widths 0 ps ≡ ps
unfolding widths
widths-none [] = refl
widths-none (p ∷ ps) = rw (add-zero p, widths-none ps)

pub widths-at : (g : ℕ) (ps : List ℕ) (i : ℕ) → i < length ps → get_or (widths g ps) i 0 ≡ get_or ps i 0 + g
unfolding widths
widths-at g [] i h = absurd (omega arith)
widths-at g (p ∷ ps) zero h = refl
widths-at g (p ∷ ps) (suc i) h = widths-at g ps i (omega arith)

pub sound-positive : (Ts ps : List ℕ) → Soundness Ts ps → Positive (widths 0 ps) (length Ts)
sound-positive Ts ps s i h = rw (widths-none ps) (s.reads i h)
