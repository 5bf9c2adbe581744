-- `loading::load` meets its contract: the entries below i are those of the records. Assumes nothing.
use Rattle.std.proofs.Common.{◌≡◌, ◌≤◌, ◌++◌, refl, ap, ◌∙◌, arith, ℕ, List, length, take, drop, length-take-le}
use Rattle.std.proofs.lemmas.List.{append-nil}
use Rattle.std.proofs.Math.ListN.{drop_of_length-le}
use Rattle.sheets.specs.Layout.{first_edition}
use Rattle.sheets.specs.Blocks.{field, column}
use Rattle.sheets.proofs.Loading.{field_room, load-next}
use Rattle.loading.specs.declared.Field.{Field}
use Rattle.loading.specs.declared.Field.TheVariants.{Period, Length, Start}
use Rattle.loading.specs.Fields.{field_number}
use Rattle.loading.proofs.load.Goals as goal

field-most : (f : Field) → field_number f ≤ 2
field-most Period = omega arith
field-most Length = omega arith
field-most Start = omega arith

pub loop-i-init : goal.loop-i-init
unfolding column
loop-i-init c = refl

pub number-requires-clause-at_in_bounds : goal.number-requires-clause-at_in_bounds
number-requires-clause-at_in_bounds c =
    let long = length-take-le c.args.n c.args.into.now c.requires.n_in_bounds in
    omega (arith, field_room c.args.n (field_number c.args.field) c.loop-i.i _ (field-most c.args.field) (omega arith) c.requires.n_le_most_n c.requires.block_bytes_in_bounds)

pub loop-i-preserved : goal.loop-i-preserved
unfolding field
loop-i-preserved c =
    load-next first_edition c.args.book.now (field_number c.args.field) (take c.args.n c.args.into.now) c.loop-i.entry-items c.loop-i.i c.loop-i.invariant c.loop-i-test.true _
    (c.number.ensures ∙ rw c.place.ensures)

-- where every entry of a part is one of the column, the part is the column
whole : (xs l₀ : List ℕ) (col : ℕ → List ℕ) (i n : ℕ) → n ≤ length l₀ → i ≡ n → xs ≡ col i ++ drop i (take n l₀) → xs ≡ col n
whole xs l₀ col i n h e f =
    let all = drop_of_length-le (take n l₀) {i = n} (omega (arith, length-take-le n l₀ h)) in
    f ∙ rw (e, all) (append-nil (col n))

pub returns : goal.returns
returns c =
    let a = c.args in
    let long = length-take-le a.n a.into.now c.requires.n_in_bounds in
    ap (λ (xs : List ℕ). xs ++ drop a.n a.into.now)
    (whole c.loop-i.entry-items a.into.now (column first_edition a.book.now (field_number a.field) 0) c.loop-i.i a.n c.requires.n_in_bounds (omega arith) c.loop-i.invariant)
