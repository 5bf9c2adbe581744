-- TEXT THAT A PRINTER PUTS BEHIND WHAT IT PUT BEFORE.
--     Puts before text after    the text stands at the printer's place, in the same lent bytes, and the place is now behind it
--     puts_length               no byte is added or lost
--     puts_room                 what is left of the room for a longer text
--     puts_none, puts_on        no text, and text put behind text is one text
--     put-over                  what a printer put at the start of lent bytes was put there
-- Assumes nothing.
use Rattle.std.specs.Prelude.{◌≡◌, refl, List, [], ◌++◌, ℕ, ◌+◌, ◌≤◌, length}
use Rattle.std.proofs.Common.{sym, ◌∙◌, add-zero, arith, length-append}
use Rattle.text.specs.declared.Printer.{Printer}
use Rattle.text.specs.Putting.{Put, put-length, put_on}

pub record Puts (before : Printer) (text : List ℕ) (after : Printer) : Type 0 where
  pub same : after.page.ghost_name ≡ before.page.ghost_name
  pub put : Put before.page.now before.at text after.at after.page.now

pub puts_length : {before after : Printer} {text : List ℕ} → Puts before text after → length after.page.now ≡ length before.page.now
puts_length p = put-length p.put

pub puts_room : {before after : Printer} {text : List ℕ} (more : List ℕ) → Puts before text after → before.at + length (text ++ more) ≤ length before.page.now → after.at + length more ≤ length after.page.now
puts_room {text = text} more p h = omega (arith, h, length-append text more, p.put.place, puts_length p)

pub puts_none : (p : Printer) → Puts p [] p
puts_none p = record { same = refl; put = record { bytes = refl; place = sym (add-zero p.at) } }

pub puts_on : {before mid after : Printer} {one two : List ℕ} → Puts before one mid → Puts mid two after → Puts before (one ++ two) after
puts_on p q = record { same = q.same ∙ p.same; put = put_on p.put q.put }

pub put-over : (before after : Printer) (out text new : List ℕ) → Puts before text after → before.page.now ≡ out → before.at ≡ 0 → after.page.now ≡ new → Put out 0 text after.at new
put-over before after out text new p o z n = rw (← o, ← z, ← n) p.put
