use Rattle.std.proofs.Common.{◌≡◌, take, take_all, arith}
use Rattle.text.specs.Printing.{puts_room, puts_none, puts_on}
use Rattle.text.proofs.Spaced.{numbers_none, numbers_spaced, numbers_next, numbers_length, numbers_room}
use Rattle.text.proofs.Printer.put_numbers.Goals as goal

pub returns-in_default : goal.returns-in_default
returns-in_default c = rw (numbers_none c.args.numbers.now (c.in_default.ensures {u = tt}).cases) (puts_none _)

pub put_number-requires : goal.put_number-requires
put_number-requires c = omega (arith, c.requires, numbers_length c.in-Some.first.now c.in-Some.rest.now (c.in-Some.ensures {u = tt}).cases.0)

pub loop-x-init : goal.loop-x-init
loop-x-init c = puts_none _

pub put_byte-requires : goal.put_byte-requires
put_byte-requires c =
    let room = numbers_room c.in-Some.first.now c.in-Some.rest.now c.loop-x.x-index (c.in-Some.ensures {u = tt}).cases.0 c.requires c.put_number.ensures c.loop-x.invariant c.loop-x-test.true in
    omega (arith, room)

pub put_number-requires-in-loop-x : goal.put_number-requires-in-loop-x
put_number-requires-in-loop-x c =
    let room = numbers_room c.in-Some.first.now c.in-Some.rest.now c.loop-x.x-index (c.in-Some.ensures {u = tt}).cases.0 c.requires c.put_number.ensures c.loop-x.invariant c.loop-x-test.true in
    puts_room _ c.put_byte.ensures room

pub loop-x-preserved : goal.loop-x-preserved
loop-x-preserved c = rw (numbers_next c.in-Some.rest.now c.loop-x.x-index (omega arith)) (puts_on c.loop-x.invariant (puts_on c.put_byte.ensures c.put_number-in-loop-x.ensures))

pub returns : goal.returns
returns c =
    let put = puts_on c.put_number.ensures c.loop-x.invariant in
    let all : take c.loop-x.x-index c.in-Some.rest.now ≡ c.in-Some.rest.now = take_all c.loop-x.x-index c.in-Some.rest.now (omega arith) in
    rw (numbers_spaced c.in-Some.first.now c.in-Some.rest.now (c.in-Some.ensures {u = tt}).cases.0) (rw all at put)
