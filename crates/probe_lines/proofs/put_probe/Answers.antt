use native.Mathlib.Omega.{arith}
use Rattle.text.specs.Printing.{puts_length, puts_on}
use Rattle.probe_lines.proofs.Lines.{numbers_short, start_short, probe_text}
use Rattle.probe_lines.proofs.put_probe.Goals as goal

pub put_start-requires : goal.put_start-requires
put_start-requires c =
    let numbers = numbers_short c.from.result c.from-2.result c.from-3.result (omega arith) (omega arith) (omega arith) in
    omega (arith, numbers, start_short c.args.start (omega arith), puts_length c.put_numbers.ensures, puts_length c.put_byte.ensures, c.put_numbers.ensures.put.place, c.put_byte.ensures.put.place)

pub put_byte-requires-2 : goal.put_byte-requires-2
put_byte-requires-2 c =
    let put = puts_on c.put_numbers.ensures (puts_on c.put_byte.ensures c.put_start.ensures) in
    let numbers = numbers_short c.from.result c.from-2.result c.from-3.result (omega arith) (omega arith) (omega arith) in
    omega (arith, numbers, start_short c.args.start (omega arith), puts_length put, c.put_numbers.ensures.put.place, c.put_byte.ensures.put.place, c.put_start.ensures.put.place)

pub returns-clause-puts : goal.returns-clause-puts
returns-clause-puts c =
    rw (← probe_text c.args.i c.args.period c.args.read c.args.start)
    (rw (c.from.ensures, c.from-2.ensures, c.from-3.ensures) at (puts_on c.put_numbers.ensures (puts_on c.put_byte.ensures (puts_on c.put_start.ensures c.put_byte-2.ensures))))
