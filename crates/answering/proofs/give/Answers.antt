use native.Mathlib.Omega.{arith}
use Rattle.exports.specs.Laws.{exports-short, exports-long}
use Rattle.answering.proofs.give.Goals as goal

pub returns-then-answer-lt-BYTES : goal.returns-then-answer-lt-BYTES
returns-then-answer-lt-BYTES c = rw c.from.ensures (exports-short _ _ _ c.if-answer-lt-BYTES.true)

pub returns : goal.returns
returns c =
    let t = c.tell in
    exports-long _ _ _ (omega arith) c.reply.result c.reply.ensures _ t.ensures.0 _ t.ensures.1
