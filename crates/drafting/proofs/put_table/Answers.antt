use Rattle.text.specs.Printing.{puts_on}
use Rattle.drafting.proofs.put_table.Goals as goal

pub returns-clause-puts : goal.returns-clause-puts
returns-clause-puts c = puts_on (rw c.of-table.ensures at c.put_head.ensures.puts) c.put_probes.ensures.puts
