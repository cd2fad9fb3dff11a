use Rattle.std.proofs.Common.{arith}
use Rattle.answers.proofs.PuttingFacts.{puts_then}
use Rattle.answers.proofs.writing.put_one.Goals as goal

pub returns : goal.returns
returns c = puts_then (omega arith) c.put-end.ensures (puts_then (omega arith) c.put_number-end.ensures c.put.ensures)
