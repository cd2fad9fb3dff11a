use Rattle.std.proofs.Common.{ap, arith}
use Rattle.tokens.specs.Lines.{listed}
use Rattle.answers.specs.Answers.{groups}
use Rattle.answers.proofs.PuttingFacts.{puts_then, puts_as}
use Rattle.answers.proofs.writing.put_agreement.Goals as goal

pub returns : goal.returns
returns c =
    let lean = puts_as c.put_roster-end.ensures (ap listed c.as_slice.ensures.items) in
    let full = puts_as c.put_roster-end-2.ensures (ap listed c.as_slice-2.ensures.items) in
    let possible = puts_as c.put_groups-end.ensures (ap (groups 1) c.as_slice-3.ensures.items) in
    let keep = puts_then (omega arith) c.put-end-3.ensures (puts_then (omega arith) possible c.put.ensures) in
    let from_full = puts_then (omega arith) c.put-end-2.ensures (puts_then (omega arith) full keep) in
    puts_then (omega arith) c.put-end.ensures (puts_then (omega arith) lean from_full)
