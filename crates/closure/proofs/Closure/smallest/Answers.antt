use Rattle.std.proofs.Common.{arith}
use Rattle.closure.specs.Allowances.{cell}
use Rattle.closure.proofs.ClosureFacts.{is_smallest}
use Rattle.closure.proofs.Closure.smallest.Goals as goal

pub returns : goal.returns
returns c =
    let self = c.args.self.now in
    is_smallest self.system.now (cell self.matrix.cells) self.bounds self.closes c.loop-mark.totals (omega (arith, self.sized, c.loop-mark.invariant.0))
    (λ mark h. c.loop-mark.invariant.1 mark (omega (arith, self.sized)))
