use Rattle.std.proofs.Common.{arith}
use Rattle.closure.specs.Allowances.{cell}
use Rattle.closure.proofs.ClosureFacts.{is_largest}
use Rattle.closure.proofs.Closure.largest.Goals as goal

pub returns : goal.returns
returns c =
    let self = c.args.self.now in
    is_largest self.system.now (cell self.matrix.cells) self.bounds self.closes c.loop-mark.totals (omega (arith, self.sized, c.loop-mark.invariant.0))
    (λ mark h. c.loop-mark.invariant.1 mark (omega (arith, self.sized)))
