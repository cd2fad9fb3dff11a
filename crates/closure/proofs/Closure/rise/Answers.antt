use Rattle.std.proofs.Common.{◌≡◌, neg_ℤ, to_z, of_z, w16, arith}
use Rattle.std.proofs.lemmas.Int.{ints}
use Rattle.closure.specs.Allowances.{cell}
use Rattle.closure.proofs.ClosureFacts.{reaches}
use Rattle.closure.proofs.Closure.rise.Goals as goal

pub returns-clause-rise : goal.returns-clause-rise
returns-clause-rise c =
    let self = c.args.self.now in
    let low : c.least.result ≡ neg_ℤ (cell self.matrix.cells c.args.to.0 c.args.from.0) = rw (← c.index-to.ensures, ← c.index-from.ensures) c.least.ensures in
    let high : c.most.result ≡ cell self.matrix.cells c.args.from.0 c.args.to.0 = rw (← c.index-to.ensures, ← c.index-from.ensures) c.most.ensures in
    let least : to_z w16 (of_z w16 c.least.result) ≡ neg_ℤ (cell self.matrix.cells c.args.to.0 c.args.from.0) = omega (arith, ints, low) in
    let most : to_z w16 (of_z w16 c.most.result) ≡ cell self.matrix.cells c.args.from.0 c.args.to.0 = omega (arith, ints, high) in
    rw (least, most)
    (reaches self.system.now (cell self.matrix.cells) self.bounds self.closes c.args.from.0 c.args.to.0 (omega (arith, self.sized), omega (arith, self.sized)))
