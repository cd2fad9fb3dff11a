use Rattle.std.proofs.Common.{arith}
use Rattle.limits.specs.Systems.{System}
use Rattle.limits.proofs.SystemFacts.{bounds_with_rule}
use Rattle.limits.proofs.system.System.add_rule.Goals as goal

pub invariant_of-self : goal.invariant_of-self
invariant_of-self c =
    let before : System = record { links = c.self.inside.links; lightest = c.self.inside.lightest; heaviest = c.self.inside.heaviest } in
    rw c.add_both.ensures
    (bounds_with_rule before c.args.number c.args.first c.args.last c.args.least c.args.most c.self.invariant (omega arith) (omega arith) (omega arith) (omega arith) (omega arith))
