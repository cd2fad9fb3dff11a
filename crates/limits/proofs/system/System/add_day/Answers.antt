use Rattle.std.proofs.Common.{◌≡◌, ◌+◌, ◌-◌, length, arith}
use Rattle.limits.specs.Systems.{System, days}
use Rattle.limits.proofs.SystemFacts.{totals_small, bounds_with_day}
use Rattle.limits.proofs.system.System.add_day.Goals as goal

pub raise-requires-clause-last : goal.raise-requires-clause-last
raise-requires-clause-last c =
    let bounds = c.self.invariant in
    let before : System = record { links = c.self.inside.links; lightest = c.self.inside.lightest; heaviest = c.self.inside.heaviest } in
    (totals_small before bounds (length c.self.inside.lightest - 1) (omega (arith, bounds.marked))).0

pub raise-requires-2-clause-last : goal.raise-requires-2-clause-last
raise-requires-2-clause-last c =
    let bounds = c.self.invariant in
    let before : System = record { links = c.self.inside.links; lightest = c.self.inside.lightest; heaviest = c.self.inside.heaviest } in
    (totals_small before bounds (length c.self.inside.heaviest - 1) (omega (arith, bounds.marked))).1

pub invariant_of-self : goal.invariant_of-self
invariant_of-self c =
    let before : System = record { links = c.self.inside.links; lightest = c.self.inside.lightest; heaviest = c.self.inside.heaviest } in
    let day : c.len-marks.result ≡ days before + 1 = omega (arith, c.self.invariant.marked) in
    rw (c.raise-2.ensures, c.raise.ensures, c.add_both.ensures, day)
    (bounds_with_day before c.args.lightest c.args.heaviest (omega arith) (omega arith) (omega (arith, c.self.invariant.marked)) c.self.invariant)
