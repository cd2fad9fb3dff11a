use Rattle.std.proofs.Common.{◌≡◌, take, length, slice_index_or, arith, length-take}
use Rattle.std.proofs.lemmas.List.{take_more}
use Rattle.ledger.specs.Rules.{no_rule}
use Rattle.ledger.proofs.Firsts.{ends_inside}
use Rattle.plan.proofs.BuildFacts.{builds_rule, builds_withdrawn}
use Rattle.plan.proofs.building.add_rules.Goals.{then-rule, else-rule}
use Rattle.plan.proofs.building.add_rules.Goals as goal

pub loop-index-preserved : goal.loop-index-preserved
loop-index-preserved c = λ p fits start.
    let k = c.loop-index.index in
    let rules = c.args.book.now in
    let read = c.rules-rule-items.ensures in
    let before = c.loop-index.invariant p fits start in
    let lt = rw read.rules at c.loop-index-test.true in
    let room = rw read.rules at read.room in
    let bounds = rw read.rules at read.bounds in
    let front = take k rules in
    let long : k ≡ length front = omega (arith, length-take k rules) in
    let rule = slice_index_or rules k no_rule in
    rw (take_more rules k no_rule lt)
    (elim c.if-rule.branch [
      | then-rule w ↦
          let on = rw read.rules at w.if-rule.true in
          let inside = ends_inside rules (length p.days) fits.1 k lt on in
          rw (w.system-is, w.add_rule.ensures.after, read.rules)
          (builds_rule p front rule c.loop-index.system k long on before (bounds k lt) inside fits.0 (omega arith))
      | else-rule w ↦
          rw w.system-is (builds_withdrawn p front rule c.loop-index.system (rw read.rules at w.if-rule.false) before)
    ])
