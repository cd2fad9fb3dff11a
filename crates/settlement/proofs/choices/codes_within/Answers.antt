use Rattle.std.proofs.Common.{◌≡◌, pos, to_z, of_z, w16, arith, rules}
use Rattle.std.proofs.lemmas.Int.{ints}
use Rattle.entry.specs.Cells.{weigh}
use Rattle.settlement.specs.Choices.{within}
use Rattle.settlement.proofs.ChoiceFacts.{passed_in, passed_by}
use Rattle.settlement.proofs.choices.codes_within.Goals as goal
use Rattle.settlement.proofs.choices.codes_within.Goals.{then-holds+then-rise-weight+then-weight-rise, else-holds, else-holds-via-then-holds+then-rise-weight+else-weight-rise, else-holds-via-then-holds+else-rise-weight, else-holds-via-else-holds}

pub loop-code-preserved : goal.loop-code-preserved
loop-code-preserved g c =
    let m = g.E.Entry.meaning c.args.entry.now in
    let code = c.loop-code.code in
    let p = within m c.args.rise.least c.args.rise.most in
    let weight : to_z w16 c.weight-weight.result ≡ pos (weigh m code) =
    omega (arith, ints, g.met.E.Entry.weights c.args.entry.now code, g.met.E.Entry.range) in
    let least : to_z w16 (of_z w16 c.args.rise.least) ≡ c.args.rise.least = search rules in
    let most : to_z w16 (of_z w16 c.args.rise.most) ≡ c.args.rise.most = search rules in
    elim c.if-holds.branch [
      | then-holds+then-rise-weight+then-weight-rise w ↦
          passed_in p code c.loop-code.set c.loop-code.invariant c.if-holds.set (omega arith)
          (rw w.set-is w.with-set.ensures.each) (grind arith)
      | else-holds w ↦
          rw w.set-is
          (passed_by p code c.loop-code.set c.loop-code.invariant
          (elim w.else-holds.branch [
            | else-holds-via-then-holds+then-rise-weight+else-weight-rise v ↦ grind arith
            | else-holds-via-then-holds+else-rise-weight v ↦ grind arith
            | else-holds-via-else-holds v ↦ grind arith
          ]))
    ]
