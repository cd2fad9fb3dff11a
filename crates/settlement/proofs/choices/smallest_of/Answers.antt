use Rattle.std.proofs.Common.{◌≡◌, to_z, of_z, w16, ◌∙◌, ap, arith, rules}
use Rattle.std.proofs.lemmas.Int.{ints}
use Rattle.entry.specs.Cells.{weigh}
use Rattle.settlement.proofs.choices.smallest_of.Goals as goal
use Rattle.settlement.proofs.choices.smallest_of.Goals.{else-holds-via-then-holds+else-weight, else-holds-via-else-holds}

pub returns-then-weight : goal.returns-then-weight
returns-then-weight g c =
    let same : to_z w16 (of_z w16 c.args.weight) ≡ c.args.weight = search rules in
    let weight = g.met.E.Entry.weights c.args.entry.now c.loop-code.code in
    ((search rules, omega (arith, ints, g.met.E.Entry.range)), rw same at c.loop-code.invariant)

pub loop-code-preserved : goal.loop-code-preserved
loop-code-preserved g c = λ other is.
    let le = c.loop-code.invariant other is in
    let same : to_z w16 (of_z w16 c.args.weight) ≡ c.args.weight = search rules in
    elim c.else-holds.branch [
      | else-holds-via-then-holds+else-weight w ↦
          let weight : weigh (g.E.Entry.meaning c.args.entry.now) other ≡ of_z w16 c.args.weight = ap (of_z w16) (is.1 ∙ same) in
          grind arith
      | else-holds-via-else-holds w ↦ grind arith
    ]

pub unreachable-requires : goal.unreachable-requires
unreachable-requires g c =
    let same : to_z w16 (of_z w16 c.args.weight) ≡ c.args.weight = search rules in
    let (code, is) = c.requires in
    let low = g.met.E.Entry.codes code (g.met.E.Entry.holdings c.args.entry.now code is.0) in
    let le = (rw same at c.loop-code.invariant) code is in
    absurd (omega arith)
