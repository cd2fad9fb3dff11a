use Rattle.std.proofs.Common.{◌≡◌, [], ap, arith}
use Rattle.std.proofs.lemmas.Int.{ints, clamps}
use Rattle.limits.specs.Systems.{at_mark}
use Rattle.closure.specs.Allowances.{cell}
use Rattle.limits.proofs.Writing.{written_more}
use Rattle.closure.proofs.StepFacts.{Lowered}
use Rattle.closure.proofs.steps.pass.Goals as goal

pub loop-from-preserved : goal.loop-from-preserved
loop-from-preserved c =
    let written = c.loop-from.invariant in
    let from = c.loop-from.from in
    let row = written.left from (λ h. omega arith) in
    written_more [] 0 from (Lowered c.args.marks c.args.via c.args.cells.now) c.args.cells.now c.loop-from.cells c.lower.new.row
    (omega arith) (omega (arith, written.long, c.told-cells))
    (λ to h.
    let first : cell c.loop-from.cells from c.args.via ≡ cell c.args.cells.now from c.args.via = ap (λ xs. at_mark xs c.args.via) row in
    let here : cell c.loop-from.cells from to ≡ cell c.args.cells.now from to = ap (λ xs. at_mark xs to) row in
    omega (arith, ints, clamps, c.lower.ensures to (omega arith) (c.requires.near c.args.via to c.requires.inside.0 h)))
    written
