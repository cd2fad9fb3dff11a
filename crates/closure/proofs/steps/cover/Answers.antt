use Rattle.std.proofs.Common.{◌≡◌, arith}
use Rattle.std.specs.Int.{int_min}
use Rattle.std.proofs.lemmas.Int.{ints, clamps}
use Rattle.limits.specs.Systems.{at_mark}
use Rattle.closure.specs.Allowances.{cell}
use Rattle.closure.proofs.StepFacts.{link_covered}
use Rattle.closure.proofs.steps.cover.Goals as goal

pub returns : goal.returns
returns c =
    let l = c.args.link in
    let lowered = rw (c.index.ensures, c.index-2.ensures) at c.lower_one.ensures.lowered in
    let is : at_mark c.lower_one.new.row l.to.0 ≡ int_min (cell c.args.cells.now l.from.0 l.to.0) l.allowance = omega (arith, ints, clamps, lowered) in
    rw c.index.ensures
    (link_covered l c.args.cells.now c.lower_one.new.row (omega (arith, c.told-cells)) is (rw (c.index.ensures, c.index-2.ensures) at c.lower_one.ensures.rest))
