use Rattle.std.proofs.Common.{◌≡◌, length, ap, arith}
use Rattle.closure.specs.Allowances.{cell}
use Rattle.closure.proofs.ClosingFacts.{closing_covers, closing_passes, closing_near, closing_ends}
use Rattle.closure.proofs.Closure.of.Goals as goal

pub loop-link-preserved : goal.loop-link-preserved
loop-link-preserved c =
    let links = c.links-link-items.ensures in
    let long : length c.links-link-items.result.now ≡ length c.args.agreed.now.system.now.links = ap length links.links in
    closing_covers c.args.agreed.now.system.now links.bounds c.args.agreed.now.solvable
    c.loop-link.link-index _ (cell c.loop-link.cells) (cell c.cover.new.cells) (omega arith) (rw links.links at c.cover.ensures) c.loop-link.invariant

pub pass-requires-clause-near : goal.pass-requires-clause-near
pass-requires-clause-near c =
    let s = c.args.agreed.now.system.now in
    rw c.days-marks.ensures.answer
    (closing_near s c.links-link-items.ensures.bounds c.args.agreed.now.solvable (length s.links) c.loop-via.via (cell c.loop-via.cells) c.loop-via.invariant)

pub loop-via-preserved : goal.loop-via-preserved
loop-via-preserved c =
    closing_passes c.args.agreed.now.system.now c.links-link-items.ensures.bounds c.args.agreed.now.solvable
    c.loop-via.via (cell c.loop-via.cells) (cell c.pass.new.cells) (omega (arith, c.days-marks.ensures)) (rw c.days-marks.ensures.answer at c.pass.ensures) c.loop-via.invariant

pub invariant_of-result : goal.invariant_of-result
invariant_of-result c =
    let s = c.args.agreed.now.system.now in
    record {
      few = omega (arith, c.days-marks.ensures);
      near = rw c.days-marks.ensures.answer
          (closing_near s c.links-link-items.ensures.bounds c.args.agreed.now.solvable (length s.links) c.loop-via.via (cell c.loop-via.cells) c.loop-via.invariant);
    }

pub invariant_of-result-2-clause-closes : goal.invariant_of-result-2-clause-closes
invariant_of-result-2-clause-closes c =
    closing_ends c.args.agreed.now.system.now c.links-link-items.ensures.bounds c.args.agreed.now.solvable c.loop-via.via (cell c.loop-via.cells)
    (omega (arith, c.days-marks.ensures)) c.loop-via.invariant
