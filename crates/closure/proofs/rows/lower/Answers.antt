use Rattle.std.proofs.Common.{pos, arith, rules, ap, ◌∙◌, ◌+ℤ◌, w16, SFits}
use Rattle.std.proofs.lemmas.Int.{ints, wraps, to_z-of_z, int_wrap_fits}
use Rattle.std.specs.Int.{int_min}
use Rattle.limits.proofs.Writing.{written_more}
use Rattle.limits.specs.Systems.{at_mark}
use Rattle.closure.proofs.rows.lower.Goals as goal

pub loop-to-preserved : goal.loop-to-preserved
loop-to-preserved c =
    let written = c.loop-to.invariant in
    let old = written.left c.loop-to.to (λ h. omega arith) in
    let v = c.min.ensures.value in
    written_more (pos 0) 0 c.loop-to.to _ c.args.row.now c.loop-to.row _ (omega arith) (omega (arith, written.long)) (search (rules, wraps, to_z-of_z, v, old)) written

pub returns : goal.returns
returns c = λ to inside near.
    let done = c.loop-to.invariant.done to (omega arith) (omega arith) in
    let fits : SFits w16 (c.args.first +ℤ at_mark c.args.through.now to) = omega (arith, ints, c.requires) in
    done ∙ ap (int_min (at_mark c.args.row.now to)) (grind (arith, to_z-of_z, int_wrap_fits))
