use Rattle.std.proofs.Common.{pos, ◌∙◌, arith}
use Rattle.std.proofs.lemmas.Int.{ints}
use Rattle.limits.proofs.Writing.{written_more}
use Rattle.closure.proofs.rows.days_from.Goals as goal

pub loop-to-preserved : goal.loop-to-preserved
loop-to-preserved c =
    let written = c.loop-to.invariant in
    let here = c.requires.small c.loop-to.to (omega arith) in
    let base = c.requires.small c.args.from (omega arith) in
    written_more (pos 0) 0 c.loop-to.to _ _ c.loop-to.row _ (omega arith) (omega (arith, written.long)) (omega (arith, ints)) written

pub loop-to-2-preserved : goal.loop-to-2-preserved
loop-to-2-preserved c =
    let written = c.loop-to-2.invariant in
    let here = c.requires.small c.loop-to-2.to (omega arith) in
    let base = c.requires.small c.args.from (omega arith) in
    written_more (pos 0) c.args.from c.loop-to-2.to _ _ c.loop-to-2.row _ (omega arith) (omega (arith, written.long, c.loop-to.invariant.long)) (omega (arith, ints)) written

pub returns : goal.returns
returns c =
    let back = c.loop-to.invariant in
    let forth = c.loop-to-2.invariant in
    record {
      back = λ to h. forth.left to (λ from. omega arith) ∙ back.done to (omega arith) (omega arith);
      forth = λ to from h. forth.done to from (omega arith);
    }
