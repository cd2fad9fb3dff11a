use Rattle.std.proofs.Common.{◌≡◌, pos, length, ap, sym, ◌∙◌, ⊎_elim, arith}
use Rattle.std.proofs.lemmas.Bool.{cases_lt}
use Rattle.std.proofs.lemmas.Int.{ints}
use Rattle.std.proofs.lemmas.List.{get_or_past}
use Rattle.limits.specs.Systems.{at_mark}
use Rattle.limits.proofs.Writing.{written_more}
use Rattle.chains.proofs.StartFacts.{zeros, starts_in_range}
use Rattle.chains.proofs.layers.lightest_totals.Goals as goal

pub loop-mark-preserved : goal.loop-mark-preserved
loop-mark-preserved c =
    let written = c.loop-mark.invariant in
    let low = c.lightest-totals.ensures in
    let long : length c.lightest-totals.result.now ≡ length c.args.system.now.lightest = ap length low.totals in
    let few = low.bounds.few in
    let from = c.from.ensures in
    written_more (pos 0) 0 c.loop-mark.mark _ _ c.loop-mark.layer _ (omega arith) (omega (arith, written.long)) (omega (arith, ints)) written

-- copied up to the last mark, and zero past it
pub returns-clause-totals : goal.returns-clause-totals
returns-clause-totals c = λ mark.
    let written = c.loop-mark.invariant in
    let totals = c.lightest-totals.ensures.totals in
    ⊎_elim
    (λ inside. written.done mark (omega arith) (omega arith) ∙ ap (λ xs. at_mark xs mark) totals)
    (λ past. written.left mark (λ from. omega arith) ∙ zeros 129 mark ∙ sym (get_or_past c.lightest-totals.result.now mark (pos 0) past) ∙ ap (λ xs. at_mark xs mark) totals)
    (cases_lt mark (length c.lightest-totals.result.now))

pub returns-clause-range : goal.returns-clause-range
returns-clause-range c =
    starts_in_range c.args.system.now c.loop-mark.layer c.lightest-totals.ensures.bounds (returns-clause-totals c)
