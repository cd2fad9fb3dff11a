use Rattle.std.proofs.Common.{length, refl, rules}
use Rattle.carry.proofs.CarryFacts.{carried_answers, carried_within, carried_few, carried_beyond}
use Rattle.carry.proofs.OneResult.{one_result}
use Rattle.carry.proofs.carry.Goals as goal

pub returns-clause-answers : goal.returns-clause-answers
returns-clause-answers c =
    carried_answers c.args.sheet.now c.args.answers.now c.new-answers.result c.work-ended.new.answers c.work-ended.result
    c.new-answers.ensures.list c.new-answers.ensures.count c.work-ended.ensures c.close.new.self c.close.ensures _ c.count.result (search rules) c.count.ensures

pub returns-clause-only : goal.returns-clause-only
returns-clause-only c bytes e carries =
    one_result c.args.sheet.now (length c.args.answers.now) bytes _ e c.work-ended.result carries (returns-clause-answers c)

pub returns-clause-within : goal.returns-clause-within
returns-clause-within c =
    carried_within c.args.sheet.now c.args.answers.now c.new-answers.result c.work-ended.new.answers c.work-ended.result
    c.new-answers.ensures.list c.new-answers.ensures.count c.work-ended.ensures c.close.new.self c.close.ensures _ c.count.result refl c.count.ensures

pub returns-clause-few : goal.returns-clause-few
returns-clause-few c =
    carried_few c.args.sheet.now c.args.answers.now c.new-answers.result c.work-ended.new.answers c.work-ended.result c.new-answers.ensures.list
    c.new-answers.ensures.count c.work-ended.ensures c.close.new.self c.close.ensures _ c.count.result refl c.count.ensures

pub returns-clause-beyond : goal.returns-clause-beyond
returns-clause-beyond c =
    carried_beyond c.args.sheet.now c.args.answers.now c.new-answers.result c.work-ended.new.answers c.work-ended.result
    c.new-answers.ensures.list c.new-answers.ensures.count c.work-ended.ensures c.close.new.self c.close.ensures _ c.count.result (search rules) c.count.ensures
