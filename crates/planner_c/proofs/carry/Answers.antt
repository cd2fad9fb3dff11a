use Rattle.std.proofs.Common.{◌∙◌}
use Rattle.planner_c.proofs.NumberFacts.{tells}
use Rattle.planner_c.proofs.carry.Goals as goal

pub returns : goal.returns
returns c =
    let carried = c.carry-carried in
    tells c.args.sheet.now c.args.answers.now carried.new.answers carried.result.ended c.from.result carried.result.count
    (c.from.ensures ∙ c.number.ensures) carried.ensures.few carried.ensures.answers carried.ensures.only carried.ensures.within carried.ensures.beyond
