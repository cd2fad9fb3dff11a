use Rattle.std.proofs.Common.{◌≡◌, [], ◌∷◌, ◌++◌, arith}
use Rattle.std.proofs.lemmas.List.{length-map}
use Rattle.std.proofs.lemmas.Grind.{common_steps}
use Rattle.settlement.specs.Choices.{Rising}
use Rattle.settlement.proofs.ChoiceFacts.{day_more}
use Rattle.settlement.proofs.choices.possible_codes.Goals as goal

pub loop-index-preserved : goal.loop-index-preserved
loop-index-preserved g c =
    let entry = c.index-entries-index.result in
    let after : c.push.new.self ≡ c.loop-index.possible ++ c.codes_within.result ∷ [] = grind (arith, common_steps) in
    rw after
    (day_more g.E.Entry.meaning c.args.entries.now c.loop-index.index entry (omega arith) c.index-entries-index.is
    (Rising c.args.closure.now.system.now) c.loop-index.possible c.codes_within.result
    (c.in-Some.rise.least, c.in-Some.rise.most, c.in-Some.ensures.rise, c.codes_within.ensures)
    c.loop-index.invariant)

pub returns : goal.returns
returns g c =
    let daily = c.loop-index.invariant in
    record { long = omega (arith, length-map c.args.entries.now g.E.Entry.meaning); item = daily.item }
