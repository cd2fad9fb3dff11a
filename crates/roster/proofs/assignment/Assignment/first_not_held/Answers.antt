use Rattle.std.proofs.Common.{map, not, ◌∙◌, rules, arith}
use Rattle.std.specs.List.{zip}
use Rattle.std.proofs.lemmas.Int.{clamps}
use Rattle.std.proofs.lemmas.List.{length-map}
use Rattle.std.proofs.lemmas.Slice.Zip.{length-zip}
use Rattle.std.proofs.lemmas.Iterator.Search.{position_from_yields_List}
use borrow.Author.Tests.{tests}
use Rattle.ledger.specs.Rosters.{holds_its_code}
use Rattle.ledger.proofs.Firsts.{failing_from_position}
use Rattle.roster.proofs.Meanings.{yields_meanings}
use Rattle.roster.proofs.assignment.Assignment.first_not_held.Goals as goal

pub returns : goal.returns
returns g c =
    let meaning = g.E.Entry.meaning in
    let plan = c.args.self.now in
    let days = map meaning plan.entries.now in
    let few = length-map plan.entries.now meaning in
    let long = length-zip days plan.roster.now in
    c.counted_from_one.ensures
    ∙ failing_from_position holds_its_code (zip days plan.roster.now) c.position.result (omega (arith, clamps, plan.few))
    (position_from_yields_List (λ p. not (holds_its_code p)) c.position.new.self _ _ c.position.ensures.ran
    (yields_meanings meaning plan.entries.now plan.roster.now (cc) (cc)) (λ x b q k. search (rules, tests)))
