use Rattle.std.proofs.Common.{not, ◌∙◌, map, length, rules, arith}
use Rattle.std.proofs.lemmas.Iterator.{YieldsList-from_slice}
use Rattle.std.proofs.lemmas.Iterator.Adapters.{serves_from_places}
use Rattle.std.proofs.lemmas.Iterator.Search.{position_from_yields_List}
use borrow.Author.Tests.{tests}
use Rattle.ledger.specs.Rosters.{keeps}
use Rattle.roster.proofs.FaultFacts.{rules_within}
use Rattle.ledger.proofs.Firsts.{failing_from_position}
use Rattle.roster.proofs.assignment.Assignment.first_broken.Goals as goal

pub position-requires-clause-callable : goal.position-requires-clause-callable
position-requires-clause-callable g c =
    let days = length c.args.self.now.entries.now in
    let book = c.rules in
    let within = rules_within c.args.self.now.book.now book.result.now days book.ensures.rules book.ensures.bounds c.args.self.now.within in
    serves_from_places (YieldsList-from_slice book.result.now cc) (λ x q k. grind arith)
    (λ x k lt e. rw e (search (rules, within k x.now lt)))

pub returns : goal.returns
returns g c =
    let plan = c.args.self.now in
    let test = keeps (map g.E.Entry.meaning plan.entries.now) plan.roster.now in
    let few = rw c.rules.ensures.rules at c.rules.ensures.room in
    c.counted_from_one.ensures
    ∙ failing_from_position test c.args.self.now.book.now c.position.result (omega arith)
    (position_from_yields_List (λ rule. not (test rule)) _ _ _ c.position.ensures.ran (YieldsList-from_slice c.args.self.now.book.now cc)
    (λ x b q k. search (rules, tests)))
