use Rattle.std.proofs.Common.{rules}
use Rattle.std.proofs.lemmas.Iterator.{YieldsList-from_map}
use Rattle.std.proofs.lemmas.Iterator.Consumers.{sum_by_from_yields_List}
use borrow.Author.Tests.{tests}
use Rattle.entry.specs.Cells.{weigh}
use Rattle.roster.proofs.Meanings.{yields_meanings}
use Rattle.roster.proofs.stretches.weight_of.Goals as goal

pub returns : goal.returns
returns g c =
    sum_by_from_yields_List (λ p. weigh p.0 p.1) _ _ _ c.sum.ensures.ran
    (YieldsList-from_map _ (λ p. weigh p.0 p.1)
    (yields_meanings g.E.Entry.meaning c.args.entries.now c.args.roster.now (cc) (cc))
    c.map.ensures.closure (λ x r q k. search (rules, tests)))
