use Rattle.std.proofs.Common.{not, ◌∙◌, rules, arith}
use Rattle.std.proofs.lemmas.Iterator.{YieldsList-from_slice}
use Rattle.std.proofs.lemmas.Iterator.Search.{position_from_yields_List}
use borrow.Author.Tests.{tests}
use Rattle.ledger.specs.Ledgers.{holds_code}
use Rattle.ledger.proofs.Firsts.{failing_from_position, failing-map}
use Rattle.plan.proofs.empty.first_empty.Goals as goal

pub returns : goal.returns
returns g c =
    let meaning = g.E.Entry.meaning in
    let entries = c.args.entries.now in
    c.counted_from_one.ensures
    ∙ failing_from_position (λ x. holds_code (meaning x)) entries c.position.result (omega (arith, c.requires))
    (position_from_yields_List (λ x. not (holds_code (meaning x))) _ _ _ c.position.ensures.ran (YieldsList-from_slice entries cc)
    (λ x b q k. search (rules, tests)))
    ∙ failing-map meaning holds_code entries
