use Rattle.std.proofs.Common.{not, ◌∙◌, rules, arith}
use Rattle.std.proofs.lemmas.Iterator.{YieldsList-from_slice}
use Rattle.std.proofs.lemmas.Iterator.Search.{position_from_yields_List}
use borrow.Author.Tests.{tests}
use Rattle.ledger.specs.Ledgers.{ends_within}
use Rattle.ledger.proofs.Firsts.{failing_from_position}
use Rattle.ledger.proofs.book.Book.past_days.Goals as goal

pub returns-clause-answer : goal.returns-clause-answer
returns-clause-answer c =
    let test = ends_within c.args.days in
    let few = rw c.rules-rules.ensures.rules at c.rules-rules.ensures.room in
    c.counted_from_one.ensures
    ∙ failing_from_position test c.args.self.now c.position.result (omega arith)
    (position_from_yields_List (λ rule. not (test rule)) _ _ _ c.position.ensures.ran (YieldsList-from_slice c.args.self.now cc)
    (λ x b q k. search (rules, tests)))
