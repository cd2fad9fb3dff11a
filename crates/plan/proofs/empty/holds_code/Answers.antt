use Rattle.std.proofs.Common.{◌∙◌, refl, rules}
use Rattle.std.proofs.lemmas.Iterator.{YieldsList-from_range}
use Rattle.std.proofs.lemmas.Iterator.Search.{any_from_yields_List}
use Rattle.entry.specs.Cells.{held}
use Rattle.plan.proofs.EmptyFacts.{some_in_range}
use Rattle.plan.proofs.empty.holds_code.Goals as goal

pub returns : goal.returns
returns g c =
    let test = held (g.E.Entry.meaning c.args.entry.now) in
    any_from_yields_List test _ _ c.any.result c.any.ensures.ran (YieldsList-from_range 0 64 64 refl refl) (λ x b q k. search rules)
    ∙ some_in_range test 64
