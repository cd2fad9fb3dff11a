use Rattle.std.proofs.Common.{rules, arith}
use Rattle.std.proofs.lemmas.Bool.Decides.{nat_tests}
use Rattle.ledger.proofs.DayFacts.{strikes_on_day}
use Rattle.ledger.proofs.days.strike.Goals as goal

pub returns : goal.returns
returns g c =
    let edit = c.edit_day in
    strikes_on_day g.E.Entry c.args.entries.now c.args.day _ _ c.args.code edit.result edit.new.entries
    (λ shown left r called. search rules) _ edit.ensures (grind (arith, nat_tests))
