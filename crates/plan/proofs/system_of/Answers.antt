use Rattle.std.proofs.Common.{◌≡◌, None, sym, ap, ◌∙◌, arith}
use Rattle.ledger.specs.Ledgers.{ledger, failing, ends_within, rule_past_days}
use Rattle.plan.proofs.system_of.Goals as goal

pub returns-clause-system : goal.returns-clause-system
returns-clause-system g c =
    let book = c.args.book.now in
    let plan = ledger g.E.Entry c.args.entries.now book in
    let days = c.in_ok-days.ensures in
    let within : rule_past_days plan ≡ None =
    ap (λ n. failing (ends_within n) book) (sym days.0) ∙ sym c.past_days.ensures.answer ∙ c.in_default-past_days.is in
    (c.add_rules.ensures plan (omega (arith, days), within) c.of_days-system.ensures).represents
