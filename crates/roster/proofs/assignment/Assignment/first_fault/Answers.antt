use Rattle.std.proofs.Common.{length, sym, arith}
use Rattle.std.proofs.lemmas.List.{length-map}
use Rattle.ledger.specs.Ledgers.{ledger}
use Rattle.roster.proofs.FaultFacts.{day_fault, faultless, broken_within, rule_fault}
use Rattle.roster.proofs.assignment.Assignment.first_fault.Goals as goal

pub returns-in-Some-clause-found : goal.returns-in-Some-clause-found
returns-in-Some-clause-found g c = day_fault _ _ _ (sym c.in-Some.ensures)

pub returns-in_default-first_broken-clause-found : goal.returns-in_default-first_broken-clause-found
returns-in_default-first_broken-clause-found g c =
    let days = length-map c.args.self.now.entries.now g.E.Entry.meaning in
    faultless _ _ (omega (arith, days)) (sym c.in_default.ensures) (sym c.in_default-first_broken.ensures)

pub stretch-requires : goal.stretch-requires
stretch-requires g c =
    let plan = ledger g.E.Entry c.args.self.now.entries.now c.args.self.now.book.now in
    let rules = c.rules in
    let broken = c.in-Some-first_broken in
    let within = broken_within plan c.args.self.now.roster.now rules.result.now rules.ensures.rules broken.number
    (sym broken.ensures) (length c.args.self.now.entries.now) rules.ensures.bounds c.args.self.now.within in
    (within.0, within.1, omega (arith, within.2))

pub returns-clause-found : goal.returns-clause-found
returns-clause-found g c =
    let broken = c.in-Some-first_broken in
    rule_fault _ _ c.rules.result.now c.rules.ensures.rules broken.number (sym broken.ensures) c.stretch.result
    (sym c.in_default.ensures) c.stretch.ensures
