use Rattle.std.proofs.Common.{arith}
use Rattle.std.proofs.lemmas.List.{get_or_past}
use Rattle.reader.proofs.FormTexts.{at_zero, at_lead, at_blank, at_close, at_other}
use Rattle.reader.proofs.state.after_text.Goals as goal

pub returns-in-35-eq48-clause-step : goal.returns-in-35-eq48-clause-step
returns-in-35-eq48-clause-step c = at_zero c.args.byte c.args.rest.now (grind arith) (grind arith)

pub returns-in-35-49-to-57-clause-step : goal.returns-in-35-49-to-57-clause-step
returns-in-35-49-to-57-clause-step c = at_lead c.args.byte c.args.rest.now (grind arith) (grind arith) (grind arith)

pub returns-in-42-eq32-clause-step : goal.returns-in-42-eq32-clause-step
returns-in-42-eq32-clause-step c = at_blank c.args.byte c.args.rest.now c.requires (grind arith) (grind arith)

pub returns-in-42-eq41-clause-step : goal.returns-in-42-eq41-clause-step
returns-in-42-eq41-clause-step c = at_close c.args.byte c.args.rest.now (cc) (cc) c.in-42-eq41.is-1

pub returns-in-35-default-clause-step : goal.returns-in-35-default-clause-step
returns-in-35-default-clause-step c =
    at_other c.args.byte c.args.rest.now c.requires (grind arith) (λ e d. grind arith) (λ e z. grind arith)
    (λ e e' z. grind (arith, get_or_past c.args.rest.now 1 0))
