use Rattle.std.proofs.Common.{arith}
use Rattle.kinds.proofs.DutyFacts.{grants_off, grants_on, grants_neither}
use Rattle.kinds.proofs.duty.DutyEntry.grant.Goals as goal

pub returns-in-0 : goal.returns-in-0
returns-in-0 c = grants_off c.args.self.now c.args.code (omega arith)

pub returns-in-1 : goal.returns-in-1
returns-in-1 c = grants_on c.args.self.now c.args.code (omega arith)

pub returns-in_default : goal.returns-in_default
returns-in_default c = grants_neither c.args.self.now c.args.code (λ e. omega arith) (λ e. omega arith)
