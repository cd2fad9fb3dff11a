use Rattle.std.proofs.Common.{arith}
use Rattle.kinds.proofs.DutyFacts.{strikes_last_off, strikes_last_on, strikes_off, strikes_on, strikes_neither}
use Rattle.kinds.proofs.duty.DutyEntry.strike.Goals as goal
use Rattle.kinds.proofs.duty.DutyEntry.strike.Goals.{then-self+else-not-self, else-self, then-self-2+else-not-self-2, else-self-2}

pub returns-in-0 : goal.returns-in-0
returns-in-0 c = strikes_last_off c.args.self.now c.args.code (omega arith) c.if-self.true c.if-not-self.true

pub returns-in-1 : goal.returns-in-1
returns-in-1 c = strikes_last_on c.args.self.now c.args.code (omega arith) c.if-self-2.true c.if-not-self-2.true

pub returns-in-0-2 : goal.returns-in-0-2
returns-in-0-2 c =
    strikes_off c.args.self.now c.args.code (omega arith)
    (λ t. elim c.if-self.branch [ then-self+else-not-self w ↦ cc | else-self w ↦ cc ])

pub returns-in-1-2 : goal.returns-in-1-2
returns-in-1-2 c =
    strikes_on c.args.self.now c.args.code (omega arith)
    (λ t. elim c.if-self-2.branch [ then-self-2+else-not-self-2 w ↦ cc | else-self-2 w ↦ cc ])

pub returns-in_default : goal.returns-in_default
returns-in_default c = strikes_neither c.args.self.now c.args.code (λ e. omega arith) (λ e. omega arith)
