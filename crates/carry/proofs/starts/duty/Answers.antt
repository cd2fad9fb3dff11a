use Rattle.carry.proofs.StartFacts.{duty_beyond}
use Rattle.carry.proofs.starts.duty.Goals as goal

pub returns-then-codes : goal.returns-then-codes
returns-then-codes c held keeps = duty_beyond c.args.codes held keeps c.if-codes.true
