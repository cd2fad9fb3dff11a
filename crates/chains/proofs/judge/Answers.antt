use Rattle.chains.proofs.Blocking.{blocks_all}
use Rattle.chains.proofs.judge.Goals as goal

pub returns-in-None-clause-excluded : goal.returns-in-None-clause-excluded
returns-in-None-clause-excluded c = blocks_all c.args.system.now

pub returns-in-Some-clause-excluded : goal.returns-in-Some-clause-excluded
returns-in-Some-clause-excluded c = blocks_all c.args.system.now
