use Rattle.std.proofs.Common.{◌≡◌, take}
use Rattle.chains.proofs.walk.blocking_chain.Given as goal

abbrev pub invariant-loop-step : goal.invariant-loop-step
invariant-loop-step l = l.chain ≡ take l.step-index l.step-items
