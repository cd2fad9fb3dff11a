use Rattle.std.proofs.Common.{[], take}
use Rattle.ledger.specs.Ledgers.{ledger}
use Rattle.plan.specs.Building.{Builds}
use Rattle.plan.proofs.building.of_days.Given as goal

-- the days so far, and no rule
abbrev pub invariant-loop-entry : goal.invariant-loop-entry
invariant-loop-entry g l = Builds (ledger g.E.Entry (take l.entry-index l.entries) []) l.system
