use Rattle.std.proofs.Common.{[], take}
use Rattle.ledger.specs.Ledgers.{Ledger, with_rules}
use Rattle.plan.specs.Building.{Builds, RulesFit}
use Rattle.plan.proofs.building.add_rules.Given as goal

-- the rules so far
abbrev pub invariant-loop-index : goal.invariant-loop-index
invariant-loop-index l =
    (p : Ledger) → RulesFit (with_rules p l.book) → Builds (with_rules p []) l.initial.system
    → Builds (with_rules p (take l.index l.book)) l.system
