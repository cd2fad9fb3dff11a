-- What holds of a plan's system while it is built.
use Rattle.std.specs.Prelude.{◌≡◌, ◌≤◌, None, length}
use Rattle.ledger.specs.Ledgers.{Ledger, rule_past_days}
use Rattle.limits.specs.Systems.{System}
use Rattle.plan.specs.Tables.{Represents}

-- there are no more than 128 days, and rules in force end within them
abbrev pub RulesFit : Ledger → Type 0
RulesFit l = (length l.days ≤ 128) × (rule_past_days l ≡ None)

-- the system is the plan's, with a mark before the first day
pub record Builds (l : Ledger) (s : System) : Type 0 where
  pub represents : Represents l s
  pub marked : 1 ≤ length s.lightest
