-- Rosters: what they weigh, and when one is lawful.
use Rattle.std.specs.Prelude.{◌≡◌, ℕ, ◌-◌, Bool, not, ◌&&◌, ◌||◌, List, length, take, sum_by, nat_le}
use Rattle.std.specs.List.{between, AllPass, zip}
use Rattle.entry.specs.Cells.{Meaning, held, weigh}
use Rattle.ledger.specs.declared.rule.Rule.{Rule}
use Rattle.ledger.specs.Ledgers.{Ledger}

-- one code for each day
abbrev pub Roster : Type 0
Roster = List ℕ

-- what the codes weigh together, each in the entry of its day
abbrev pub weight_of : List Meaning → Roster → ℕ
weight_of days roster = sum_by (λ p. weigh p.0 p.1) (zip days roster)

-- the total at a mark: the weight of the days before it
abbrev pub total : List Meaning → Roster → ℕ → ℕ
total days roster mark = weight_of (take mark days) (take mark roster)

-- of a list with one item for each day, the items from the rule's first day to its last
abbrev pub stretch : {X : Type 0} → Rule → List X → List X
stretch r xs = between (r.first - 1) r.last xs

abbrev pub stretch_weight : List Meaning → Roster → Rule → ℕ
stretch_weight days roster r = weight_of (stretch r days) (stretch r roster)

-- the entry of a day holds its code
abbrev pub holds_its_code : Meaning × ℕ → Bool
holds_its_code p = held p.0 p.1

-- the rule is withdrawn, or its stretch weighs from its least to its most
abbrev pub keeps : List Meaning → Roster → Rule → Bool
keeps days roster r =
    not r.in_force || (nat_le r.least (stretch_weight days roster r) && nat_le (stretch_weight days roster r) r.most)

-- one code for each day, each held by its day's entry, and every rule in force kept
pub record Lawful (l : Ledger) (roster : Roster) : Type 0 where
  pub long : length roster ≡ length l.days
  pub held : AllPass holds_its_code (zip l.days roster)
  pub kept : AllPass (keeps l.days roster) l.rules
