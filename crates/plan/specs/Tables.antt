-- The table of limits of a plan, and the system that has exactly its links.
use Rattle.std.specs.Prelude.{◌≡◌, ℕ, ◌+◌, ◌*◌, ◌<◌, ◌≤◌, true, All, Contains, count_by, length}
use Rattle.entry.specs.Weights.{lightest, heaviest}
use Rattle.ledger.specs.Ledgers.{Ledger, day_of}
use Rattle.ledger.specs.Rules.{Book, numbered, stands}
use Rattle.limits.specs.declared.link.Link.{Link}
use Rattle.limits.specs.declared.link.Limit.{Limit}
use Rattle.limits.specs.declared.link.Limit.TheVariants.{Most, Least, Heaviest, Lightest}
use Rattle.limits.specs.Links.{heaviest_of, lightest_of, most_of, least_of}
use Rattle.limits.specs.Systems.{System, days}

abbrev pub IsDay : Ledger → ℕ → Type 0
IsDay l day = (0 < day) × (day ≤ length l.days)

-- the plan has the limit: its rule is in force, or its day is one of the plan's
abbrev pub Has : Ledger → Limit → Type 0
Has l (Most number) = stands l.rules number ≡ true
Has l (Least number) = stands l.rules number ≡ true
Has l (Heaviest day) = IsDay l day
Has l (Lightest day) = IsDay l day

-- the link of a limit that the plan has
abbrev pub line_of : Ledger → Limit → Link
line_of l (Most number) = let r = numbered l.rules number in most_of number r.first r.last r.most
line_of l (Least number) = let r = numbered l.rules number in least_of number r.first r.last r.least
line_of l (Heaviest day) = heaviest_of day (heaviest (day_of l day))
line_of l (Lightest day) = lightest_of day (lightest (day_of l day))

-- the link is a line of the plan's table
abbrev pub InTable : Ledger → Link → Type 0
InTable l k = Has l k.limit × (k ≡ line_of l k.limit)

abbrev pub count_in_force : Book → ℕ
count_in_force rules = count_by (λ r. r.in_force) rules

-- the system is the plan's: it has as many days, and for links exactly the lines of the table, each once, in whatever order
pub record Represents (l : Ledger) (s : System) : Type 0 where
  pub days : days s ≡ length l.days
  pub known : All (InTable l) s.links
  pub whole : (limit : Limit) → Has l limit → Contains s.links (line_of l limit)
  pub once : length s.links ≡ 2 * length l.days + 2 * count_in_force l.rules
