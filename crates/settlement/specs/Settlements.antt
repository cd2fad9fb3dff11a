-- What a settlement shows of a plan, and when that is true of the plan.
use Rattle.std.specs.Prelude.{◌≡◌, ℕ, ◌+◌, ◌-◌, ◌≤◌, Bool, true, false, ◌||◌, List, [], length, Some, None, Option, IsTrue, ◌↔◌, slice_get}
use Rattle.codes.specs.declared.set.CodeSet.{CodeSet}
use Rattle.codes.specs.Members.{member}
use Rattle.entry.specs.declared.traits.Entry.{Ghosts}
use Rattle.entry.specs.Cells.{Meaning, held, weigh}
use Rattle.entry.specs.Refusals.{Row, row_of, topmost}
use Rattle.ledger.specs.declared.call.Call.TheVariants.{Settle}
use Rattle.ledger.specs.Ledgers.{Ledger, kind_of, day_of, rows}
use Rattle.ledger.specs.Rosters.{Roster, Lawful, total}
use Rattle.ledger.specs.Rules.{Book}
use Rattle.limits.specs.declared.link.Link.{Link}
use Rattle.chains.specs.Chains.{Sound}
use Rattle.plan.specs.Tables.{IsDay, InTable}
use Rattle.settlement.specs.declared.verdict.Verdict.{Verdict}
use Rattle.settlement.specs.declared.verdict.Verdict.TheVariants.{Agreed, Blocked, Refused}

-- a settlement is seen as what the days of the settled plan mean, its rules, and the verdict
pub record Settlement : Type 0 where
  pub days : List Meaning
  pub rules : Book
  pub verdict : Verdict

-- the plan that was settled
abbrev pub plan : {X : Type 0} → Ghosts X → Settlement → Ledger
plan kind s = record { kind = kind_of kind; days = s.days; rules = s.rules }

-- ---- what a verdict shows
abbrev pub is_agreed : Verdict → Bool
is_agreed (Agreed a) = true
is_agreed (Blocked chain) = false
is_agreed (Refused e) = false

abbrev pub is_blocked : Verdict → Bool
is_blocked (Agreed a) = false
is_blocked (Blocked chain) = true
is_blocked (Refused e) = false

-- the row of a refused settlement
abbrev pub refusal : Verdict → Option Row
refusal (Agreed a) = None
refusal (Blocked chain) = None
refusal (Refused e) = Some (row_of e)

-- the possible codes of each day
abbrev pub sets : Verdict → List CodeSet
sets (Agreed a) = a.possible
sets (Blocked chain) = []
sets (Refused e) = []

abbrev pub among : Option CodeSet → ℕ → Bool
among None code = false
among (Some set) code = member set code

-- the code is possible on the day
abbrev pub possible : Verdict → ℕ → ℕ → Bool
possible v day code = among (slice_get (sets v) (day - 1)) code

abbrev pub lean : Verdict → Roster
lean (Agreed a) = a.lean
lean (Blocked chain) = []
lean (Refused e) = []

abbrev pub full : Verdict → Roster
full (Agreed a) = a.full
full (Blocked chain) = []
full (Refused e) = []

abbrev pub chain : Verdict → List Link
chain (Agreed a) = []
chain (Blocked links) = links
chain (Refused e) = []

-- ---- what it says of the plan
-- some lawful roster has the code on the day
abbrev pub CanHave : Ledger → ℕ → ℕ → Type 0
CanHave l day code = ∥ ((roster : Roster) × Lawful l roster × (slice_get roster (day - 1) ≡ Some code)) ∥₁

-- there is a lawful roster
abbrev pub CanBeMet : Ledger → Type 0
CanBeMet l = ∥ ((roster : Roster) × Lawful l roster) ∥₁

-- A lawful roster whose total is ahead of that of every lawful roster at each mark. On each day it has the smallest held
-- code of its weight.
pub record Foremost (Ahead : ℕ → ℕ → Type 0) (l : Ledger) (roster : Roster) : Type 0 where
  pub lawful : Lawful l roster
  pub ahead : (other : Roster) → Lawful l other → (mark : ℕ) → mark ≤ length l.days
      → Ahead (total l.days roster mark) (total l.days other mark)
  pub smallest : (day code other : ℕ) → IsDay l day → slice_get roster (day - 1) ≡ Some code
      → held (day_of l day) other ≡ true → weigh (day_of l day) other ≡ weigh (day_of l day) code → code ≤ other

abbrev pub Leanest : Ledger → Roster → Type 0
Leanest = Foremost (λ total other. total ≤ other)

abbrev pub Fullest : Ledger → Roster → Type 0
Fullest = Foremost (λ total other. other ≤ total)

-- the chain's links are lines of the plan's table of limits, and it is sound
abbrev pub SoundChain : Ledger → List Link → Type 0
SoundChain l = Sound (InTable l) (length l.days + 1)

-- A verdict that is no refusal and true of the plan. It is agreed exactly where there is a lawful roster, and else blocked.
pub record Meets (l : Ledger) (v : Verdict) : Type 0 where
  pub either : (is_agreed v || is_blocked v) ≡ true
  pub agreed : IsTrue (is_agreed v) ↔ CanBeMet l
  pub daily : is_agreed v ≡ true → length (sets v) ≡ length l.days
  pub possible : (day code : ℕ) → IsDay l day → IsTrue (possible v day code) ↔ CanHave l day code
  pub lean : is_agreed v ≡ true → Leanest l (lean v)
  pub full : is_agreed v ≡ true → Fullest l (full v)
  pub chain : is_blocked v ≡ true → SoundChain l (chain v)
  -- and such a chain, whoever finds it, rules out every lawful roster
  pub excluded : (links : List Link) → SoundChain l links → (roster : Roster) → Lawful l roster → ⊥

-- the topmost row of settling that fits the plan, and else a verdict that meets it
pub record Settles (l : Ledger) (v : Verdict) : Type 0 where
  pub answer : refusal v ≡ topmost (rows l Settle)
  pub meets : refusal v ≡ None → Meets l v
