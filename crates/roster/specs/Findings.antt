-- What a check of a roster finds: its first fault.
use Rattle.std.specs.Prelude.{◌≡◌, ℕ, ◌-◌, ◌<◌, ◌≤◌, Bool, false, not, List, [], ◌∷◌, length, take, Some, None, Ok, Err, Option, Result, ◌==◌}
use Rattle.std.specs.List.{HoldsAt, AllPass, zip}
use Rattle.entry.specs.declared.refusal.Refusal.{Refusal}
use Rattle.entry.specs.Refusals.{Rows, row, topmost, told, answered}
use Rattle.ledger.specs.Ledgers.{Ledger, too_many_days, failing, naming_one, rule_past_days}
use Rattle.ledger.specs.Rosters as rosters
use Rattle.ledger.specs.Rosters.{Roster, stretch, holds_its_code, keeps}
use Rattle.ledger.specs.Rules.{numbered}
use Rattle.roster.specs.declared.finding.Finding.{Finding}
use Rattle.roster.specs.declared.finding.Finding.TheVariants.{Lawful, NotHeld, Broken}

-- the rows that can fit a check, in the order of the table
abbrev pub check_rows : Ledger → Roster → Rows
check_rows l roster =
    (too_many_days l, row 1) ∷
    naming_one 8 (rule_past_days l) ∷
    (not (length roster == length l.days), row 14) ∷ []

pub data Verdict : Type 0 where
  lawful : Verdict
  -- the day
  not_held : ℕ → Verdict
  -- the rule's number, its first and its last day, and the codes on them
  broken : ℕ → ℕ → ℕ → Roster → Verdict

abbrev pub shown : Finding → Verdict
shown Lawful = lawful
shown (NotHeld day) = not_held day
shown (Broken rule first last part) = broken rule first last part.now

-- days come before rules
abbrev pub first_fault : Ledger → Roster → Option ℕ → Option ℕ → Verdict
first_fault l roster (Some day) rule = not_held day
first_fault l roster None (Some number) =
    let r = numbered l.rules number in
    broken number r.first r.last (stretch r roster)
first_fault l roster None None = lawful

abbrev pub verdict : Ledger → Roster → Verdict
verdict l roster =
    first_fault l roster (failing holds_its_code (zip l.days roster)) (failing (keeps l.days roster) l.rules)

-- the one at place n, counted from 1, fails the test, and all before pass it
abbrev pub FirstFailing : {X : Type 0} → (X → Bool) → List X → ℕ → Type 0
FirstFailing test xs n =
    (0 < n) × (n ≤ length xs) × HoldsAt (λ x. test x ≡ false) xs (n - 1) × AllPass test (take (n - 1) xs)

-- what the answer means: the roster is lawful, or it is not and this is the first fault
abbrev pub Found : Ledger → Roster → Result Finding Refusal → Type 0
Found l roster (Ok Lawful) = rosters.Lawful l roster
Found l roster (Ok (NotHeld day)) =
    (rosters.Lawful l roster → ⊥) × FirstFailing holds_its_code (zip l.days roster) day
Found l roster (Ok (Broken number first last part)) =
    (rosters.Lawful l roster → ⊥) × AllPass holds_its_code (zip l.days roster)
    × FirstFailing (keeps l.days roster) l.rules number
    × (first ≡ (numbered l.rules number).first) × (last ≡ (numbered l.rules number).last)
    × (part.now ≡ stretch (numbered l.rules number) roster)
Found l roster (Err e) = Unit {0}

-- a check that answers r: the topmost row that fits, or the verdict, and that means what it says
pub record Checks (l : Ledger) (roster : Roster) (r : Result Finding Refusal) : Type 0 where
  pub answer : told shown r ≡ answered (topmost (check_rows l roster)) (verdict l roster)
  pub found : Found l roster r
