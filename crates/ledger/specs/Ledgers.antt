-- The ledger of a plan, and what each call answers and makes of it.
use Rattle.std.specs.Prelude.{ℕ, ◌+◌, ◌-◌, ◌*◌, Bool, true, false, if◌then◌else◌, not, ◌||◌, List, [], ◌∷◌, ◌++◌, map, length, Some, None, Option, Result, ◌==◌, nat_le, nat_lt, slice_index_or, slice_set}
use Rattle.std.specs.List.{prefix_len}
use Rattle.entry.specs.declared.traits.Entry.{Ghosts}
use Rattle.entry.specs.Cells.{Meaning, held}
use Rattle.entry.specs.Edits.{some, struck, granted, strike_rows, grant_rows}
use Rattle.entry.specs.Refusals.{Row, Rows, row, naming, topmost, answered, unless}
use Rattle.ledger.specs.declared.rule.Rule as Declared
use Rattle.ledger.specs.declared.call.Call.{Call}
use Rattle.ledger.specs.declared.call.Call.TheVariants.{Rule, Slide, Withdraw, Strike, Grant, Settle}
use Rattle.ledger.specs.Rules.{Book, made, windows, stands, withdrawn}

-- what the ledger uses of a kind: its top, and which codes it knows
pub record Kind : Type 0 where
  pub top : ℕ
  pub known : ℕ → Bool

-- the kind, what the entry of each day means, and the rules in the order of their numbers
pub record Ledger : Type 0 where
  pub kind : Kind
  pub days : List Meaning
  pub rules : Book

abbrev pub kind_of : {X : Type 0} → Ghosts X → Kind
kind_of kind = record { top = kind.TOP; known = kind.known }

-- the ledger that entries and a book mean
abbrev pub ledger : {X : Type 0} → Ghosts X → List X → Book → Ledger
ledger kind entries book = record { kind = kind_of kind; days = map kind.meaning entries; rules = book }

-- days count from 1
abbrev pub day_of : Ledger → ℕ → Meaning
day_of l day = slice_index_or l.days (day - 1) []

-- how many windows of so many consecutive days there are
abbrev pub window_count : Ledger → ℕ → ℕ
window_count l width = length l.days + 1 - width

abbrev pub too_many_days : Ledger → Bool
too_many_days l = nat_lt 128 (length l.days)

abbrev pub no_such_day : Ledger → ℕ → Bool
no_such_day l day = day == 0 || nat_lt (length l.days) day

abbrev pub bad_window : Ledger → ℕ → ℕ → Bool
bad_window l first last = first == 0 || (nat_lt last first || nat_lt (length l.days) last)

abbrev pub bad_count : Ledger → ℕ → ℕ → ℕ → Bool
bad_count l days least most = nat_lt most least || nat_lt (l.kind.top * days) most

-- so many rules more are too many
abbrev pub book_full : Ledger → ℕ → Bool
book_full l more = nat_lt 512 (length l.rules + more)

abbrev pub holds_code : Meaning → Bool
holds_code m = some (held m) 64

-- the rule is withdrawn, or it ends within the days
abbrev pub ends_within : ℕ → Declared.Rule → Bool
ends_within days r = not r.in_force || nat_le r.last days

-- the place, counted from 1, of the first that fails a test
abbrev pub failing : {X : Type 0} → (X → Bool) → List X → Option ℕ
failing test xs = if nat_lt (prefix_len test xs) (length xs) then Some (prefix_len test xs + 1) else None

-- a row that fits where there is a day or a rule to name
abbrev pub naming_one : ℕ → Option ℕ → Bool × Row
naming_one number None = (false, row number)
naming_one number (Some named) = (true, naming number named)

-- the smallest rule in force that ends past the days
abbrev pub rule_past_days : Ledger → Option ℕ
rule_past_days l = failing (ends_within (length l.days)) l.rules

-- the rows that can fit a call, in the order of the table
abbrev pub rows : Ledger → Call → Rows
rows l (Rule first last least most) =
    (too_many_days l, row 1) ∷
    (bad_window l first last, row 4) ∷
    (bad_count l (last - first + 1) least most, row 5) ∷
    (book_full l 1, row 6) ∷ []
rows l (Slide width least most) =
    (too_many_days l, row 1) ∷
    ((width == 0), row 4) ∷
    (bad_count l width least most, row 5) ∷
    (book_full l (window_count l width), row 6) ∷ []
rows l (Withdraw number) = (not (stands l.rules number), row 7) ∷ []
rows l (Strike day code) =
    (too_many_days l, row 1) ∷
    (no_such_day l day, row 3) ∷
    strike_rows l.kind.known (day_of l day) code
rows l (Grant day code) =
    (too_many_days l, row 1) ∷
    (no_such_day l day, row 3) ∷
    grant_rows l.kind.known (day_of l day) code
rows l Settle =
    (too_many_days l, row 1) ∷
    naming_one 2 (failing holds_code l.days) ∷
    naming_one 8 (rule_past_days l) ∷ []

pub data Answer : Type 0 where
  -- the number of the new rule
  numbered : ℕ → Answer
  -- the first and the last number of the new rules, or none
  ranging : Option (ℕ × ℕ) → Answer
  done : Answer
  -- a settlement
  settled : Answer

-- what a call answers that no row refuses
abbrev pub answer : Ledger → Call → Answer
answer l (Rule first last least most) = numbered (length l.rules + 1)
answer l (Slide width least most) =
    let count = length l.rules in
    let more = window_count l width in
    ranging (if more == 0 then None else Some (count + 1, count + more))
answer l (Withdraw number) = done
answer l (Strike day code) = done
answer l (Grant day code) = done
answer l Settle = settled

abbrev pub with_rules : Ledger → Book → Ledger
with_rules l rules = record { kind = l.kind; days = l.days; rules = rules }

abbrev pub with_day : Ledger → ℕ → Meaning → Ledger
with_day l day m = record { kind = l.kind; days = slice_set l.days (day - 1) m; rules = l.rules }

-- what a call makes of the ledger that no row refuses
abbrev pub worked : Ledger → Call → Ledger
worked l (Rule first last least most) = with_rules l (l.rules ++ (made first last least most ∷ []))
worked l (Slide width least most) = with_rules l (l.rules ++ windows (window_count l width) width least most)
worked l (Withdraw number) = with_rules l (withdrawn l.rules number)
worked l (Strike day code) = with_day l day (struck (day_of l day) code)
worked l (Grant day code) = with_day l day (granted (day_of l day) code)
worked l Settle = l

-- a call's answer, or the topmost row that fits it
abbrev pub reply : Ledger → Call → Result Answer Row
reply l call = answered (topmost (rows l call)) (answer l call)

-- the ledger after a call: a refused one leaves it as it is
abbrev pub after : Ledger → Call → Ledger
after l call = unless (topmost (rows l call)) (worked l call) l

-- the ledger after a list of calls
abbrev pub after_all : Ledger → List Call → Ledger
after_all l [] = l
after_all l (call ∷ calls) = after_all (after l call) calls
