-- The rules of a book: how one is made, found by its number, and withdrawn.
use Rattle.std.specs.Prelude.{ℕ, ◌+◌, ◌-◌, ◌*◌, ◌<◌, ◌≤◌, Bool, true, false, ◌&&◌, List, map, length, nat_le, nat_lt, slice_index_or, slice_set}
use Rattle.std.specs.List.{range_with_len}
use Rattle.ledger.specs.declared.rule.Rule.{Rule}

-- a book is seen as its rules in the order of their numbers, withdrawn ones included
abbrev pub Book : Type 0
Book = List Rule

-- a new rule is in force
abbrev pub made : ℕ → ℕ → ℕ → ℕ → Rule
made first last least most = record { first = first; last = last; least = least; most = most; in_force = true }

-- a rule for each of so many windows of the same width, the one from day 1 first
abbrev pub windows : ℕ → ℕ → ℕ → ℕ → List Rule
windows count width least most = map (λ first. made first (first + width - 1) least most) (range_with_len 1 count)

-- what is read where a book has no rule
abbrev pub no_rule : Rule
no_rule = record { first = 0; last = 0; least = 0; most = 0; in_force = false }

-- numbers count from 1
abbrev pub numbered : Book → ℕ → Rule
numbered rules number = slice_index_or rules (number - 1) no_rule

-- a rule in force has the number
abbrev pub stands : Book → ℕ → Bool
stands rules number = nat_lt 0 number && (nat_le number (length rules) && (numbered rules number).in_force)

abbrev pub ended : Rule → Rule
ended r = record { first = r.first; last = r.last; least = r.least; most = r.most; in_force = false }

-- the rules with that of one number withdrawn; it keeps its place
abbrev pub withdrawn : Book → ℕ → Book
withdrawn rules number = slice_set rules (number - 1) (ended (numbered rules number))

-- a window of the days, with a least and a most that it can have at this top
abbrev pub Within : ℕ → ℕ → Rule → Type 0
Within days top r =
    (1 ≤ r.first) × (r.first ≤ r.last) × (r.last ≤ days) × (r.least ≤ r.most)
    × (r.most ≤ top * (r.last - r.first + 1))

-- each rule of a book has such a window, for whatever entries it was made: no plan has more than 128 days, no kind a top
-- above 63
abbrev pub Bounds : Book → Type 0
Bounds rules = (k : ℕ) → k < length rules → Within 128 63 (slice_index_or rules k no_rule)
