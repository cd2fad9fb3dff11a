-- What a first line opens: a plan, or the row that refuses it.
use Rattle.std.specs.Prelude.{ℕ, [], replicate, if◌then◌else◌, nat_lt, Result, Ok, Err}
use Rattle.entry.specs.Cells.{Meaning}
use Rattle.entry.specs.Refusals.{Row, row}
use Rattle.ledger.specs.Ledgers.{Kind, Ledger}
use Rattle.kinds.specs.Codes.{any_code}
use Rattle.kinds.specs.Duties.{duty_code, duty_of}
use Rattle.kinds.specs.Collections.{collection_of}
use Rattle.kinds.specs.Spans.{boxes_of}
use Rattle.tokens.specs.Lines.{Line, duty, collection, boxes, call}

-- the same entry on each of the days, and no rule
abbrev pub filled : Kind → ℕ → Result Meaning Row → Result Ledger Row
filled kind days (Ok m) = Ok (record { kind = kind; days = replicate days m; rules = [] })
filled kind days (Err r) = Err r

-- too many days are refused before the entry is looked at
abbrev pub plan_of : Kind → ℕ → Result Meaning Row → Result Ledger Row
plan_of kind days entry = if nat_lt 128 days then Err (row 1) else filled kind days entry

abbrev pub opens : Line → Result Ledger Row
opens (duty days held) = plan_of (record { top = 1; known = duty_code }) days (duty_of held)
opens (collection days held counted) = plan_of (record { top = 1; known = any_code }) days (collection_of held counted)
opens (boxes days low high) = plan_of (record { top = 63; known = any_code }) days (boxes_of low high)
-- no first line is a call, so this is never asked
opens (call c) = Err (row 15)
