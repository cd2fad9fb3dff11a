-- Questions to a settlement: which rows can fit one, and what is written into a list.
use Rattle.std.specs.Prelude.{ℕ, ◌-◌, Bool, ◌||◌, List, [], ◌∷◌, ◌++◌, length, drop, Some, None, Option, Result, slice_get, ◌==◌, nat_lt, not, if◌then◌else◌}
use Rattle.entry.specs.Refusals.{Row, Rows, row, topmost, answered}
use Rattle.ledger.specs.declared.call.Call.TheVariants.{Settle}
use Rattle.ledger.specs.Ledgers.{Ledger, too_many_days, no_such_day, holds_code, failing, naming_one, rule_past_days, rows}
use Rattle.ledger.specs.Rosters.{Roster}
use Rattle.limits.specs.declared.link.Link.{Link}
use Rattle.settlement.specs.declared.verdict.Verdict.{Verdict}
use Rattle.settlement.specs.Settlements.{is_blocked, possible, chain}

-- ---- the rows, in the order of the table: those of settling are in their places
abbrev pub possible_rows : Ledger → ℕ → ℕ → Rows
possible_rows l day code =
    (too_many_days l, row 1) ∷
    naming_one 2 (failing holds_code l.days) ∷
    (no_such_day l day, row 3) ∷
    naming_one 8 (rule_past_days l) ∷
    (not (l.kind.known code), row 9) ∷ []

-- of a list with room for so many codes
abbrev pub roster_rows : Ledger → Verdict → ℕ → Rows
roster_rows l v room = rows l Settle ++ (is_blocked v, row 12) ∷ (nat_lt room (length l.days), row 14) ∷ []

abbrev pub link_rows : Ledger → Verdict → ℕ → Rows
link_rows l v k = rows l Settle ++ ((k == 0 || nat_lt (length (chain v)) k), row 13) ∷ []

-- ---- the answers
abbrev pub possible_reply : Ledger → Verdict → ℕ → ℕ → Result Bool Row
possible_reply l v day code = answered (topmost (possible_rows l day code)) (possible v day code)

abbrev pub roster_reply : Ledger → Verdict → ℕ → Result (Unit {0}) Row
roster_reply l v room = answered (topmost (roster_rows l v room)) tt

abbrev pub link_reply : Ledger → Verdict → ℕ → Result (Option Link) Row
link_reply l v k = answered (topmost (link_rows l v k)) (slice_get (chain v) (k - 1))

-- the row of a refused settlement, where it stands above the one of that number
abbrev pub above : ℕ → Option Row → Option Row
above number None = None
above number (Some r) = if nat_lt r.0 number then Some r else None

-- a list with the roster at its front, and the rest as it was
abbrev pub with_front : Roster → List ℕ → List ℕ
with_front roster list = roster ++ drop (length roster) list
