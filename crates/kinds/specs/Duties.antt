-- What a duty entry means: code 0 weighs 0, code 1 weighs 1, and no other code is known.
use Rattle.std.specs.Prelude.{ℕ, Bool, false, if◌then◌else◌, List, Result, ◌==◌, nat_lt}
use Rattle.codes.specs.Members.{lists}
use Rattle.entry.specs.Refusals.{Row, topmost, answered}
use Rattle.entry.specs.Cells.{Meaning, cells}
use Rattle.kinds.specs.Listings.{listing_rows}
use Rattle.kinds.specs.declared.duty.Duty.{Duty}

-- the codes that the kind knows
abbrev pub duty_code : ℕ → Bool
duty_code c = nat_lt c 2

abbrev pub duty_weight : ℕ → ℕ
duty_weight c = if c == 1 then 1 else 0

-- code 0 is held where `off` says so, code 1 where `on` does
abbrev pub either : Bool → Bool → ℕ → Bool
either off on c = if c == 0 then off else if c == 1 then on else false

abbrev pub duties : Duty → Meaning
duties d = cells duty_weight (either d.off d.on)

-- what is built from a list of numbers: the entry that holds them, or the refusal of an unknown one
abbrev pub duty_of : List ℕ → Result Meaning Row
duty_of ns = answered (topmost (listing_rows duty_code ns)) (cells duty_weight (lists ns))
