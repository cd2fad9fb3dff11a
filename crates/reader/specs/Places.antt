-- Where a byte stands in a text, where the text ends, and which fault is told of a byte.
use Rattle.std.specs.Prelude.{◌≡◌, ℕ, ◌+◌, ◌-◌, ◌≤◌, Bool, cond, not, ◌||◌, ◌&&◌, ◌==◌, nat_lt, nat_le, ◌⊎◌, List, take, length, slice_get, slice_index, fold, Option, Some, None}
use Rattle.reader.specs.declared.place.Place.{Place}
use Rattle.reader.specs.declared.place.FaultKind.{FaultKind}
use Rattle.reader.specs.declared.place.FaultKind.TheVariants.{Bytes, Form}
use Rattle.reader.specs.declared.place.ReadFault.{ReadFault}

-- the place of a byte in a line, where n bytes stand before it and `begun` before the line
abbrev pub spot : ℕ → ℕ → ℕ → Place
spot line begun n = record { line = line; column = n - begun + 1 }

-- behind the byte b
abbrev pub moved : Place → ℕ → Place
moved p b = cond (b == 10) (record { line = p.line + 1; column = 1 }) (record { line = p.line; column = p.column + 1 })

-- where the byte stands that n bytes stand before
abbrev pub position_of : List ℕ → ℕ → Place
position_of text n = fold moved (record { line = 1; column = 1 }) (take n text)

-- only so many bytes of a text are read
abbrev pub longest : ℕ
longest = 16384

-- the byte that n bytes stand before, where it is read
abbrev pub byte_at : List ℕ → ℕ → Option ℕ
byte_at text n = cond (nat_lt n longest) (slice_get text n) None

-- a line may end there: a byte 10 stands there, or the text has ended
abbrev pub Ends : List ℕ → ℕ → Type 0
Ends text n = (byte_at text n ≡ Some 10) ⊎ ((n ≡ length text) × (n ≤ longest))

-- where the next line begins
abbrev pub past : List ℕ → ℕ → ℕ
past text n = cond (nat_lt n (length text)) (n + 1) n

-- the byte is one of a to z
abbrev pub letter : ℕ → Bool
letter b = nat_le 97 b && nat_le b 122

-- the byte is one of 0 to 9
abbrev pub digit : ℕ → Bool
digit b = nat_le 48 b && nat_le b 57

-- no sheet has the byte
abbrev pub foreign : ℕ → Bool
foreign b = not (letter b || digit b || b == 32 || b == 40 || b == 41 || b == 10)

abbrev pub kind_at : List ℕ → ℕ → FaultKind
kind_at text n = cond (nat_lt n (length text) && (n == longest || foreign (slice_index text n))) Bytes Form

abbrev pub fault_at : List ℕ → ℕ → ReadFault
fault_at text n = record { kind = kind_at text n; place = position_of text n }
