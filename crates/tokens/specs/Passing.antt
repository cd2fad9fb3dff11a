-- What the steps from token to token do. Only this crate's own code cites it.
use Rattle.std.specs.Prelude.{◌≡◌, ℕ, List, slice_range, Option, Result, Ok, Err}
use Rattle.reader.specs.Places.{byte_at, fault_at, Ends, past}
use Rattle.reader.specs.declared.place.ReadFault.{ReadFault}
use Rattle.tokens.specs.Lines.{IsLine}
use Rattle.tokens.specs.Sheets.{FaultAt}
use Rattle.tokens.specs.Tokens.{Blanks, Run, GoesOn}
use Rattle.tokens.specs.declared.token.Class.{Class}
use Rattle.tokens.specs.declared.tokens.Tokens.{Tokens}

-- the byte that comes next
abbrev pub next_byte : Tokens → Option ℕ
next_byte s = byte_at s.reader.text.now s.reader.at

-- what stands between s and t: blanks alone; a run of one class; a run that goes on where t is
abbrev pub BlanksTo : Tokens → Tokens → Type 0
BlanksTo s t = Blanks s.reader.text.now s.reader.at t.reader.at

abbrev pub RunTo : Class → Tokens → Tokens → List ℕ → Type 0
RunTo k s t part = Run k s.reader.text.now s.reader.at t.reader.at part

abbrev pub GoesOnTo : Class → Tokens → Tokens → Type 0
GoesOnTo k s t = GoesOn k s.reader.text.now s.reader.at t.reader.at

-- t is in the line of s
pub record SameLine (s t : Tokens) : Type 0 where
  pub text : t.reader.text ≡ s.reader.text
  pub start : t.start ≡ s.start

-- the line of s is at fault where t has stopped
pub record Faults (s t : Tokens) (f : ReadFault) : Type 0 where
  pub line : SameLine s t
  pub at : FaultAt s.reader.text.now s.start t.reader.at
  pub fault : f ≡ fault_at s.reader.text.now t.reader.at

-- P holds of what is answered, and Q where the line is at fault
abbrev pub Advances : {A : Type 0} → Tokens → Result A ReadFault → Tokens → (A → Type 0) → Type 0 → Type 0
Advances s (Ok x) t P Q = SameLine s t × P x
Advances s (Err f) t P Q = Faults s t f × Q

-- the line of s ends where s is; t begins the next
pub record Finished (s t : Tokens) : Type 0 where
  pub text : t.reader.text ≡ s.reader.text
  pub start : t.start ≡ t.reader.at
  pub line : IsLine s.start (slice_range s.reader.text.now s.start s.reader.at)
  pub ends : Ends s.reader.text.now s.reader.at
  pub on : t.reader.at ≡ past s.reader.text.now s.reader.at

abbrev pub Finishes : Tokens → Result (Unit {0}) ReadFault → Tokens → Type 0
Finishes s (Ok x) t = Finished s t
Finishes s (Err f) t = Faults s t f × (t.reader.at ≡ s.reader.at)
