-- What the reader's calls do to it.
use Rattle.std.specs.Prelude.{◌≡◌, ◌≢◌, ℕ, ◌+◌, [], Result, Ok, Err, MatchOption}
use Rattle.reader.specs.Forms.{Goes, Stuck, Spells}
use Rattle.reader.specs.Left.{left, later_line}
use Rattle.reader.specs.Places.{byte_at, fault_at, Ends, past}
use Rattle.reader.specs.declared.place.ReadFault.{ReadFault}
use Rattle.reader.specs.declared.reader.Reader.{Reader}

-- the next byte of r is b, which is no byte 10, and s has read it
pub record Read (r s : Reader) (b : ℕ) : Type 0 where
  pub text : s.text ≡ r.text
  pub on : s.at ≡ r.at + 1
  pub inside : b ≢ 10
  pub goes : Goes b (left r.state) (left s.state)

-- r stops: it is as it was, its fault is told, and its line cannot go on with the next byte
pub record Stops (r s : Reader) (f : ReadFault) : Type 0 where
  pub same : s ≡ r
  pub fault : f ≡ fault_at r.text.now r.at
  pub stuck : MatchOption (byte_at r.text.now r.at) (Unit {0}) (λ b. Stuck b (left r.state))

abbrev pub Passes : Reader → Result (Unit {0}) ReadFault → Reader → Type 0
Passes r (Ok x) s = MatchOption (byte_at r.text.now r.at) ⊥ (Read r s)
Passes r (Err f) s = Stops r s f

-- the line of r is complete, and ends where r is; s begins the next
pub record Ended (r s : Reader) : Type 0 where
  pub text : s.text ≡ r.text
  pub complete : Spells (left r.state) []
  pub here : Ends r.text.now r.at
  pub on : s.at ≡ past r.text.now r.at
  pub later : left s.state ≡ later_line

abbrev pub EndsLine : Reader → Result (Unit {0}) ReadFault → Reader → Type 0
EndsLine r (Ok x) s = Ended r s
EndsLine r (Err f) s = (s ≡ r) × (f ≡ fault_at r.text.now r.at) × (Spells (left r.state) [] × Ends r.text.now r.at → ⊥)
