-- The fault that is told of a line.
use Rattle.std.specs.Prelude.{◌≡◌, ℕ, List}
use Rattle.reader.specs.Places.{fault_at}
use Rattle.tokens.specs.Sheets.{FaultAt}
use Rattle.sheet.specs.declared.fault.LineFault.{LineFault}

-- the line that begins at `start` is at fault, f has the reader's fault there, and no other fits
pub record IsFault (text : List ℕ) (start : ℕ) (f : LineFault) : Type 0 where
  pub told : ∥ ((n : ℕ) × FaultAt text start n × (f.read ≡ fault_at text n)) ∥₁
  pub only : (n : ℕ) → FaultAt text start n → f.read ≡ fault_at text n
