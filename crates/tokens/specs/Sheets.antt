-- The line that begins at a place of a text, or the place where it is at fault.
use Rattle.std.specs.Prelude.{◌≡◌, ℕ, ◌≤◌, List, [], ◌∷◌, ◌++◌, length, slice_range, MatchOption}
use Rattle.reader.specs.Places.{byte_at, Ends, past, longest}
use Rattle.tokens.specs.Lines.{Line, Says, IsLine, Begins}

-- from `start` the text has the line l, and the next line begins at `next`
pub record LineAt (text : List ℕ) (start : ℕ) (l : Line) (next : ℕ) : Type 0 where
  pub stop : ℕ
  pub from : start ≤ stop
  pub says : Says start (slice_range text start stop) l
  pub ends : Ends text stop
  pub on : next ≡ past text stop

-- n is the first byte with which no line can be completed that begins at `start`, or the end of the text, or the limit
pub record FaultAt (text : List ℕ) (start n : ℕ) : Type 0 where
  pub from : start ≤ n
  pub within : (n ≤ length text) × (n ≤ longest)
  pub begins : Begins start (slice_range text start n)
  pub stuck : MatchOption (byte_at text n) (Unit {0}) (λ b. Begins start (slice_range text start n ++ (b ∷ [])) → ⊥)
  pub unended : IsLine start (slice_range text start n) → Ends text n → ⊥
