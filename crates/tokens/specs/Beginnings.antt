-- What the bytes of a line that are read say of those that may follow.
use Rattle.std.specs.Prelude.{ℕ, List, ◌++◌, ◌↔◌}
use Rattle.reader.specs.Forms.{Form, Spells}
use Rattle.tokens.specs.Lines.{IsLine}

-- behind p, the bytes that make a line are those that f spells
abbrev pub Completes : ℕ → List ℕ → Form → Type 0
Completes start p f = (bs : List ℕ) → (IsLine start (p ++ bs) ↔ ∥ Spells f bs ∥₁)
