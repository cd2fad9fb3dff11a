-- What a call for the next token answers, and where the tokens are afterwards.
use Rattle.std.specs.Prelude.{◌≡◌, Result, Ok, Err}
use Rattle.reader.specs.Places.{fault_at}
use Rattle.reader.specs.declared.place.ReadFault.{ReadFault}
use Rattle.tokens.specs.Sheets.{FaultAt}
use Rattle.tokens.specs.Tokens.{Tells, Short, Closes}
use Rattle.tokens.specs.declared.token.Token.{Token}
use Rattle.tokens.specs.declared.token.Token.TheVariants.{End}
use Rattle.tokens.specs.declared.tokens.Tokens.{Tokens}

-- behind the end of a line the next line begins; behind any other token the line goes on
abbrev pub Cuts : Tokens → Token → Tokens → Type 0
Cuts s End t = ∥ Closes s.reader.text.now s.start s.reader.at t.reader.at ∥₁ × (t.start ≡ t.reader.at)
Cuts s token t = Tells s.reader.text.now s.reader.at t.reader.at token × (t.start ≡ s.start)

-- a fault is told of the first token that is not whole
abbrev pub Gives : Tokens → Result Token ReadFault → Tokens → Type 0
Gives s (Ok token) t = Cuts s token t
Gives s (Err f) t =
    FaultAt s.reader.text.now s.start t.reader.at × (f ≡ fault_at s.reader.text.now t.reader.at) × (t.start ≡ s.start)
    × Short s.reader.text.now s.reader.at t.reader.at
