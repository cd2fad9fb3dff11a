-- What reading a line makes of its tokens. Only this crate's own code cites it.
use Rattle.std.specs.Prelude.{◌≡◌, Result, Ok, Err}
use Rattle.tokens.specs.Lines.{Line}
use Rattle.tokens.specs.Sheets.{LineAt}
use Rattle.tokens.specs.declared.tokens.Tokens.{Tokens}
use Rattle.sheet.specs.Drafts.{Holds, gathered}
use Rattle.sheet.specs.Faults.{IsFault}
use Rattle.sheet.specs.declared.draft.Draft.{Draft}
use Rattle.sheet.specs.declared.fault.LineFault.{LineFault}

-- t begins the next line; d is all that the line says
pub record ReadLine (s t : Tokens) (d : Draft) : Type 0 where
  pub text : t.reader.text ≡ s.reader.text
  pub start : t.start ≡ t.reader.at
  pub line : ∥ ((l : Line) × LineAt s.reader.text.now s.start l t.start × Holds d (gathered l)) ∥₁

abbrev pub Reads : Tokens → Result Draft LineFault → Tokens → Type 0
Reads s (Ok d) t = ReadLine s t d
Reads s (Err f) t = IsFault s.reader.text.now s.start f
