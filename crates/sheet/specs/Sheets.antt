-- What a sheet answers: the first line, each call after it, the end, or the place of a fault.
use Rattle.std.specs.Prelude.{◌≡◌, ◌≢◌, ℕ, List, length, Option, Some, None, Result, Ok, Err}
use Rattle.ledger.specs.declared.call.Call.{Call}
use Rattle.tokens.specs.Lines.{Line, call}
use Rattle.tokens.specs.Sheets.{LineAt}
use Rattle.sheet.specs.Faults.{IsFault}
use Rattle.sheet.specs.declared.fault.LineFault.{LineFault}
use Rattle.sheet.specs.declared.sheet.Sheet.{Sheet}
use Rattle.sheet.specs.declared.start.Start.{Start}
use Rattle.sheet.specs.Starts.{Shows}

-- the text of a sheet, and the place that its lines are read to
abbrev pub text_of : Sheet → List ℕ
text_of s = s.tokens.reader.text.now

abbrev pub place_of : Sheet → ℕ
place_of s = s.tokens.start

abbrev pub Opens : List ℕ → Result (Start × Sheet) LineFault → Type 0
Opens text (Ok (start, s)) = (text_of s ≡ text) × ∥ ((l : Line) × LineAt text 0 l (place_of s) × Shows l start) ∥₁
Opens text (Err f) = IsFault text 0 f

abbrev pub GoesOn : Sheet → Result (Option Call) LineFault → Sheet → Type 0
GoesOn s (Ok None) t = (place_of s ≡ length (text_of s)) × (t ≡ s)
GoesOn s (Ok (Some c)) t = (text_of t ≡ text_of s) × ∥ LineAt (text_of s) (place_of s) (call c) (place_of t) ∥₁
GoesOn s (Err f) t = (place_of s ≢ length (text_of s)) × IsFault (text_of s) (place_of s) f × (t ≡ s)

-- the line l is the one answered, and the next begins at n: so it is with whatever line the text has there
abbrev pub IsStart : Line → ℕ → Result (Start × Sheet) LineFault → Type 0
IsStart l n (Ok (start, s)) = Shows l start × (n ≡ place_of s)
IsStart l n (Err f) = ⊥

abbrev pub IsCall : Line → ℕ → Result (Option Call) LineFault → Sheet → Type 0
IsCall l n (Ok (Some c)) t = (l ≡ call c) × (n ≡ place_of t)
IsCall l n (Ok None) t = ⊥
IsCall l n (Err f) t = ⊥
