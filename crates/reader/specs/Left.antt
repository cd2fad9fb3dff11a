-- What a state of the reader stands for: the form of all that may still come on the line.
use Rattle.std.specs.Prelude.{ℕ, Bool, true, cond, not, ◌||◌, ◌&&◌, ◌==◌, nat_le, List, [], ◌∷◌, codes, slice_index}
use Rattle.reader.specs.Forms.{Form, done, lit, num, more, list, alt, text}
use Rattle.reader.specs.declared.state.State.{State}
use Rattle.reader.specs.declared.state.State.TheVariants.{Sheet, Line, Call, CallAfterS, Text, Number, Digits}

-- a form as text: `#` is a number, and `*` a list of numbers
abbrev pub shape : List ℕ → Form
shape [] = done
shape (c ∷ cs) = cond (c == 35) (num (shape cs)) (cond (c == 42) (list (shape cs)) (lit c (shape cs)))

abbrev pub kinds : Form
kinds = alt (shape (codes "duty # (codes*))")) (alt (shape (codes "collection # (codes*) (counts*))")) (shape (codes "boxes # (span # #))")))

abbrev pub calls_after_s : Form
calls_after_s = alt (shape (codes "lide # (count # #))")) (alt (shape (codes "trike # #)")) (shape (codes "ettle)")))

abbrev pub calls : Form
calls = alt (shape (codes "rule (days # #) (count # #))")) (alt (shape (codes "withdraw #)")) (alt (shape (codes "grant # #)")) (lit 115 calls_after_s)))

-- all that a first line may be, and all that a later line may be
abbrev pub first_line : Form
first_line = text (codes "(sheet ") kinds

abbrev pub later_line : Form
later_line = lit 40 calls

abbrev pub left : State → Form
left (Sheet r) = text r.now kinds
left Line = later_line
left Call = calls
left CallAfterS = calls_after_s
left (Text r) = shape r.now
left (Number r) = num (shape r.now)
left (Digits k r) = more k (shape r.now)

-- what may stand behind a number, and behind a list of numbers
abbrev pub parted : ℕ → ℕ → Bool
parted c d = cond (c == 35) (d == 32 || d == 41 || d == 42) (cond (c == 42) (d == 41) true)

-- the text has no digit and no byte 10, and behind each number and each list what may stand there
abbrev pub apart : List ℕ → Bool
apart [] = true
apart (c ∷ cs) = not (nat_le 48 c && nat_le c 57) && not (c == 10) && parted c (slice_index cs 0) && apart cs

-- the text that the state holds, with its number before it
abbrev pub ahead : State → List ℕ
ahead (Sheet r) = r.now
ahead Line = []
ahead Call = []
ahead CallAfterS = []
ahead (Text r) = r.now
ahead (Number r) = 35 ∷ r.now
ahead (Digits k r) = 35 ∷ r.now
