-- How the work on a sheet ends: with which refusal, and with which line of its own.
use Rattle.std.specs.Prelude.{ℕ, List, [], length, if◌then◌else◌, nat_le, Result, Ok, Err}
use Rattle.entry.specs.declared.refusal.Refusal.{Refusal}
use Rattle.entry.specs.declared.refusal.Refusal.TheVariants.{BadLine, AnswersFull}
use Rattle.entry.specs.Refusals.{row_of}
use Rattle.answers.specs.Answers.{written}
use Rattle.answers.specs.declared.answer.Answer.TheVariants as answer
use Rattle.carry.specs.declared.fault.CarryFault.{CarryFault}
use Rattle.carry.specs.declared.fault.CarryFault.TheVariants.{Line as AtFault, Refused, Full}

-- all lines are answered, or a fault ends the work
abbrev pub End : Type 0
End = Result (Unit {0}) CarryFault

abbrev pub refusal_of : CarryFault → Refusal
refusal_of (AtFault f) = BadLine
refusal_of (Refused e) = e
refusal_of Full = AnswersFull

abbrev pub number : End → ℕ
number (Ok t) = 0
number (Err f) = (row_of (refusal_of f)).0

-- the line, where there is room for so many bytes
abbrev pub fitting : ℕ → List ℕ → List ℕ
fitting room line = if nat_le (length line) room then line else []

-- a fault and a first line's refusal have a line of their own
abbrev pub last_line : ℕ → End → List ℕ
last_line room (Ok t) = []
last_line room (Err (AtFault f)) = fitting room (written (answer.Fault f.read))
last_line room (Err (Refused e)) = fitting room (written (answer.Refused e))
last_line room (Err Full) = []
