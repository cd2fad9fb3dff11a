-- A line of each form of answer, and first lines with the row that refuses each.
use Rattle.std.specs.Prelude.{ℕ, List, [], ◌∷◌, ◌++◌, map, Some, None, Ok, Err, Result}
use Rattle.entry.specs.declared.refusal.Refusal.TheVariants.{EmptyDay, AnswersFull}
use Rattle.entry.specs.Refusals.{Row}
use Rattle.ledger.specs.Ledgers.{Ledger}
use Rattle.settlement.specs.declared.verdict.Agreement.{Agreement}
use Rattle.reader.specs.declared.place.FaultKind.TheVariants.{Bytes, Form}
use Rattle.tokens.specs.Lines.{Line, duty, collection, boxes}
use Rattle.answers.specs.declared.answer.Answer.TheVariants as answer
use Rattle.answers.specs.Answers.{written, agreed}
use Rattle.carry.specs.Openings.{opens}

-- two days, with the codes 0 and 63 on the first and 5 alone on the second
abbrev pub two_days : Agreement
two_days = record { possible = record { 0 = 9223372036854775809 } ∷ record { 0 = 32 } ∷ []; lean = 0 ∷ 5 ∷ []; full = 63 ∷ 5 ∷ [] }

abbrev pub no_days : Agreement
no_days = record { possible = []; lean = []; full = [] }

abbrev pub answer_forms : List (List ℕ)
answer_forms =
    map written (
    answer.Duty 0 ∷ answer.Collection 10 ∷ answer.Boxes 128 ∷ answer.Rule 512 ∷ answer.Slide (Some (1, 3)) ∷ answer.Slide None
    ∷ answer.Done ∷ answer.Blocked ∷ answer.Refused (EmptyDay 7) ∷ answer.Refused AnswersFull
    ∷ answer.Fault (record { kind = Bytes; place = record { line = 2; column = 9 } })
    ∷ answer.Fault (record { kind = Form; place = record { line = 1; column = 16385 } }) ∷ []
    ) ++ (agreed two_days ∷ agreed no_days ∷ [])

-- lines with both rows, with either of them, and with none
abbrev pub first_lines : List Line
first_lines =
    boxes 129 64 0 ∷ duty 129 (2 ∷ []) ∷ collection 129 [] [] ∷ boxes 3 64 0 ∷ boxes 128 0 64 ∷ duty 0 (0 ∷ 2 ∷ [])
    ∷ collection 2 (64 ∷ []) [] ∷ collection 2 (5 ∷ []) (64 ∷ []) ∷ boxes 128 4 3 ∷ duty 128 [] ∷ collection 0 [] (63 ∷ []) ∷ []

-- the number of the row, and 0 for a plan
abbrev pub number_of : Result Ledger Row → ℕ
number_of (Ok l) = 0
number_of (Err r) = r.0

abbrev pub refused_by : List ℕ
refused_by = map (λ line. number_of (opens line)) first_lines
