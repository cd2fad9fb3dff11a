-- What carry writes and how it ends, for every text and every length of the list.
use Rattle.std.specs.Prelude.{◌≡◌, ◌≢◌, ℕ, ◌-◌, ◌<◌, ◌≤◌, List, [], ◌∷◌, ◌++◌, length, ◌⊎◌, Result, Ok, Err}
use Rattle.entry.specs.Refusals.{Row, row_of}
use Rattle.ledger.specs.declared.call.Call.{Call}
use Rattle.ledger.specs.Ledgers.{Ledger, after}
use Rattle.tokens.specs.Lines.{Line, call}
use Rattle.tokens.specs.Sheets.{LineAt}
use Rattle.sheet.specs.Faults.{IsFault}
use Rattle.sheet.specs.declared.fault.LineFault.{LineFault}
use Rattle.answers.specs.Answers.{written}
use Rattle.answers.specs.declared.answer.Answer.{Answer}
use Rattle.carry.specs.declared.fault.CarryFault.TheVariants.{Line as AtFault, Refused, Full}
use Rattle.carry.specs.Ends.{End, last_line}
use Rattle.carry.specs.Openings.{opens}
use Rattle.carry.specs.Replies.{IsFirst, IsAnswer}

-- The answer a comes next, and there is room for so many bytes. Where its line fits it is written, and Rest says what is
-- written behind it; else the work ends.
abbrev pub Writes : ℕ → Answer → (ℕ → List ℕ → Type 0) → List ℕ → End → Type 0
Writes room a Rest bs e =
    ((length (written a) ≤ room) × (rest : List ℕ) × (bs ≡ written a ++ rest) × Rest (room - length (written a)) rest)
    ⊎ ((room < length (written a)) × (bs ≡ []) × (e ≡ Err Full))

-- no line at `at` is answered: the text is over, or the line is at fault
abbrev pub Stops : List ℕ → ℕ → End → Type 0
Stops text at (Ok t) = at ≡ length text
Stops text at (Err (AtFault f)) = (at ≢ length text) × IsFault text at f
Stops text at (Err (Refused e)) = ⊥
Stops text at (Err Full) = ⊥

-- From `at` on the text has lines with these calls, as far as they are worked, on the ledger l and one after another. Of their
-- answers bs is written, and e is how the work ends.
abbrev pub Works : List ℕ → ℕ → Ledger → List Call → ℕ → List ℕ → End → Type 0
Works text at l [] room bs e = (bs ≡ []) × Stops text at e
Works text at l (c ∷ calls) room bs e =
    (next : ℕ) × LineAt text at (call c) next
    × (a : Answer) × IsAnswer l c a × Writes room a (λ left rest. Works text next (after l c) calls left rest e) bs e

-- The first line opens a plan, on which the calls of the lines from `next` on are worked; or a row refuses it, and the work
-- ends.
abbrev pub Opened : List ℕ → ℕ → Result Ledger Row → Answer → ℕ → List ℕ → End → Type 0
Opened text next (Ok l) a room bs e = Writes room a (λ left rest. (calls : List Call) × Works text next l calls left rest e) bs e
Opened text next (Err r) a room bs (Err (Refused e)) = (bs ≡ []) × (row_of e ≡ r)
Opened text next (Err r) a room bs e = ⊥

-- the lines of the text are answered with bs before the end e
abbrev pub Answered : List ℕ → ℕ → List ℕ → End → Type 0
Answered text room bs e =
    ((l : Line) × (next : ℕ) × LineAt text 0 l next × (a : Answer) × IsFirst l a × Opened text next (opens l) a room bs e)
    ⊎ ((f : LineFault) × IsFault text 0 f × (bs ≡ []) × (e ≡ Err (AtFault f)))

-- Of a list with room for so many bytes, these are written: the answers before the end e, and behind them its own line.
abbrev pub Carries : List ℕ → ℕ → List ℕ → End → Type 0
Carries text room bytes e = ∥ ((bs : List ℕ) × Answered text room bs e × (bytes ≡ bs ++ last_line (room - length bs) e)) ∥₁
