-- The table of refusals: the number of each row, what it names, and which row answers a call.
use Rattle.std.specs.Prelude.{ℕ, Bool, if◌then◌else◌, List, [], ◌∷◌, Some, None, Ok, Err, Option, Result, codes}
use Rattle.entry.specs.declared.refusal.Refusal.{Refusal}
use Rattle.entry.specs.declared.refusal.Refusal.TheVariants.{TooManyDays, EmptyDay, NoSuchDay, BadWindow, BadCount, BookFull, NoSuchRule, RulePastDays, UnknownCode, OnlyCode, WeightGap, BlockedPlan, NoSuchLink, WrongLength, BadLine, AnswersFull}

-- a row of the table: its number, and the day or rule that the answer names
abbrev pub Row : Type 0
Row = ℕ × Option ℕ

abbrev pub row : ℕ → Row
row n = (n, None)

abbrev pub naming : ℕ → ℕ → Row
naming n named = (n, Some named)

abbrev pub row_of : Refusal → Row
row_of TooManyDays = row 1
row_of (EmptyDay day) = naming 2 day
row_of NoSuchDay = row 3
row_of BadWindow = row 4
row_of BadCount = row 5
row_of BookFull = row 6
row_of NoSuchRule = row 7
row_of (RulePastDays rule) = naming 8 rule
row_of UnknownCode = row 9
row_of OnlyCode = row 10
row_of WeightGap = row 11
row_of BlockedPlan = row 12
row_of NoSuchLink = row 13
row_of WrongLength = row 14
row_of BadLine = row 15
row_of AnswersFull = row 16

-- the row in a few words, byte by byte
abbrev pub words_of : Refusal → List ℕ
words_of TooManyDays = codes "a plan has 128 days at the most"
words_of (EmptyDay day) = codes "a day holds no code"
words_of NoSuchDay = codes "the plan has no such day"
words_of BadWindow = codes "the plan has no such days"
words_of BadCount = codes "no days can add up to that"
words_of BookFull = codes "the book has no room for that"
words_of NoSuchRule = codes "no rule in force has that number"
words_of (RulePastDays rule) = codes "a rule in force ends past the days"
words_of UnknownCode = codes "there is no such code"
words_of OnlyCode = codes "nothing else is left for that day"
words_of WeightGap = codes "the numbers allowed would no longer be consecutive"
words_of BlockedPlan = codes "the plan is blocked"
words_of NoSuchLink = codes "the chain has no such link"
words_of WrongLength = codes "the list is not as long as the plan"
words_of BadLine = codes "no such line can stand there"
words_of AnswersFull = codes "the answers do not fit"

-- a call's rows, each with whether it fits, in the order of the table
abbrev pub Rows : Type 0
Rows = List (Bool × Row)

-- the topmost row that fits
abbrev pub topmost : Rows → Option Row
topmost [] = None
topmost (r ∷ rows) = if r.0 then Some r.1 else topmost rows

-- what a call told: its answer by what that means, or the row of its refusal
abbrev pub told : {X Y : Type 0} → (X → Y) → Result X Refusal → Result Y Row
told meaning (Ok x) = Ok (meaning x)
told meaning (Err e) = Err (row_of e)

abbrev pub outcome : {X : Type 0} → Result X Refusal → Result X Row
outcome = told (λ x. x)

-- x where no row fits, and else that row
abbrev pub answered : {X : Type 0} → Option Row → X → Result X Row
answered None x = Ok x
answered (Some r) x = Err r

-- the new value where no row fits, and else the old one
abbrev pub unless : {X : Type 0} → Option Row → X → X → X
unless None new old = new
unless (Some r) new old = old
