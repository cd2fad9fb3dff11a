-- The answer to each line: to a first line, and to a call on a ledger.
use Rattle.std.specs.Prelude.{◌≡◌, Result, Ok, Err}
use Rattle.std.specs.Borrow.{Bor}
use Rattle.entry.specs.declared.refusal.Refusal.{Refusal}
use Rattle.entry.specs.Refusals.{Row, row_of}
use Rattle.ledger.specs.declared.call.Call.{Call}
use Rattle.ledger.specs.declared.call.Call.TheVariants as calls
use Rattle.ledger.specs.Ledgers as ledgers
use Rattle.settlement.specs.declared.verdict.Agreement.{Agreement}
use Rattle.settlement.specs.declared.verdict.Verdict.{Verdict}
use Rattle.settlement.specs.declared.verdict.Verdict.TheVariants as verdict
use Rattle.settlement.specs.Settlements.{Settles}
use Rattle.tokens.specs.Lines.{Line, duty, collection, boxes, call}
use Rattle.answers.specs.declared.answer.Answer.{Answer}
use Rattle.answers.specs.declared.answer.Answer.TheVariants.{Duty, Collection, Boxes, Rule, Slide, Done, Blocked, Agreed, Refused}

-- the answer to a first line that is taken
abbrev pub IsFirst : Line → Answer → Type 0
IsFirst (duty days held) a = a ≡ Duty days
IsFirst (collection days held counted) a = a ≡ Collection days
IsFirst (boxes days low high) a = a ≡ Boxes days
IsFirst (call c) a = ⊥

-- what the ledger replies to an edit
abbrev pub IsReply : Result ledgers.Answer Row → Answer → Type 0
IsReply (Ok (ledgers.numbered n)) a = a ≡ Rule n
IsReply (Ok (ledgers.ranging r)) a = a ≡ Slide r
IsReply (Ok ledgers.done) a = a ≡ Done
IsReply (Ok ledgers.settled) a = ⊥
IsReply (Err row) a = (e : Refusal) × (a ≡ Refused e) × (row_of e ≡ row)

-- what is shown of a verdict
abbrev pub IsVerdict : Verdict → Answer → Type 0
IsVerdict (verdict.Agreed agreement) a = (b : Bor Agreement) × (a ≡ Agreed b) × (b.now ≡ agreement)
IsVerdict (verdict.Blocked chain) a = a ≡ Blocked
IsVerdict (verdict.Refused e) a = a ≡ Refused e

-- the answer to a call: a settle shows a verdict that is true of the plan
abbrev pub IsAnswer : ledgers.Ledger → Call → Answer → Type 0
IsAnswer l calls.Settle a = (v : Verdict) × Settles l v × IsVerdict v a
IsAnswer l c a = IsReply (ledgers.reply l c) a
