use Rattle.std.proofs.Common.{◌≡◌, ◌-◌, [], length}
use Rattle.ledger.specs.Ledgers.{ledger}
use Rattle.sheet.specs.Sheets.{text_of, place_of}
use Rattle.carry.proofs.WorkFacts.{Behind}
use Rattle.carry.proofs.calls.work_calls.Given as goal

abbrev pub invariant-loop-call : goal.invariant-loop-call
invariant-loop-call g l = record {
  text : text_of l.sheet ≡ text_of l.fn.sheet;
  behind : Behind (text_of l.fn.sheet) (place_of l.fn.sheet) (ledger g.E.Entry l.fn.entries []) l.fn.answers (place_of l.sheet) (ledger g.E.Entry l.entries l.book) l.answers;
}

abbrev pub decreases-loop-call : goal.decreases-loop-call
decreases-loop-call g l = length (text_of l.sheet) - place_of l.sheet
