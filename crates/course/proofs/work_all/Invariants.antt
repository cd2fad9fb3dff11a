use Rattle.std.proofs.Common.{◌≡◌, drop}
use Rattle.ledger.specs.Ledgers.{ledger, after_all}
use Rattle.course.proofs.work_all.Given as goal

-- the calls that are left lead where all of them do
abbrev pub invariant-loop-call : goal.invariant-loop-call
invariant-loop-call g l =
    let e = g.E.Entry in
    let plan = ledger e in
    after_all (plan l.entries l.book) (drop l.call-index l.calls)
    ≡ after_all (plan l.initial.entries l.initial.book) l.calls
