use Rattle.std.proofs.Common.{◌≡◌, None, sym}
use Rattle.entry.specs.Refusals.{topmost}
use Rattle.ledger.specs.declared.call.Call.TheVariants.{Settle}
use Rattle.ledger.specs.Ledgers.{Ledger, ledger, rows}
use Rattle.settlement.proofs.MeetsFacts.{agreed_meets, blocked_meets}
use Rattle.settlement.proofs.Readiness.{Ready, none_fits, ready_of}
use Rattle.settlement.proofs.RosterFacts.{reachable}
use Rattle.settlement.proofs.verdict_of.Given.{Over}
use Rattle.settlement.proofs.verdict_of.Goals as goal
use Rattle.settlement.proofs.verdict_of.Goals.{After-judge}

abbrev plan : (g : Over) → After-judge g → Ledger
plan g c = ledger g.E.Entry c.args.entries.now c.args.book.now

taken : (g : Over) (c : After-judge g) → topmost (rows (plan g c) Settle) ≡ None
taken g c = none_fits _ c.in-Ok.ensures.answer

ready : (g : Over) (c : After-judge g) → Ready (plan g c)
ready g c =
    let laws = g.met.E.Entry in
    ready_of g.E.Entry c.args.entries.now c.args.book.now (λ x. (laws.cells x, laws.gapless x)) c.in-Ok.ensures.bounds (taken g c)

pub agreement-requires-clause-reachable : goal.agreement-requires-clause-reachable
agreement-requires-clause-reachable g c =
    let at = (goal.at.agreement-requires-clause-reachable g c).After-judge in
    rw (c.of.ensures, c.in-Ok-judge.ensures.agreed.0)
    (reachable (plan g at) c.in-Ok.system (ready g at) c.in-Ok.ensures.system)

pub returns-in-Err-judge : goal.returns-in-Err-judge
returns-in-Err-judge g c =
    let at = (goal.at.returns-in-Err-judge g c).After-judge in
    record {
      answer = sym (taken g at);
      meets = λ _. blocked_meets (plan g at) c.in-Ok.system (ready g at) c.in-Ok.ensures.system c.in-Err-judge.chain
          c.in-Err-judge.ensures.blocked;
    }

pub returns-in-Ok-judge : goal.returns-in-Ok-judge
returns-in-Ok-judge g c =
    let at = (goal.at.returns-in-Ok-judge g c).After-judge in
    record {
      answer = sym (taken g at);
      meets = λ _. agreed_meets (plan g at) c.in-Ok.system (ready g at) c.in-Ok.ensures.system c.agreement.result
          (rw (← c.in-Ok-judge.ensures.agreed.0, ← c.of.ensures) c.agreement.ensures);
    }
