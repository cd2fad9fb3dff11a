use Rattle.std.proofs.Common.{[], refl, sym, subst}
use Rattle.std.specs.Prelude.{Ok}
use Rattle.ledger.specs.Ledgers.{ledger}
use Rattle.sheet.specs.Sheets.{GoesOn, text_of, place_of}
use Rattle.carry.specs.AnswerLists.{WorksCalls}
use Rattle.carry.proofs.ListFacts.{same_end}
use Rattle.carry.proofs.WorkFacts.{begins, gives_call, gives_full, gives_fault, gives_none, nearer, Behind}
use Rattle.carry.proofs.calls.work_calls.Goals as goal

pub loop-call-init : goal.loop-call-init
loop-call-init g c =
    let l = ledger g.E.Entry c.args.entries.now [] in
    record {
      text = refl;
      behind = subst (λ rules. Behind (text_of c.args.sheet) (place_of c.args.sheet) l c.args.answers.now (place_of c.args.sheet) (ledger g.E.Entry c.args.entries.now rules) c.args.answers.now)
          (sym c.new-book.ensures) (begins (text_of c.args.sheet) (place_of c.args.sheet) l c.args.answers.now);
    }

pub returns-in_err-call : goal.returns-in_err-call
returns-in_err-call g c =
    let l = ledger g.E.Entry c.args.entries.now [] in
    let m = ledger g.E.Entry c.loop-call.entries c.loop-call.book in
    same_end (λ e. WorksCalls (text_of c.args.sheet) (place_of c.args.sheet) l c.args.answers.now e c.loop-call.answers) c.from_residual.result _ c.from_residual.ensures.1
    (gives_fault (text_of c.args.sheet) (place_of c.args.sheet) l c.args.answers.now c.loop-call.sheet c.next_call.new.self m c.loop-call.answers c.loop-call.answers
    c.loop-call.invariant.text c.loop-call.invariant.behind c.in_err-call.field-0.0 c.in_err-call.ensures.answer)

pub loop-call-smaller : goal.loop-call-smaller
loop-call-smaller g c =
    let gives = subst (λ o. GoesOn c.loop-call.sheet (Ok o) c.next_call.new.self) c.in-Some.is c.in_ok-call.ensures.answer in
    nearer c.loop-call.sheet c.next_call.new.self c.in-Some.call gives

pub loop-call-preserved : goal.loop-call-preserved
loop-call-preserved g c =
    let l = ledger g.E.Entry c.args.entries.now [] in
    let m = ledger g.E.Entry c.loop-call.entries c.loop-call.book in
    let gives = subst (λ o. GoesOn c.loop-call.sheet (Ok o) c.next_call.new.self) c.in-Some.is c.in_ok-call.ensures.answer in
    let (text, behind) = gives_call (text_of c.args.sheet) (place_of c.args.sheet) l c.args.answers.now c.loop-call.sheet c.next_call.new.self m c.loop-call.answers c.answer.new.answers
    c.loop-call.invariant.text c.loop-call.invariant.behind c.in-Some.call gives c.in_ok-answer.ensures.answer in
    record {
      text = text;
      behind = subst (λ n. Behind (text_of c.args.sheet) (place_of c.args.sheet) l c.args.answers.now (place_of c.next_call.new.self) n c.answer.new.answers)
          (sym c.in_ok-answer.ensures.after) behind;
    }

pub returns-in_err-answer : goal.returns-in_err-answer
returns-in_err-answer g c =
    let l = ledger g.E.Entry c.args.entries.now [] in
    let m = ledger g.E.Entry c.loop-call.entries c.loop-call.book in
    let gives = subst (λ o. GoesOn c.loop-call.sheet (Ok o) c.next_call.new.self) c.in-Some.is c.in_ok-call.ensures.answer in
    same_end (λ e. WorksCalls (text_of c.args.sheet) (place_of c.args.sheet) l c.args.answers.now e c.answer.new.answers) c.from_residual-in_err-answer.result _ c.from_residual-in_err-answer.ensures.1
    (gives_full (text_of c.args.sheet) (place_of c.args.sheet) l c.args.answers.now c.loop-call.sheet c.next_call.new.self m c.loop-call.answers c.answer.new.answers
    c.loop-call.invariant.text c.loop-call.invariant.behind c.in-Some.call c.in_err-answer.field-0.0 gives c.in_err-answer.ensures.answer)

pub returns : goal.returns
returns g c =
    let l = ledger g.E.Entry c.args.entries.now [] in
    let m = ledger g.E.Entry c.loop-call.entries c.loop-call.book in
    let over = subst (λ o. GoesOn c.loop-call.sheet (Ok o) c.next_call.new.self) c.in_default.is c.in_ok-call.ensures.answer in
    gives_none (text_of c.args.sheet) (place_of c.args.sheet) l c.args.answers.now c.loop-call.sheet c.next_call.new.self m c.loop-call.answers c.loop-call.answers
    c.loop-call.invariant.text c.loop-call.invariant.behind over
