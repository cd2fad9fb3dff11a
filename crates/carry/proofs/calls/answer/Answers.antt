use Rattle.std.proofs.Common.{subst}
use Rattle.ledger.specs.Ledgers.{ledger}
use Rattle.carry.specs.Replies.{IsReply}
use Rattle.carry.proofs.calls.answer.Goals as goal
use Rattle.carry.proofs.calls.answer.Goals.{in-Rule, in-Slide, in-Withdraw, in-Strike, in-Grant}

-- each edit is answered with what the ledger replies
pub returns-clause-answer : goal.returns-clause-answer
returns-clause-answer g c =
    let l = ledger g.E.Entry c.args.entries.now c.args.book.now in (
      c.match-call.edited,
      elim c.match-call.branch [
        | in-Rule w ↦ rw w.in-Rule.is (rw w.edited-is (subst (λ r. IsReply r w.numbered-edited.result) w.rule.ensures.answer w.numbered-edited.ensures))
        | in-Slide w ↦ rw w.in-Slide.is (rw w.edited-is (subst (λ r. IsReply r w.ranging-edited.result) w.slide.ensures.answer w.ranging-edited.ensures))
        | in-Withdraw w ↦ rw w.in-Withdraw.is (rw w.edited-is (subst (λ r. IsReply r w.done-edited.result) (w.withdraw.ensures.answer l.kind l.days) w.done-edited.ensures))
        | in-Strike w ↦ rw w.in-Strike.is (rw w.edited-is (subst (λ r. IsReply r w.done-edited-in-Strike.result) (w.strike.ensures.answer c.args.book.now) w.done-edited-in-Strike.ensures))
        | in-Grant w ↦ rw w.in-Grant.is (rw w.edited-is (subst (λ r. IsReply r w.done-edited-in-Grant.result) (w.grant.ensures.answer c.args.book.now) w.done-edited-in-Grant.ensures))
      ],
      c.add-2.ensures,
    )
