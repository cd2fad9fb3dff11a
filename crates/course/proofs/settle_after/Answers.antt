use Rattle.std.proofs.Common.{◌∙◌}
use Rattle.ledger.specs.Ledgers.{ledger}
use Rattle.course.proofs.SettleFacts.{good_settles}
use Rattle.course.proofs.settle_after.Goals as goal

pub returns-clause-meets : goal.returns-clause-meets
returns-clause-meets g c = λ starts.
    let settles = c.settle.ensures.settles in
    let left = ledger g.E.Entry c.replay.new.entries c.replay.new.book in
    rw (← c.replay.ensures.run.after) (settles.meets (settles.answer ∙ good_settles left (c.replay.ensures.good starts)))
