use Rattle.carry.proofs.OpeningFacts.{is_refused, too_many, no_entry}
use Rattle.carry.proofs.starts.begin.Goals as goal

pub returns-then-days-gt-DAYS : goal.returns-then-days-gt-DAYS
returns-then-days-gt-DAYS g c text next =
    is_refused text next c.args.answer c.args.answers.now _ _ (too_many g.E.Entry c.args.days c.args.entry c.if-days-gt-DAYS.true)

pub returns-in-Err : goal.returns-in-Err
returns-in-Err g c text next =
    is_refused text next c.args.answer c.args.answers.now _ _ (no_entry g.E.Entry c.args.days c.args.entry c.in-Err.refusal c.in-Err.is c.if-days-gt-DAYS.false)
