use Rattle.std.proofs.Common.{◌≡◌, arith}
use Rattle.std.proofs.lemmas.Grind.{common_steps}
use Rattle.ledger.specs.Ledgers.{ledger, after_all}
use Rattle.course.specs.Runs.{Whole}
use Rattle.course.proofs.RunFacts.{run_to, starts_good}
use Rattle.course.proofs.replay.Goals as goal

pub returns-clause-run : goal.returns-clause-run
returns-clause-run g c = run_to _ c.args.calls.now _ (grind (arith, common_steps, c.work_all.ensures))

pub returns-clause-good : goal.returns-clause-good
returns-clause-good g c = λ start.
    let laws = g.met.E.Entry in
    let kind = g.E.Entry in
    let whole : (x : _) → Whole (kind.meaning x) =
    λ x. ((laws.cells x, λ code. omega (arith, laws.weights x code, laws.range.1)), laws.gapless x) in
    let first = ledger kind c.args.entries.now c.args.book.now in
    let last = ledger kind c.work_all.new.entries c.work_all.new.book in
    let worked : last ≡ after_all first c.args.calls.now = grind (arith, common_steps, c.work_all.ensures) in
    (run_to _ c.args.calls.now last worked).good (starts_good kind whole c.args.entries.now c.args.book.now start)
