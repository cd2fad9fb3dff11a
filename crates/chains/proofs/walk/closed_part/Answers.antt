use Rattle.std.proofs.Common.{sym, ◌∙◌, eqb-true, pos, arith}
use Rattle.limits.specs.declared.link.Limit.TheVariants.{Heaviest}
use Rattle.limits.specs.Links.{link}
use Rattle.chains.proofs.Parts.{closed_between, comes_twice}
use Rattle.chains.proofs.walk.closed_part.Goals as goal

pub returns-then-eq : goal.returns-then-eq
returns-then-eq c =
    let (start, end, leads) = c.requires.leads in
    closed_between start end c.args.steps.now _ leads c.loop-start.start c.loop-end.end (omega arith) (omega arith)
    (eqb-true _ _ (sym c.eq.ensures ∙ c.if-eq.true))

pub unreachable-requires : goal.unreachable-requires
unreachable-requires c =
    let (start, end, leads) = c.requires.leads in
    let (days, within, long) = c.requires.crowded in
    let d = link (Heaviest 0) 0 0 (pos 0) in
    comes_twice days start end c.args.steps.now d leads within long (λ j h i o. c.loop-end.invariant j (omega arith) i o d)
