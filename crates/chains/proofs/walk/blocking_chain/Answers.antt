use Rattle.std.proofs.Common.{◌+◌, ◌<◌, ◌≤◌, ◌++◌, length, take, ap, sym, lt-ltb, ◌∙◌, subst, arith, rules, length-append}
use Rattle.std.proofs.lemmas.List.{length-take, length-take-le, take_all, take_more}
use Rattle.limits.specs.Systems.{days}
use Rattle.chains.specs.Walks.{Descends}
use Rattle.chains.proofs.Blocking.{descends_known, known_within, part_blocks}
use Rattle.chains.proofs.walk.blocking_chain.Goals as goal

pub closed_part-step-items-requires-clause-crowded : goal.closed_part-step-items-requires-clause-crowded
closed_part-step-items-requires-clause-crowded c =
    let s = c.args.system.now in
    let steps = take (c.days-marks.result + 1) c.walk_back-steps.result in
    let descends = subst (λ links. Descends links c.args.layers.now 0 steps) c.links.ensures.links c.walk_back-steps.ensures.descends in
    let room : c.days-marks.result + 1 ≤ length c.walk_back-steps.result = search rules in (
      days s,
      known_within (days s) s.links steps c.links.ensures.bounds.within (descends_known s.links c.args.layers.now 0 steps descends),
      omega (arith, length-take-le (c.days-marks.result + 1) c.walk_back-steps.result room),
    )

pub loop-step-preserved : goal.loop-step-preserved
loop-step-preserved c =
    let part = c.closed_part-step-items.result.now in
    let i = c.loop-step.step-index in
    let inside = c.loop-step-test.true in
    let closed = c.closed_part-step-items.ensures in
    let size = ap length closed.whole in
    let room : length c.loop-step.chain < 129 =
    rw c.loop-step.invariant (omega (arith, length-take i part, length-append closed.before (part ++ closed.after), length-append part closed.after, length-take (c.days-marks.result + 1) c.walk_back-steps.result)) in
    let fits = lt-ltb (length c.loop-step.chain) 129 room in
    let pushed = rw (c.push.ensures.answer, fits) at c.push.ensures.after in
    pushed ∙ rw c.loop-step.invariant (sym (take_more part i _ inside))

pub returns : goal.returns
returns c =
    let s = c.args.system.now in
    let steps = take (c.days-marks.result + 1) c.walk_back-steps.result in
    let part = c.closed_part-step-items.result.now in
    let descends = subst (λ links. Descends links c.args.layers.now 0 steps) c.links.ensures.links c.walk_back-steps.ensures.descends in
    let room : c.days-marks.result + 1 ≤ length c.walk_back-steps.result = search rules in
    rw (c.loop-step.invariant, take_all c.loop-step.step-index part c.loop-step-test.false)
    (part_blocks s c.args.layers.now steps part c.requires.layered (omega (arith, length-take-le (c.days-marks.result + 1) c.walk_back-steps.result room)) descends c.closed_part-step-items.ensures)
