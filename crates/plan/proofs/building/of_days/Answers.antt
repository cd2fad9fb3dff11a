use Rattle.std.proofs.Common.{ℕ, ◌≤◌, map, take, arith, length-take}
use Rattle.std.proofs.lemmas.List.{length-map}
use Rattle.entry.specs.Cells.{weigh}
use Rattle.plan.proofs.BuildFacts.{map_take_more, extreme_small, builds_day}
use Rattle.plan.proofs.building.of_days.Goals as goal

pub loop-entry-preserved : goal.loop-entry-preserved
loop-entry-preserved g c =
    let kind = g.E.Entry in
    let laws = g.met.E.Entry in
    let k = c.loop-entry.entry-index in
    let x = c.entry-item.result in
    let m = kind.meaning x in
    let entries = c.args.entries.now in
    let before = map kind.meaning (take k entries) in
    let more = map_take_more kind.meaning entries k x c.loop-entry-test.true c.entry-item.is in
    let light = c.lightest.ensures in
    let heavy = c.heaviest.ensures in
    let low : (code : ℕ) → weigh m code ≤ 63 = λ code. omega (arith, laws.weights x code, laws.range.1) in
    rw (c.add_day.ensures.after, more, light.equals, heavy.equals)
    (builds_day (record { top = kind.TOP; known = kind.known }) before m c.loop-entry.system c.loop-entry.invariant
    (omega (arith, length-map (take k entries) kind.meaning, length-take k entries, c.requires))
    (rw (← light.equals) (extreme_small m _ low light.means)) (rw (← heavy.equals) (extreme_small m _ low heavy.means)))
