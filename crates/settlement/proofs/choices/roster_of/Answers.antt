use Rattle.std.proofs.Common.{◌≡◌, ℕ, ◌≤◌, [], ◌∷◌, ◌++◌, subst, arith}
use Rattle.std.proofs.lemmas.List.{length-map}
use Rattle.std.proofs.lemmas.Int.{ints}
use Rattle.std.proofs.lemmas.Grind.{common_steps}
use Rattle.entry.specs.Cells.{weigh}
use Rattle.limits.specs.Systems.{at_mark}
use Rattle.settlement.specs.Choices.{Weighs, Picks, rise}
use Rattle.settlement.proofs.ChoiceFacts.{day_more, meant}
use Rattle.settlement.proofs.choices.roster_of.Given.{Over}
use Rattle.settlement.proofs.choices.roster_of.Goals as goal
use Rattle.settlement.proofs.choices.roster_of.Goals.{After-index-entries-index}

-- on the turn's day some held code weighs what the totals rise by, and that is small
turn : (g : Over) (c : After-index-entries-index g) →
    let m = g.E.Entry.meaning c.index-entries-index.result in
    (code : ℕ) × Weighs m (rise (at_mark c.args.totals.now) c.loop-index.index) code × (weigh m code ≤ 63)
turn g c =
    let entry = c.index-entries-index.result in
    let k = c.loop-index.index in
    let day = meant g.E.Entry.meaning c.args.entries.now k entry (omega arith) c.index-entries-index.is in
    let (code, is) = c.requires.attained k (g.E.Entry.meaning entry) day in
    (code, is, omega (arith, g.met.E.Entry.weights entry code, g.met.E.Entry.range))

pub overflow_sub-weight : goal.overflow_sub-weight
overflow_sub-weight g c =
    let (code, is, low) = turn g (goal.at.overflow_sub-weight g c).After-index-entries-index in
    omega (arith, ints)

pub smallest_of-requires : goal.smallest_of-requires
smallest_of-requires g c =
    let (code, is, low) = turn g (goal.at.smallest_of-requires g c).After-index-entries-index in
    (code, (is.0, omega (arith, ints)))

pub loop-index-preserved : goal.loop-index-preserved
loop-index-preserved g c =
    let (code, is, low) = turn g (goal.at.loop-index-preserved g c).After-index-entries-index in
    let entry = c.index-entries-index.result in
    let chosen = c.smallest_of.result in
    let after : c.push.new.self ≡ c.loop-index.roster ++ chosen ∷ [] = grind (arith, common_steps) in
    rw after
    (day_more g.E.Entry.meaning c.args.entries.now c.loop-index.index entry (omega arith) c.index-entries-index.is
    (λ k m code. Picks m (rise (at_mark c.args.totals.now) k) code) c.loop-index.roster chosen
    (subst (λ weight. Picks (g.E.Entry.meaning entry) weight chosen) (omega (arith, ints)) c.smallest_of.ensures)
    c.loop-index.invariant)

pub returns : goal.returns
returns g c =
    let daily = c.loop-index.invariant in
    record { long = omega (arith, length-map c.args.entries.now g.E.Entry.meaning); item = daily.item }
