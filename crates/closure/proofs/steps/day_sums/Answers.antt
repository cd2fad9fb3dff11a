use Rattle.std.proofs.Common.{◌≡◌, ℕ, ◌<◌, [], length, ap, arith}
use Rattle.limits.proofs.SystemFacts.{totals_small}
use Rattle.limits.specs.Systems.{marks}
use Rattle.closure.specs.Rows.{DaysFrom}
use Rattle.closure.proofs.DayFacts.{days_near, days_diagonal, days_implied}
use Rattle.limits.proofs.Writing.{written_more}
use Rattle.closure.specs.Allowances.{row_of}
use Rattle.closure.proofs.steps.day_sums.Goals as goal

pub days_from-requires-clause-small : goal.days_from-requires-clause-small
days_from-requires-clause-small c =
    let low = c.lightest-lightest.ensures in
    rw (low.totals, c.heaviest-heaviest.ensures.totals)
    (λ mark h. totals_small c.args.system.now low.bounds mark (omega (arith, low.bounds.marked)))

pub loop-from-preserved : goal.loop-from-preserved
loop-from-preserved c =
    let low = c.lightest-lightest.ensures in
    let long : length c.lightest-lightest.result.now ≡ length c.args.system.now.lightest = ap length low.totals in
    let written = c.loop-from.invariant in
    written_more [] 0 c.loop-from.from _ _ c.loop-from.cells c.days_from.result (omega arith) (omega (arith, low.bounds.few, written.long)) c.days_from.ensures written

all_marks : (c : goal.After-loop-from) → c.loop-from.from ≡ marks c.args.system.now
all_marks c =
    let low = c.lightest-lightest.ensures in
    let long : length c.lightest-lightest.result.now ≡ length c.args.system.now.lightest = ap length low.totals in
    omega (arith, low.bounds.marked)

rows : (c : goal.After-loop-from) (from : ℕ) → from < marks c.args.system.now
    → DaysFrom from c.args.system.now.lightest c.args.system.now.heaviest (row_of c.loop-from.cells from)
rows c from h =
    rw (← c.lightest-lightest.ensures.totals, ← c.heaviest-heaviest.ensures.totals)
    (c.loop-from.invariant.done from (omega arith) (omega (arith, all_marks c)))

pub returns-clause-near : goal.returns-clause-near
returns-clause-near c =
    days_near c.args.system.now c.lightest-lightest.ensures.bounds c.loop-from.cells (rows c)

pub returns-clause-diagonal : goal.returns-clause-diagonal
returns-clause-diagonal c =
    days_diagonal c.args.system.now c.lightest-lightest.ensures.bounds c.loop-from.cells (rows c)

pub returns-clause-implied : goal.returns-clause-implied
returns-clause-implied c =
    days_implied c.args.system.now c.lightest-lightest.ensures.bounds c.loop-from.cells (rows c)
