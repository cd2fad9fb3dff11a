use Rattle.closure.specs.Rows.{DaysFrom}
use Rattle.std.proofs.Common.{[]}
use Rattle.limits.proofs.Writing.{Written}
use Rattle.closure.proofs.steps.day_sums.Given as goal

abbrev pub invariant-loop-from : goal.invariant-loop-from
invariant-loop-from l = Written [] 0 l.from (λ from row. DaysFrom from l.lightest l.heaviest row) l.initial.cells l.cells
