use Rattle.std.proofs.Common.{◌≡◌, ℕ, ◌<◌, length}
use Rattle.limits.specs.Systems.{at_mark}
use Rattle.closure.specs.Allowances.{cell}
use Rattle.closure.proofs.Closure.largest.Given as goal

abbrev pub invariant-loop-mark : goal.invariant-loop-mark
invariant-loop-mark l =
    (length l.totals ≡ l.mark) × ((mark : ℕ) → mark < l.mark → at_mark l.totals mark ≡ cell l.self.matrix.cells 0 mark)
