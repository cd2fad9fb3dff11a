use Rattle.std.proofs.Common.{◌≡◌, pos}
use Rattle.limits.specs.Systems.{at_mark}
use Rattle.limits.proofs.Writing.{Written}
use Rattle.chains.proofs.layers.lightest_totals.Given as goal

abbrev pub invariant-loop-mark : goal.invariant-loop-mark
invariant-loop-mark l = Written (pos 0) 0 l.mark (λ mark total. total ≡ at_mark l.totals mark) l.initial.layer l.layer
