use Rattle.std.proofs.Common.{◌≡◌, pos, ◌-ℤ◌}
use Rattle.limits.specs.Systems.{at_mark}
use Rattle.limits.proofs.Writing.{Written}
use Rattle.closure.proofs.rows.days_from.Given as goal

abbrev pub invariant-loop-to : goal.invariant-loop-to
invariant-loop-to l = Written (pos 0) 0 l.to (λ to number. number ≡ at_mark l.lightest to -ℤ at_mark l.lightest l.from) l.initial.row l.row

abbrev pub invariant-loop-to-2 : goal.invariant-loop-to-2
invariant-loop-to-2 l = Written (pos 0) l.from l.to (λ to number. number ≡ at_mark l.heaviest to -ℤ at_mark l.heaviest l.from) l.initial.row l.row
