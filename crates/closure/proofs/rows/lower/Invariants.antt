use Rattle.std.proofs.Common.{◌≡◌, pos, ◌+ℤ◌, w16}
use Rattle.std.specs.Int.{int_min, int_wrap}
use Rattle.limits.proofs.Writing.{Written}
use Rattle.limits.specs.Systems.{at_mark}
use Rattle.closure.proofs.rows.lower.Given as goal

abbrev pub invariant-loop-to : goal.invariant-loop-to
invariant-loop-to l = Written (pos 0) 0 l.to (λ to number. number ≡ int_min (at_mark l.fn.row to) (int_wrap w16 (l.first +ℤ at_mark l.through to))) l.fn.row l.row
