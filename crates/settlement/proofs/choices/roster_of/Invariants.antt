use Rattle.std.proofs.Common.{map}
use Rattle.limits.specs.Systems.{at_mark}
use Rattle.settlement.specs.Choices.{Picks, rise, Daily}
use Rattle.settlement.proofs.choices.roster_of.Given as goal

abbrev pub invariant-loop-index : goal.invariant-loop-index
invariant-loop-index g l =
    Daily (λ k m code. Picks m (rise (at_mark l.totals) k) code) (map g.E.Entry.meaning l.entries) l.index l.roster
