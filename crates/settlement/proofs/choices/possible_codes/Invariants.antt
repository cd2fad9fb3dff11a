use Rattle.std.proofs.Common.{map}
use Rattle.settlement.specs.Choices.{Daily, Rising}
use Rattle.settlement.proofs.choices.possible_codes.Given as goal

abbrev pub invariant-loop-index : goal.invariant-loop-index
invariant-loop-index g l = Daily (Rising l.closure.system.now) (map g.E.Entry.meaning l.entries) l.index l.possible
