use Rattle.settlement.specs.Choices.{within}
use Rattle.settlement.proofs.ChoiceFacts.{Passed}
use Rattle.settlement.proofs.choices.codes_within.Given as goal

-- the set has those of the codes below the turn's
abbrev pub invariant-loop-code : goal.invariant-loop-code
invariant-loop-code g l = Passed (within (g.E.Entry.meaning l.entry) l.rise.least l.rise.most) l.code l.set
