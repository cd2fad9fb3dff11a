use Rattle.std.proofs.Common.{take}
use Rattle.tokens.specs.Lines.{listed}
use Rattle.answers.specs.Putting.{Puts}
use Rattle.answers.proofs.writing.put_roster.Given as goal

-- the codes so far
abbrev pub invariant-loop-code : goal.invariant-loop-code
invariant-loop-code l = Puts l.initial.list l.at (listed (take l.code-index l.roster)) l.list l.end
