use Rattle.std.proofs.Common.{take}
use Rattle.answers.specs.Answers.{groups}
use Rattle.answers.specs.Putting.{Puts}
use Rattle.answers.proofs.writing.put_groups.Given as goal

-- the days so far
abbrev pub invariant-loop-index : goal.invariant-loop-index
invariant-loop-index l = Puts l.initial.list l.at (groups 1 (take l.index l.sets)) l.list l.end
