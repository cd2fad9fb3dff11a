use Rattle.tokens.specs.Lines.{listed}
use Rattle.answers.specs.Putting.{Puts}
use Rattle.answers.proofs.writing.put_group.Given as goal

-- the codes so far
abbrev pub invariant-loop-code : goal.invariant-loop-code
invariant-loop-code l = Puts l.initial.list l.initial.end (listed l.yielded) l.list l.end
