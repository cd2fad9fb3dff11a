use Rattle.std.proofs.Common.{[]}
use Rattle.limits.proofs.Writing.{Written}
use Rattle.closure.proofs.StepFacts.{Lowered}
use Rattle.closure.proofs.steps.pass.Given as goal

abbrev pub invariant-loop-from : goal.invariant-loop-from
invariant-loop-from l = Written [] 0 l.from (Lowered l.marks l.via l.fn.cells) l.fn.cells l.cells
