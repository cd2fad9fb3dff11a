use Rattle.std.proofs.Common.{length}
use Rattle.closure.specs.Allowances.{cell}
use Rattle.closure.proofs.ClosingFacts.{Closing}
use Rattle.closure.proofs.Closure.of.Given as goal

abbrev pub invariant-loop-link : goal.invariant-loop-link
invariant-loop-link l = Closing l.system l.link-index 0 (cell l.cells)

abbrev pub invariant-loop-via : goal.invariant-loop-via
invariant-loop-via l = Closing l.system (length l.system.links) l.via (cell l.cells)
