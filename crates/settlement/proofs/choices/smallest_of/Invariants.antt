use Rattle.std.proofs.Common.{ℕ, ◌≤◌}
use Rattle.settlement.specs.Choices.{Weighs}
use Rattle.settlement.proofs.choices.smallest_of.Given as goal

-- no code below the turn's is held and has the weight
abbrev pub invariant-loop-code : goal.invariant-loop-code
invariant-loop-code g l = (other : ℕ) → Weighs (g.E.Entry.meaning l.entry) l.weight other → l.code ≤ other
