use Rattle.std.proofs.Common.{◌-◌}
use Rattle.tokens.specs.Tokens.{Blanks}
use Rattle.tokens.specs.Passing.{SameLine}
use Rattle.reader.specs.Places.{longest}
use Rattle.tokens.proofs.tokens.Tokens.blanks.Given as goal

abbrev pub invariant-loop-self : goal.invariant-loop-self
invariant-loop-self l = SameLine l.fn.self l.self × Blanks l.self.reader.text.now l.fn.self.reader.at l.self.reader.at

abbrev pub decreases-loop-self : goal.decreases-loop-self
decreases-loop-self l = longest - l.self.reader.at
