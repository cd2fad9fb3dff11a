use Rattle.std.proofs.Common.{◌≡◌, ◌-◌, true}
use Rattle.tokens.specs.Tokens.{Each, in_class}
use Rattle.tokens.specs.Passing.{SameLine}
use Rattle.reader.specs.Places.{longest}
use Rattle.tokens.proofs.tokens.Tokens.run.Given as goal

abbrev pub invariant-loop-byte : goal.invariant-loop-byte
invariant-loop-byte l = SameLine l.fn.self l.self × Each (λ c. in_class l.class c ≡ true) l.self.reader.text.now l.from l.self.reader.at × (l.from ≡ l.fn.self.reader.at)

abbrev pub decreases-loop-byte : goal.decreases-loop-byte
decreases-loop-byte l = longest - l.self.reader.at
