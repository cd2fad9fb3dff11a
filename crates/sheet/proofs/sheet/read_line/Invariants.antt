use Rattle.std.proofs.Common.{◌-◌}
use Rattle.sheet.proofs.Reading.{Reading}
use Rattle.reader.specs.Places.{longest}
use Rattle.sheet.proofs.sheet.read_line.Given as goal

abbrev pub invariant-loop-text : goal.invariant-loop-text
invariant-loop-text l = Reading l.fn.tokens l.tokens l.draft

abbrev pub decreases-loop-text : goal.decreases-loop-text
decreases-loop-text l = longest - l.tokens.reader.at
