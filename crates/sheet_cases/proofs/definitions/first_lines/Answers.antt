use Rattle.std.specs.Fmt.{digits}
use Rattle.std.proofs.Common.{refl}
use Rattle.sheet_cases.proofs.definitions.first_lines.Goals as goal

-- the definition computes to these bytes
pub returns : goal.returns
unfolding digits
returns c = refl
