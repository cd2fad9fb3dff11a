use Rattle.std.specs.Fmt.{digits}
use Rattle.std.proofs.Common.{refl}
use Rattle.codes.specs.Members.{member, members}
use Rattle.carry_cases.proofs.definitions.answer_lines.Goals as goal

-- the definition computes to these bytes
pub returns : goal.returns
unfolding digits member members
returns c = refl
