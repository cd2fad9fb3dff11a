use Rattle.codes.specs.Members.{member, members}
use Rattle.codes.proofs.Sets.{first_and_others}
use Rattle.codes.proofs.set.CodeSet.split_first.Goals as goal

pub returns : goal.returns
unfolding members
returns c = first_and_others c.args.self c.in_ok-code.code (member c.without.result) c.in_ok-code.ensures.least c.without.ensures.each
