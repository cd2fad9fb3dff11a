use Rattle.codes.proofs.Sets.{listing}
use Rattle.codes.proofs.iter.Codes.over.Goals as goal

pub returns : goal.returns
returns c = listing c.args.set
