use Rattle.std.proofs.Common.{arith}
use Rattle.codes.proofs.Sets.{word_of}
use Rattle.codes.proofs.set.CodeSet.bits.Goals as goal

pub returns : goal.returns
returns c = word_of _ (omega arith)
