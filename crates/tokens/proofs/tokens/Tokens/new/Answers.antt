use Rattle.tokens.proofs.Moves.{first_fits}
use Rattle.tokens.proofs.tokens.Tokens.new.Goals as goal

pub invariant_of-result : goal.invariant_of-result
invariant_of-result c = let (from, fits) = first_fits c.new.result c.new.ensures.begins c.new.ensures.first in record { from = from; fits = fits }
