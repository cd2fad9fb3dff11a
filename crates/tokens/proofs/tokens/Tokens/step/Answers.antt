use Rattle.tokens.proofs.Beginnings.{kept}
use Rattle.tokens.proofs.Moves.{step_told}
use mathlib.Core.Path.{refl}
use Rattle.tokens.proofs.tokens.Tokens.step.Goals as goal

pub invariant_of-self : goal.invariant_of-self
invariant_of-self c =
    let s = c.args.self.now in
    let (from, fits) = kept s.start s.reader c.step.new.self c.step.result c.step.ensures (s.from, s.fits) in
    record { from = from; fits = fits }

pub returns : goal.returns
returns c = step_told c.args.self.now _ c.step.result refl c.step.ensures c.requires
