use mathlib.Core.Path.{refl}
use Rattle.tokens.proofs.Moves.{stays, end_fits, end_told, end_fault}
use Rattle.tokens.proofs.tokens.Tokens.end.Goals as goal

pub invariant_of-self : goal.invariant_of-self
invariant_of-self c =
    let (from, fits) = stays c.args.self.now c.end_line.new.self c.in_err-end_line.ensures.0 in
    record { from = from; fits = fits }

pub returns-in_err-end_line : goal.returns-in_err-end_line
returns-in_err-end_line c =
    let told = c.from_residual.ensures.1 in
    end_fault c.args.self.now _ c.from_residual.result c.in_err-end_line.field-0.0 told refl c.in_err-end_line.ensures c.requires

pub invariant_of-self-2 : goal.invariant_of-self-2
invariant_of-self-2 c =
    let (from, fits) = end_fits c.args.self.now c.end_line.new.self c.in_ok-end_line.ensures in
    record { from = from; fits = fits }

pub returns : goal.returns
returns c = end_told c.args.self.now _ c.in_ok-end_line.ensures refl
