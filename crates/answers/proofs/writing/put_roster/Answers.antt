use Rattle.std.proofs.Common.{◌≡◌, ◌+◌, ◌∷◌, [], ◌++◌, take, arith}
use Rattle.std.proofs.lemmas.Grind.{common_steps}
use Rattle.answers.proofs.PuttingFacts.{puts_listed}
use Rattle.answers.proofs.writing.put_roster.Goals as goal

pub loop-code-preserved : goal.loop-code-preserved
loop-code-preserved c =
    let roster = c.args.roster.now in
    let index = c.loop-code.code-index in
    let more : take (index + 1) roster ≡ take index roster ++ (c.from.result ∷ []) = grind (arith, common_steps) in
    rw more (puts_listed _ _ (omega arith) c.loop-code.invariant c.put_listed-end.ensures)
