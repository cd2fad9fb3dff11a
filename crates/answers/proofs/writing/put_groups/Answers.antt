use Rattle.std.proofs.Common.{◌≡◌, ◌+◌, ◌∷◌, [], ◌++◌, take, get_or, length, arith}
use Rattle.std.proofs.lemmas.Grind.{common_steps}
use Rattle.std.proofs.lemmas.List.{length-take-le}
use Rattle.answers.proofs.PuttingFacts.{puts_groups}
use Rattle.answers.proofs.writing.put_groups.Goals as goal

pub loop-index-preserved : goal.loop-index-preserved
loop-index-preserved c =
    let sets = c.args.sets.now in
    let index = c.loop-index.index in
    let set = get_or sets index (record { 0 = 0 }) in
    let more : take (index + 1) sets ≡ take index sets ++ (set ∷ []) = grind (arith, common_steps) in
    let day : index + 1 ≡ 1 + length (take index sets) = omega (arith, length-take-le index sets) in
    rw more (puts_groups _ set (index + 1) day (omega arith) c.loop-index.invariant c.put_group-end.ensures)
