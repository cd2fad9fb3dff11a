use Rattle.std.proofs.Common.{◌^◌, ◌<◌, refl, arith}
use Rattle.std.proofs.lemmas.Bool.Decides.{nat_tests}
use Rattle.codes.proofs.Sets.{lowest, word_of, first_and_others}
use Rattle.codes.proofs.set.CodeSet.smallest.Goals as goal

pub returns-else-is_empty : goal.returns-else-is_empty
returns-else-is_empty c =
    let s = c.args.self in
    let fits : s.0 < 2 ^ 64 = omega arith in
    let low = lowest s fits (grind (arith, nat_tests, (word_of s fits).nil, c.is_empty.ensures.nil)) in
    record { first = rw (first_and_others s _ _ low (λ c. refl)) refl; least = low }
