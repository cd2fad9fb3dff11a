use Rattle.std.proofs.Common.{◌≡◌, true, ap, arith}
use Rattle.std.proofs.lemmas.Bool.{ltb-true}
use Rattle.std.proofs.lemmas.Bool.Decides.{nat_tests}
use Rattle.codes.specs.Members.{member}
use Rattle.entry.proofs.CellFacts.{held-known}
use Rattle.entry.proofs.Verdicts.{grants_unknown, grants_taken}
use Rattle.kinds.specs.Codes.{any_code}
use Rattle.kinds.specs.Collections.{collected}
use Rattle.kinds.proofs.CollectionFacts.{weighs, sized, no_gap, held_is, holding, now_granted}
use Rattle.kinds.proofs.collection.CollectionEntry.grant.Goals as goal

pub returns-then-not-known : goal.returns-then-not-known
returns-then-not-known c =
    let x = c.args.self.now in
    let code = c.args.code in
    grants_unknown collected any_code code x (sized x) (grind (arith, nat_tests, c.if-not-known.ensures)) (held-known (weighs x) (member x.held) code)

pub returns : goal.returns
returns c =
    let x = c.args.self.now in
    let code = c.args.code in
    let after = c.with-self.result in
    let known : any_code code ≡ true = grind (arith, nat_tests, c.if-not-known.ensures) in
    grants_taken collected any_code code x (sized x) (holding x after) known (no_gap (holding x after))
    (now_granted x after code (ltb-true code 64 known) (λ k. grind (arith, nat_tests, c.with-self.ensures.each k)))
    (λ t. ap (holding x) (c.with-self.ensures.held (grind (arith, nat_tests, held_is x code, t))))
