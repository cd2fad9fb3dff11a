use Rattle.std.proofs.Common.{◌≡◌, ℕ, ◌<◌, ◌==◌, true, not, ◌&&◌, ap, arith}
use Rattle.std.proofs.lemmas.Bool.{ltb-true}
use Rattle.std.proofs.lemmas.Bool.Decides.{nat_tests}
use Rattle.codes.specs.Members.{member}
use Rattle.entry.proofs.Verdicts.{strikes_unknown, strikes_only, strikes_taken}
use Rattle.kinds.specs.Codes.{any_code}
use Rattle.kinds.specs.Collections.{collected}
use Rattle.kinds.proofs.CollectionFacts.{sized, no_gap, held_is, holding, now_struck, alone, some_other}
use Rattle.kinds.proofs.collection.CollectionEntry.strike.Goals as goal
use Rattle.kinds.proofs.collection.CollectionEntry.strike.Goals.{else-is_empty-via-then-is_empty+else-contains, else-is_empty-via-else-is_empty}

pub returns-then-not-known : goal.returns-then-not-known
returns-then-not-known c =
    let x = c.args.self.now in
    strikes_unknown collected any_code c.args.code x (sized x) (grind (arith, nat_tests, c.if-not-known.ensures))

pub returns-then-contains : goal.returns-then-contains
returns-then-contains c =
    let x = c.args.self.now in
    let code = c.args.code in
    let known : any_code code ≡ true = grind (arith, nat_tests, c.if-not-known.ensures) in
    strikes_only collected any_code code x (sized x) known
    (grind (arith, nat_tests, held_is x code, c.if-contains.ensures.answer))
    (alone x c.without-rest.result code (ltb-true code 64 known)
    (λ k. grind (arith, nat_tests, c.without-rest.ensures.each k)) (c.is_empty.ensures.none.0 c.if-is_empty.true))

pub returns : goal.returns
returns c =
    let x = c.args.self.now in
    let code = c.args.code in
    let rest = c.without-rest.result in
    let known : any_code code ≡ true = grind (arith, nat_tests, c.if-not-known.ensures) in
    let below : code < 64 = ltb-true code 64 known in
    let each : (k : ℕ) → member rest k ≡ (member x.held k && not (k == code)) = λ k. grind (arith, nat_tests, c.without-rest.ensures.each k) in
    strikes_taken collected any_code code x (sized x) (holding x rest) known
    (λ t. elim c.else-is_empty.branch [
      | else-is_empty-via-then-is_empty+else-contains w ↦ absurd (grind (arith, nat_tests, held_is x code, t, w.if-contains.ensures.answer, w.if-contains.false))
      | else-is_empty-via-else-is_empty w ↦
          some_other x rest code below each c.is_empty.result w.if-is_empty.false c.is_empty.ensures.none.1
    ])
    (no_gap (holding x rest)) (now_struck x rest code below each)
    (λ f. ap (holding x) (c.without-rest.ensures.absent (grind (arith, nat_tests, held_is x code, f))))
