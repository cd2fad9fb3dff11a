use Rattle.std.proofs.Common.{◌≡◌, ℕ, true, Ok, sym, ap, ◌∙◌, arith}
use Rattle.std.proofs.lemmas.List.{at_drop_all}
use Rattle.std.proofs.lemmas.Grind.{common_steps}
use Rattle.codes.specs.Members.{member, lists}
use Rattle.kinds.specs.Listings.{all_known}
use Rattle.kinds.proofs.ListingFacts.{all_taken}
use Rattle.kinds.proofs.listing.listed.Goals as goal

pub returns : goal.returns
returns g c =
    let ns = c.args.codes.now in
    let known = g.E.Entry.known in
    let i = c.loop-code.code-index in
    let all : all_known known ns ≡ true = sym c.loop-code.invariant.0 ∙ at_drop_all (all_known known) ns i c.loop-code-test.false in
    let same : (k : ℕ) → member c.loop-code.set k ≡ lists ns k =
    λ k. grind (arith, common_steps, c.loop-code.invariant.1 k, at_drop_all (λ xs. lists xs k) ns i c.loop-code-test.false) in
    ap Ok (λ j k. same k j) ∙ sym (all_taken known ns (lists ns) all)
