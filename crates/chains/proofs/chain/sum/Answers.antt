use Rattle.std.proofs.Common.{rules, slice_index_or, ap, ◌∙◌, refl, SFits, w16, w32, pos, arith}
use Rattle.std.proofs.lemmas.Int.{ints, to_z-of_z}
use Rattle.std.proofs.lemmas.List.{take_all}
use Rattle.limits.specs.declared.link.Limit.TheVariants.{Most}
use Rattle.limits.specs.Links.{link}
use Rattle.chains.specs.Chains.{sum}
use Rattle.chains.proofs.SumFacts.{sum_more}
use Rattle.chains.proofs.chain.sum.Goals as goal

pub loop-link-init : goal.loop-link-init
loop-link-init c = (refl, (omega (arith, ints), omega (arith, ints)))

pub overflow_add-total : goal.overflow_add-total
overflow_add-total c =
    let few = c.as_slice-link-items.ensures.room in
    let so_far = c.loop-link.invariant in
    omega (arith, ints)

pub loop-link-preserved : goal.loop-link-preserved
loop-link-preserved c =
    let links = c.as_slice-link-items.result.now in
    let i = c.loop-link.link-index in
    let none = link (Most 0) 0 0 (pos 0) in
    let more = sum_more links i none c.loop-link-test.true in
    let so_far = c.loop-link.invariant in
    let fits : SFits w16 (slice_index_or links i none).allowance = search rules in
    let is = c.from-total.ensures ∙ to_z-of_z w16 (slice_index_or links i none).allowance fits in
    (to_z-of_z w32 _ (overflow_add-total c) ∙ omega (arith, ints), (omega (arith, ints), omega (arith, ints)))

pub returns : goal.returns
returns c =
    let all = take_all c.loop-link.link-index c.as_slice-link-items.result.now c.loop-link-test.false in
    c.loop-link.invariant.0 ∙ ap sum (all ∙ c.as_slice-link-items.ensures.items)
