use Rattle.std.proofs.Common.{get_or, rules}
use Rattle.chains.proofs.Lowering.{low_is, lowers_more}
use Rattle.chains.proofs.layers.lowered.Goals as goal

pub loop-link-preserved : goal.loop-link-preserved
loop-link-preserved c =
    let i = c.loop-link.link-index in
    let inside = c.loop-link-test.true in
    lowers_more c.args.links.now i _ c.args.layer.now c.loop-link.next c.index-to.result _ inside (c.requires.within i _ inside) c.index-to.ensures
    (low_is c.args.layer.now c.loop-link.next (get_or c.args.links.now i _) c.index.result c.index-to.result c.from.result c.min.result c.index.ensures c.from.ensures
    c.requires.range (c.requires.within i _ inside) (search rules) (search rules) c.min.ensures.value)
    c.loop-link.invariant
