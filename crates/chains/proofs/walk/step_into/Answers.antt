use Rattle.std.proofs.Common.{get_or, sym, ◌∙◌, subst, below_more, to_z, of_z, w32}
use Rattle.std.proofs.lemmas.Int.{to_z-of_z}
use Rattle.std.proofs.lemmas.List.{get_or_default}
use Rattle.std.proofs.lemmas.List.Elements.{Contains-get_or}
use Rattle.chains.specs.Layers.{Makes}
use Rattle.chains.proofs.Sums.{found, passed}
use Rattle.chains.proofs.walk.step_into.Goals as goal
use Rattle.chains.proofs.walk.step_into.Goals.{else-index-mark-via-then-index-mark+else-layer-index, else-index-mark-via-else-index-mark}

pub returns-then-layer-index : goal.returns-then-layer-index
returns-then-layer-index c =
    let i = c.loop-link.link-index in
    let inside = c.loop-link-test.true in (
      Contains-get_or c.args.links.now i _ inside,
      (
        sym c.index.ensures ∙ c.if-index-mark.true,
        found c.args.layer.now (get_or c.args.links.now i _) c.index-then-index-mark.result c.from.result c.index-then-index-mark.ensures c.from.ensures
            c.requires.range (c.requires.within i _ inside) c.args.made c.ranges.made c.if-layer-index.true,
      ),
    )

pub loop-link-preserved : goal.loop-link-preserved
loop-link-preserved c =
    let i = c.loop-link.link-index in
    let inside = c.loop-link-test.true in
    let links = c.args.links.now in
    below_more _ _ c.loop-link.invariant
    (λ d. subst (λ l. Makes c.args.layer.now c.args.mark (to_z w32 (of_z w32 c.args.made)) l → ⊥) (get_or_default links i _ d inside)
    (λ (leads, makes). elim c.else-index-mark.branch [
      | else-index-mark-via-then-index-mark+else-layer-index w ↦
          passed c.args.layer.now (get_or c.args.links.now i _) w.index-then-index-mark.result w.from.result w.index-then-index-mark.ensures w.from.ensures
          c.requires.range (c.requires.within i _ inside) c.args.made w.if-layer-index.false (makes ∙ to_z-of_z w32 c.args.made c.ranges.made)
      | else-index-mark-via-else-index-mark w ↦ w.if-index-mark.false (c.index.ensures ∙ leads)
    ]))
