use Rattle.std.proofs.Common.{◌≡◌, ◌+◌, ◌-◌, ◌<◌, w32, ap, sym, ◌∙◌, arith}
use Rattle.std.proofs.lemmas.Int.{to_z-of_z}
use Rattle.std.proofs.lemmas.List.{get_or-set_same, length-set}
use Rattle.limits.specs.declared.link.Link.{Link}
use Rattle.limits.specs.Systems.{at_mark}
use Rattle.chains.specs.Layers.{layer_of}
use Rattle.chains.proofs.LayerFacts.{range_at, range_128}
use Rattle.chains.proofs.WalkFacts.{walk_push, falls_within, total_fits_next, walk_more}
use Rattle.chains.proofs.walk.walk_back.Goals as goal

pub offset_bounds-layers-mark : goal.offset_bounds-layers-mark
offset_bounds-layers-mark c =
    let k = c.loop-k.k - 1 in
    let small = falls_within c.args.links.now c.args.marks c.args.layers.now c.requires.within c.requires.layered k c.loop-k.mark (omega arith) (c.loop-k.invariant.walk.falls k (omega arith)) in
    omega arith

pub bounds-layers-mark : goal.bounds-layers-mark
bounds-layers-mark c =
    let k = c.loop-k.k - 1 in
    let small = falls_within c.args.links.now c.args.marks c.args.layers.now c.requires.within c.requires.layered k c.loop-k.mark (omega arith) (c.loop-k.invariant.walk.falls k (omega arith)) in
    omega arith

pub step_into-requires-clause-range : goal.step_into-requires-clause-range
step_into-requires-clause-range c =
    let k = c.loop-k.k - 1 in
    range_128 k (layer_of c.args.layers.now k) (omega arith)
    (range_at c.args.links.now 128 c.args.marks c.args.layers.now c.requires.within c.requires.layered k (omega arith))

pub step_into-requires-clause-made : goal.step_into-requires-clause-made
step_into-requires-clause-made c =
    let k = c.loop-k.k - 1 in
    let inside : k < c.args.marks = omega arith in
    let falls = c.loop-k.invariant.walk.falls k (omega arith) in
    rw (to_z-of_z w32 (at_mark (layer_of c.args.layers.now (k + 1)) c.loop-k.mark)
    (total_fits_next c.args.links.now c.args.marks c.args.layers.now c.requires.within c.requires.layered k c.loop-k.mark inside falls c.requires.few))
    ((c.requires.layered.lowers k inside).made c.loop-k.mark falls)

pub loop-k-preserved : goal.loop-k-preserved
loop-k-preserved c =
    let k = c.loop-k.k - 1 in
    let l = c.step_into.result in
    let layers = c.args.layers.now in
    let inside : k < c.args.marks = omega arith in
    let next : k + 1 ≡ c.loop-k.k = omega arith in
    let fell = c.loop-k.invariant.walk.falls k next in
    let start = c.index-mark.ensures ∙ ap (λ (m : Link). m.from.0) (get_or-set_same c.loop-k.steps k l _ (omega arith)) in
    let sum = to_z-of_z w32 (at_mark (layer_of layers (k + 1)) c.loop-k.mark)
    (total_fits_next c.args.links.now c.args.marks layers c.requires.within c.requires.layered k c.loop-k.mark inside fell c.requires.few) in
    record {
      walk = rw (walk_push k c.args.marks c.loop-k.steps l inside (omega arith), next)
          (walk_more c.args.links.now c.args.marks layers c.requires.within c.requires.layered k c.loop-k.mark inside fell l
          c.step_into.ensures.0 (c.step_into.ensures.1.0, c.step_into.ensures.1.1 ∙ sum)
          c.args.end c.loop-k.k c.index-mark.result _ (sym next) start c.loop-k.invariant.walk);
      long = length-set c.loop-k.steps k l ∙ c.loop-k.invariant.long;
    }
