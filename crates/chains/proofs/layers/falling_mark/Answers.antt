use Rattle.std.proofs.Common.{◌≡◌, ◌+◌, subst, sym, ◌∙◌, arith, length-set}
use Rattle.limits.specs.Systems.{days, marks}
use Rattle.chains.specs.Layers.{layer_of, Lowers, Layered}
use Rattle.chains.proofs.LayerFacts.{range_at, range_128, settled_solves, layered_more, falls_more}
use Rattle.chains.proofs.layers.falling_mark.Goals as goal

pub lowered-next-requires-clause-range : goal.lowered-next-requires-clause-range
lowered-next-requires-clause-range c =
    let s = c.args.system.now in
    range_128 c.loop-k.k _ (omega arith)
    (range_at s.links (days s) c.loop-k.k c.loop-k.layers c.links.ensures.bounds.within c.loop-k.invariant.filled c.loop-k.k (omega arith))

pub returns-in_err-fallen : goal.returns-in_err-fallen
returns-in_err-fallen c =
    let layer = layer_of c.loop-k.layers c.loop-k.k in
    let next = c.lowered-next.result in
    let lowers = subst (λ links. Lowers links layer next) c.links.ensures.links c.lowered-next.ensures in
    rw c.from_residual.ensures (settled_solves c.args.system.now layer next lowers c.in_err-fallen.ensures)

pub loop-k-preserved : goal.loop-k-preserved
loop-k-preserved c =
    let k = c.loop-k.k in
    let next = c.lowered-next.result in
    let lowers = subst (λ links. Lowers links (layer_of c.loop-k.layers k) next) c.links.ensures.links c.lowered-next.ensures in
    record {
      filled = layered_more c.args.system.now.links k c.loop-k.layers next (omega arith) c.loop-k.invariant.filled lowers;
      long = length-set c.loop-k.layers (k + 1) next ∙ c.loop-k.invariant.long;
      fell = λ n e.
          let same : n ≡ k = omega arith in
          rw same (falls_more c.args.system.now.links k c.loop-k.layers next (omega arith) c.in_ok-fallen.fallen c.in_ok-fallen.ensures);
    }

pub returns : goal.returns
returns c =
    let s = c.args.system.now in
    let k : c.loop-k.k ≡ marks s = omega arith in (
      subst (λ n. Layered s.links n c.loop-k.layers) k c.loop-k.invariant.filled,
      c.loop-k.invariant.fell (days s) (sym k),
    )
