use Rattle.std.proofs.Common.{◌≡◌, length, take}
use Rattle.chains.specs.Layers.{Lowers}
use Rattle.chains.proofs.layers.lowered.Given as goal

abbrev pub invariant-loop-link : goal.invariant-loop-link
invariant-loop-link l = Lowers (take l.link-index l.links) l.layer l.next × (length l.next ≡ 129)
