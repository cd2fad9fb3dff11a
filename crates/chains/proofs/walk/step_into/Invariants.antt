use Rattle.std.proofs.Common.{ℕ, ◌<◌, get_or}
use Rattle.limits.specs.declared.link.Link.{Link}
use Rattle.chains.specs.Layers.{Makes}
use Rattle.chains.proofs.walk.step_into.Given as goal

abbrev pub invariant-loop-link : goal.invariant-loop-link
invariant-loop-link l = (k : ℕ) → k < l.link-index → (d : Link) → Makes l.layer l.mark l.made (get_or l.links k d) → ⊥
