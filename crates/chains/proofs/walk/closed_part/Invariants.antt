use Rattle.std.proofs.Common.{◌≡◌, ℕ, ◌+◌, ◌<◌, get_or}
use Rattle.limits.specs.declared.link.Link.{Link}
use Rattle.chains.proofs.walk.closed_part.Given as goal

abbrev pub invariant-loop-end : goal.invariant-loop-end
invariant-loop-end l =
    (j : ℕ) → j < l.end → (i : ℕ) → i < j + 1 → (d : Link) → (get_or l.steps i d).from.0 ≡ (get_or l.steps j d).to.0 → ⊥

abbrev pub invariant-loop-start : goal.invariant-loop-start
invariant-loop-start l = (i : ℕ) → i < l.start → (d : Link) → (get_or l.steps i d).from.0 ≡ (get_or l.steps l.end d).to.0 → ⊥
