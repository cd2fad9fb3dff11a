use Rattle.std.proofs.Common.{◌≡◌, ℕ, ◌+◌, length}
use Rattle.chains.specs.Layers.{Layered, FallsFrom}
use Rattle.chains.proofs.layers.falling_mark.Given as goal

abbrev pub invariant-loop-k : goal.invariant-loop-k
invariant-loop-k l = record {
  filled : Layered l.system.links l.k l.layers;
  long : length l.layers ≡ 130;
  fell : (n : ℕ) → n + 1 ≡ l.k → FallsFrom l.layers n l.fallen;
}
