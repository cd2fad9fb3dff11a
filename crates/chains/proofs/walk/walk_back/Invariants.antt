use Rattle.std.proofs.Common.{◌≡◌, length, drop, take}
use Rattle.chains.proofs.WalkFacts.{Walk}
use Rattle.chains.proofs.walk.walk_back.Given as goal

abbrev pub invariant-loop-k : goal.invariant-loop-k
invariant-loop-k l = record {
  walk : Walk l.links l.layers l.end l.k l.mark (drop l.k (take l.marks l.steps));
  long : length l.steps ≡ 129;
}
