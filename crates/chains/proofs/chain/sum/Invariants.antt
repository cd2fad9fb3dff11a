use Rattle.std.proofs.Common.{◌≡◌, ◌*◌, take, pos, ◌≤ℤ◌}
use Rattle.std.specs.Prelude.{neg_ℤ}
use Rattle.chains.specs.Chains.{sum}
use Rattle.chains.proofs.chain.sum.Given as goal

-- what the links so far allow together
abbrev pub invariant-loop-link : goal.invariant-loop-link
invariant-loop-link l =
    (l.total ≡ sum (take l.link-index l.link-items)) × ((neg_ℤ (pos (l.link-index * 32768)) ≤ℤ l.total) × (l.total ≤ℤ pos (l.link-index * 32768)))
