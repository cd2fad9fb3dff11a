use Rattle.std.proofs.Common.{◌≡◌, ℕ, nat_eq}
use Rattle.std.specs.Set.{is_member}
use Rattle.codes.specs.Members.{member}
use Rattle.codes.proofs.tests.rebuilt.Given as goal

-- the set has the codes that have come
abbrev pub invariant-loop-code : goal.invariant-loop-code
invariant-loop-code l = (c : ℕ) → member l.all c ≡ is_member nat_eq l.yielded c
