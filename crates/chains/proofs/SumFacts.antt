-- What a chain allows, link by link.
use Rattle.std.proofs.Common.{◌≡◌, ℕ, ◌+◌, ◌<◌, List, [], ◌∷◌, ◌++◌, length, take, slice_index_or, ap, ◌∙◌, arith}
use Rattle.std.specs.Prelude.{◌+ℤ◌}
use Rattle.std.proofs.lemmas.Int.{ints}
use Rattle.std.proofs.lemmas.List.{take_more}
use Rattle.limits.specs.declared.link.Link.{Link}
use Rattle.chains.specs.Chains.{sum}

sum_push : (chain : List Link) (l : Link) → sum (chain ++ l ∷ []) ≡ sum chain +ℤ l.allowance
sum_push [] l = omega (arith, ints)
sum_push (k ∷ chain) l = let rest = sum_push chain l in omega (arith, ints)

pub sum_more : (chain : List Link) (i : ℕ) (d : Link) → i < length chain
    → sum (take (i + 1) chain) ≡ sum (take i chain) +ℤ (slice_index_or chain i d).allowance
sum_more chain i d within = ap sum (take_more chain i d within) ∙ sum_push (take i chain) (slice_index_or chain i d)
