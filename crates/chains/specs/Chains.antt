-- Chains of links that rule out every solution.
use Rattle.std.specs.Prelude.{◌≡◌, ℕ, ◌≤◌, ℤ, pos, ◌+ℤ◌, ◌<ℤ◌, List, [], ◌∷◌, All, Contains, length}
use Rattle.limits.specs.declared.link.Link.{Link}
use Rattle.limits.specs.Systems.{System, marks}

-- the chain leads from the one mark to the other: each link starts where the one before ended
abbrev pub Leads : ℕ → List Link → ℕ → Type 0
Leads from [] to = from ≡ to
Leads from (l ∷ chain) to = (l.from.0 ≡ from) × Leads l.to.0 chain to

-- what the links of a chain allow together
abbrev pub sum : List Link → ℤ
sum [] = pos 0
sum (l ∷ chain) = l.allowance +ℤ sum chain

-- a closed chain of known links, at most so many of them, with a sum below zero
pub record Sound (Known : Link → Type 0) (most : ℕ) (chain : List Link) : Type 0 where
  pub known : All Known chain
  pub mark : ℕ
  pub closed : Leads mark chain mark
  pub few : length chain ≤ most
  pub negative : sum chain <ℤ pos 0

-- of the system's links, and no more of them than there are marks
abbrev pub Blocks : System → List Link → Type 0
Blocks s = Sound (Contains s.links) (marks s)
