-- Walks: chains of links through the layers, one link from each layer to the next.
use Rattle.std.specs.Prelude.{◌≡◌, ℕ, ◌+◌, ◌<◌, ℤ, List, [], ◌∷◌, ◌++◌, Contains, length}
use Rattle.limits.specs.declared.link.Link.{Link}
use Rattle.chains.specs.Chains.{Leads}
use Rattle.limits.specs.Systems.{at_mark}
use Rattle.chains.specs.Layers.{layer_of, Makes, FallsFrom}

-- the link is one of those, and made the mark at its end fall from the k-th layer to the next
pub record Fells (links : List Link) (layers : List (List ℤ)) (k : ℕ) (l : Link) : Type 0 where
  pub known : Contains links l
  pub made : Makes (layer_of layers k) l.to.0 (at_mark (layer_of layers (k + 1)) l.to.0) l
  pub falls : FallsFrom layers k l.to.0

-- each link of the chain made its mark fall, the first from the k-th layer to the next
abbrev pub Descends : List Link → List (List ℤ) → ℕ → List Link → Type 0
Descends links layers k [] = Unit {0}
Descends links layers k (l ∷ chain) = Fells links layers k l × Descends links layers (k + 1) chain

-- a part of the chain that leads from a mark back to it
pub record ClosedPart (chain part : List Link) : Type 0 where
  pub before : List Link
  pub after : List Link
  pub whole : before ++ (part ++ after) ≡ chain
  pub some : 0 < length part
  pub mark : ℕ
  pub closed : Leads mark part mark
