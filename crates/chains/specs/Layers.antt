-- Layers: for each mark the least total that a chain of so many links at the most makes of the first layer's.
use Rattle.std.specs.Prelude.{◌≡◌, ℕ, ◌+◌, ◌*◌, ◌<◌, ℤ, pos, neg_ℤ, ◌+ℤ◌, ◌≤ℤ◌, ◌<ℤ◌, List, [], All, Contains, slice_index_or}
use Rattle.limits.specs.declared.link.Link.{Link}
use Rattle.limits.specs.Systems.{at_mark}

abbrev pub layer_of : List (List ℤ) → ℕ → List ℤ
layer_of layers k = slice_index_or layers k []

-- the link leads to the mark, and its allowance on top of the total where it starts makes the total there
abbrev pub Makes : List ℤ → ℕ → ℤ → Link → Type 0
Makes layer mark made l = (l.to.0 ≡ mark) × (at_mark layer l.from.0 +ℤ l.allowance ≡ made)

-- the layer after another: none rises, no link would lower a mark further, and a link made each mark that fell fall
pub record Lowers (links : List Link) (layer next : List ℤ) : Type 0 where
  pub falls : (mark : ℕ) → at_mark next mark ≤ℤ at_mark layer mark
  pub below : All (λ l. at_mark next l.to.0 ≤ℤ (at_mark layer l.from.0 +ℤ l.allowance)) links
  pub made : (mark : ℕ) → at_mark next mark <ℤ at_mark layer mark → (l : Link) × Contains links l × Makes layer mark (at_mark next mark) l

-- no total is above 8,064 nor below -8,064 * k: layers only fall, by 8,064 at most
abbrev pub InRange : ℕ → List ℤ → Type 0
InRange k layer = (mark : ℕ) → (neg_ℤ (pos (8064 * k)) ≤ℤ at_mark layer mark) × (at_mark layer mark ≤ℤ pos 8064)

-- the first layer is of totals of days, and each of the next k is the one after the one before
pub record Layered (links : List Link) (k : ℕ) (layers : List (List ℤ)) : Type 0 where
  pub starts : InRange 0 (layer_of layers 0)
  pub lowers : (i : ℕ) → i < k → Lowers links (layer_of layers i) (layer_of layers (i + 1))

-- the mark falls from the k-th layer to the next
abbrev pub FallsFrom : List (List ℤ) → ℕ → ℕ → Type 0
FallsFrom layers k mark = at_mark (layer_of layers (k + 1)) mark <ℤ at_mark (layer_of layers k) mark
