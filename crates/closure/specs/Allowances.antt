-- Allowances from each mark to each other, and how they come closer to the closure.
use Rattle.std.specs.Prelude.{◌≡◌, ℕ, ◌<◌, ℤ, ◌+ℤ◌, ◌≤ℤ◌, List, [], slice_index_or}
use Rattle.std.specs.Int.{int_min}
use Rattle.limits.specs.declared.link.Link.{Link}
use Rattle.limits.specs.Links.{Totals, Keeps}
use Rattle.limits.specs.Systems.{Near, at_mark}

abbrev pub Allowances : Type 0
Allowances = ℕ → ℕ → ℤ

-- what one mark allows to each other
abbrev pub row_of : List (List ℤ) → ℕ → List ℤ
row_of cells from = slice_index_or cells from []

-- what it allows to one of them
abbrev pub cell : List (List ℤ) → Allowances
cell cells from to = at_mark (row_of cells from) to

-- between so many marks none is larger than a sum of days
abbrev pub AllNear : ℕ → Allowances → Type 0
AllNear marks allowed = (from to : ℕ) → from < marks → to < marks → Near (allowed from to)

-- between so many marks the totals rise by no more than is allowed
abbrev pub Obeys : ℕ → Allowances → Totals → Type 0
Obeys marks allowed y = (from to : ℕ) → from < marks → to < marks → y to ≤ℤ (y from +ℤ allowed from to)

-- no more is allowed than the link allows
abbrev pub Covered : Allowances → Link → Type 0
Covered allowed l = allowed l.from.0 l.to.0 ≤ℤ l.allowance

-- no allowance rises, the link is covered, and totals that obey the old allowances and keep the link obey the new
pub record Covers (l : Link) (old new : Allowances) : Type 0 where
  pub falls : (from to : ℕ) → new from to ≤ℤ old from to
  pub covers : Covered new l
  pub obeyed : (marks : ℕ) (y : Totals) → Keeps y l → Obeys marks old y → Obeys marks new y

-- each way by the mark is taken where it allows less
abbrev pub Passes : ℕ → ℕ → Allowances → Allowances → Type 0
Passes marks via old new =
    (from to : ℕ) → from < marks → to < marks → new from to ≡ int_min (old from to) (old from via +ℤ old via to)
