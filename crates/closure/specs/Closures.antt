-- The closure of a system, and what it tells of the solutions.
use Rattle.std.specs.Prelude.{◌≡◌, ℕ, ◌<◌, ℤ, pos, ◌+ℤ◌, ◌-ℤ◌, ◌≤ℤ◌, List, All, length}
use Rattle.limits.specs.Links.{Totals, Solves}
use Rattle.limits.specs.Systems.{System, marks, at_mark}
use Rattle.closure.specs.Allowances.{Allowances, Covered, Obeys}

-- every link is covered, no less is allowed than the links together imply, no way by another mark allows less, and a mark is
-- allowed no rise to itself
pub record Closes (s : System) (allowed : Allowances) : Type 0 where
  pub covers : All (Covered allowed) s.links
  pub implied : (y : Totals) → Solves s.links y → Obeys (marks s) allowed y
  pub triangle : (from via to : ℕ) → from < marks s → via < marks s → to < marks s →
      allowed from to ≤ℤ (allowed from via +ℤ allowed via to)
  pub diagonal : (mark : ℕ) → mark < marks s → allowed mark mark ≡ pos 0

-- a solution that starts at 0
abbrev pub Starts : System → Totals → Type 0
Starts s y = Solves s.links y × (y 0 ≡ pos 0)

-- of such solutions the one whose total is smallest at every mark
pub record Smallest (s : System) (totals : List ℤ) : Type 0 where
  pub long : length totals ≡ marks s
  pub solves : Starts s (at_mark totals)
  pub smallest : (y : Totals) → Starts s y → (mark : ℕ) → mark < marks s → at_mark totals mark ≤ℤ y mark

-- of such solutions the one whose total is largest at every mark
pub record Largest (s : System) (totals : List ℤ) : Type 0 where
  pub long : length totals ≡ marks s
  pub solves : Starts s (at_mark totals)
  pub largest : (y : Totals) → Starts s y → (mark : ℕ) → mark < marks s → y mark ≤ℤ at_mark totals mark

-- in every such solution the total rises from the one mark to the other by a number from least to most, by each of these in some
pub record Reaches (s : System) (from to : ℕ) (least most : ℤ) : Type 0 where
  pub within : (y : Totals) → Starts s y → (least ≤ℤ (y to -ℤ y from)) × ((y to -ℤ y from) ≤ℤ most)
  pub reached : (rise : ℤ) → least ≤ℤ rise → rise ≤ℤ most → (y : Totals) × Starts s y × (y to -ℤ y from ≡ rise)
