-- Rows: what one mark allows to each other.
use Rattle.std.specs.Prelude.{◌≡◌, ℕ, ◌<◌, ◌≤◌, ℤ, ◌-ℤ◌, List, length}
use Rattle.limits.specs.Systems.{at_mark}

-- backward from the mark the totals of the lightest, forward those of the heaviest, above what these are at the mark
pub record DaysFrom (from : ℕ) (lightest heaviest row : List ℤ) : Type 0 where
  pub back : (to : ℕ) → to < from → at_mark row to ≡ at_mark lightest to -ℤ at_mark lightest from
  pub forth : (to : ℕ) → from ≤ to → to < length heaviest → at_mark row to ≡ at_mark heaviest to -ℤ at_mark heaviest from
