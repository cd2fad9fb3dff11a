-- Entries whose codes weigh 0 or 1.
use Rattle.std.specs.Prelude.{◌≡◌, ℕ, ◌≤◌, Bool, true}
use Rattle.std.proofs.Common.{arith}
use Rattle.entry.specs.Cells.{Meaning, weigh, held, cells, Sized}
use Rattle.entry.specs.Weights.{Lightest, Heaviest}
use Rattle.entry.proofs.CellFacts.{length-cells, weigh_below}

-- no number weighs more than 1
pub light : (weighs : ℕ → ℕ) (holds : ℕ → Bool) → ((c : ℕ) → weighs c ≤ 1) → (c : ℕ) → weigh (cells weighs holds) c ≤ 1
light weighs holds low = weigh_below weighs holds 1 (λ c h. low c)

-- 64 cells, and no weight above 63
pub light_sized : (weighs : ℕ → ℕ) (holds : ℕ → Bool) → ((c : ℕ) → weighs c ≤ 1) → Sized (cells weighs holds)
light_sized weighs holds low = (length-cells weighs holds, λ c. omega (arith, light weighs holds low c))

-- where all held codes weigh the same, the heaviest is the lightest
pub level : (m : Meaning) (n w : ℕ) → ((c : ℕ) → held m c ≡ true → weigh m c ≡ n) → Heaviest m w → Lightest m w
level m n w same h = record {
  none = h.none;
  some = h.some;
  every = λ c t. let at = h.some c t in omega (arith, at.2, same at.0 at.1, same c t);
}
