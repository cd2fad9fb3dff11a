-- The one number that carry answers to C.
use Rattle.std.specs.Prelude.{◌≡◌, ℕ, ◌≤◌, ◌/◌, ◌%◌, ◌^◌, List, ◌++◌, length, take, drop}
use Rattle.carry.specs.Carrying.{Carries}
use Rattle.carry.specs.Ends.{End, number}

-- refusal × 2^32 + count
abbrev pub refusal_in : ℕ → ℕ
refusal_in n = n / 2 ^ 32

abbrev pub count_in : ℕ → ℕ
count_in n = n % 2 ^ 32

-- The number n tells how carry ended and how much it wrote into the list `before`, which is `after` then. There is no other
-- way to end and nothing else to write.
pub record Tells (sheet before : List ℕ) (n : ℕ) (after : List ℕ) : Type 0 where
  pub answers : ∥ ((e : End) × (number e ≡ refusal_in n) × Carries sheet (length before) (take (count_in n) after) e) ∥₁
  pub only : (bytes : List ℕ) (e : End) → Carries sheet (length before) bytes e
      → (bytes ≡ take (count_in n) after) × (number e ≡ refusal_in n)
  pub within : count_in n ≤ length before
  pub beyond : after ≡ take (count_in n) after ++ drop (count_in n) before
