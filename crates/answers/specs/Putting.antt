-- What putting bytes into a list makes of it. Only this crate's own code cites it.
use Rattle.std.specs.Prelude.{◌≡◌, ℕ, ◌+◌, ◌-◌, ◌^◌, ◌≤◌, min, List, ◌++◌, take, drop, length}

-- The bytes were put into the list `before` from `at` on, and end at `end`. Where they fit they stand there, with all else as it
-- was; where they do not, nothing is said of the list but its length. (The end stops at the last number of 64 bits.)
pub record Puts (before : List ℕ) (at : ℕ) (bytes : List ℕ) (after : List ℕ) (end : ℕ) : Type 0 where
  pub ends : end ≡ min (at + length bytes) (2 ^ 64 - 1)
  pub long : length after ≡ length before
  pub fits : at + length bytes ≤ length before → after ≡ take at before ++ (bytes ++ drop (at + length bytes) before)
