-- The meaning of an entry: one list of 64 cells, for each code its weight and whether the entry holds it.
use Rattle.std.specs.Prelude.{◌≡◌, ℕ, ◌<◌, ◌≤◌, Bool, true, false, List, map, length, slice_index_or}
use Rattle.std.specs.List.{range_with_len}

pub record Cell : Type 0 where
  pub weight : ℕ
  pub held : Bool

abbrev pub Meaning : Type 0
Meaning = List Cell

-- what is said of a number that is no code
abbrev pub vacant : Cell
vacant = record { weight = 0; held = false }

abbrev pub weigh : Meaning → ℕ → ℕ
weigh m c = (slice_index_or m c vacant).weight

abbrev pub held : Meaning → ℕ → Bool
held m c = (slice_index_or m c vacant).held

-- the 64 cells with these weights, of which these are held
unfoldable pub cells : (ℕ → ℕ) → (ℕ → Bool) → Meaning
cells weighs holds = map (λ c. record { weight = weighs c; held = holds c }) (range_with_len 0 64)

-- a code is held
abbrev pub Holds : Meaning → Type 0
Holds m = (code : ℕ) × (held m code ≡ true)

-- between the weights of two held codes, each weight is some held code's
abbrev pub NoGap : Meaning → Type 0
NoGap m =
    (a b w : ℕ) → held m a ≡ true → held m b ≡ true → weigh m a < w → w < weigh m b
    → (c : ℕ) × (held m c ≡ true) × (weigh m c ≡ w)

-- 64 cells, and no weight above 63: so is the meaning of every entry
abbrev pub Sized : Meaning → Type 0
Sized m = (length m ≡ 64) × ((c : ℕ) → weigh m c ≤ 63)
