-- What a boxes entry means: it holds the codes from low to high, and a code weighs its own number.
use Rattle.std.specs.Prelude.{ℕ, Bool, ◌&&◌, ◌||◌, [], ◌∷◌, Result, nat_le, nat_lt}
use Rattle.entry.specs.Refusals.{Row, row, topmost, answered}
use Rattle.entry.specs.Cells.{Meaning, cells}
use Rattle.kinds.specs.declared.boxes.Boxes.{Boxes}

-- c lies from low to high
abbrev pub spans : ℕ → ℕ → ℕ → Bool
spans low high c = nat_le low c && nat_le c high

abbrev pub spanned : ℕ → ℕ → Meaning
spanned low high = cells (λ c. c) (spans low high)

abbrev pub boxed : Boxes → Meaning
boxed b = spanned b.low b.high

-- what is built from two ends, or the refusal where either is above 63
abbrev pub boxes_of : ℕ → ℕ → Result Meaning Row
boxes_of low high = answered (topmost ((nat_lt 63 low || nat_lt 63 high, row 9) ∷ [])) (spanned low high)
