-- The codes that an iterator over a set has still to give, and what each call of `next` does to them.
use Rattle.std.specs.Prelude.{◌≡◌, ℕ, List, [], ◌∷◌, Option, MatchOption}
use Rattle.codes.specs.declared.iter.Codes.{Codes}
use Rattle.codes.specs.Members.{members}

abbrev pub coming : Codes → List ℕ
coming i = members i.rest

-- a call at i gives the first code to come, and leaves the others to j; where none is to come it gives `None` and leaves i
abbrev pub Gives : Codes → Option ℕ → Codes → Type 0
Gives i r j = MatchOption r ((coming i ≡ []) × (j ≡ i)) (λ code. coming i ≡ code ∷ coming j)
