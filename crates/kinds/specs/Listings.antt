-- Codes given as a list of numbers: which are among them, and the refusal where one is unknown.
use Rattle.std.specs.Prelude.{◌≡◌, ℕ, Bool, true, not, ◌&&◌, List, [], ◌∷◌, Result}
use Rattle.codes.specs.declared.set.CodeSet.{CodeSet}
use Rattle.codes.specs.Members.{member, lists}
use Rattle.entry.specs.declared.refusal.Refusal.{Refusal}
use Rattle.entry.specs.Refusals.{Rows, row, topmost, told, answered}

abbrev pub all_known : (ℕ → Bool) → List ℕ → Bool
all_known known [] = true
all_known known (n ∷ ns) = known n && all_known known ns

abbrev pub listing_rows : (ℕ → Bool) → List ℕ → Rows
listing_rows known ns = (not (all_known known ns), row 9) ∷ []

-- r is the set of the listed numbers, or the refusal
abbrev pub Listed : (ℕ → Bool) → List ℕ → Result CodeSet Refusal → Type 0
Listed known ns r = told member r ≡ answered (topmost (listing_rows known ns)) (lists ns)
