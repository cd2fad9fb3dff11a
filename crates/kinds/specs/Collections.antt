-- What a collection entry means: all 64 codes are known, those that count weigh 1, and the others weigh nothing.
use Rattle.std.specs.Prelude.{ℕ, Bool, if◌then◌else◌, List, ◌++◌, Result}
use Rattle.codes.specs.Members.{member, lists}
use Rattle.entry.specs.Refusals.{Row, topmost, answered}
use Rattle.entry.specs.Cells.{Meaning, cells}
use Rattle.kinds.specs.Codes.{any_code}
use Rattle.kinds.specs.Listings.{listing_rows}
use Rattle.kinds.specs.declared.collection.Collection.{Collection}

-- a counted code weighs 1, and any other nothing
abbrev pub weight_in : (ℕ → Bool) → ℕ → ℕ
weight_in counted c = if counted c then 1 else 0

-- the cells with these codes counted and these held
abbrev pub counting : (ℕ → Bool) → (ℕ → Bool) → Meaning
counting counted = cells (weight_in counted)

abbrev pub collected : Collection → Meaning
collected x = counting (member x.counted) (member x.held)

-- what is built from a list of codes and one of counted codes, or the refusal of a number that is no code
abbrev pub collection_of : List ℕ → List ℕ → Result Meaning Row
collection_of ns ks =
    answered (topmost (listing_rows any_code ns ++ listing_rows any_code ks)) (counting (lists ks) (lists ns))
