-- What the program writes of its input.
use Rattle.std.specs.Prelude.{ℕ, List, Option, take}
use Rattle.std.specs.Io.KnownBytes.{Appends}
use Rattle.carry.specs.Carrying.{Carries}
use Rattle.carry.specs.Ends.{End}

-- the sheet: of the input no more bytes than one more than a sheet may have
abbrev pub sheet_of : List ℕ → List ℕ
sheet_of input = take 16385 input

-- What a writer holds grows by what carry writes of the sheet into a list of 65,536 bytes.
abbrev pub WritesAnswers : Option (List ℕ) → Option (List ℕ) → List ℕ → Type 0
WritesAnswers old new input =
    ∥ ((answers : List ℕ) × (e : End) × Carries (sheet_of input) 65536 answers e × Appends old new answers) ∥₁
