-- What a first line says.
use Rattle.std.specs.Prelude.{◌≡◌}
use Rattle.tokens.specs.Lines.{Line, duty, collection, boxes}
use Rattle.sheet.specs.CodeLists.{Lists}
use Rattle.sheet.specs.declared.start.Start.{Start}
use Rattle.sheet.specs.declared.start.Start.TheVariants.{Duty, Collection, Boxes}

abbrev pub Shows : Line → Start → Type 0
Shows (duty days held) (Duty n codes) = (n ≡ days) × Lists codes held
Shows (collection days held counted) (Collection n codes counts) = (n ≡ days) × Lists codes held × Lists counts counted
Shows (boxes days low high) (Boxes n l h) = (n ≡ days) × (l ≡ low) × (h ≡ high)
Shows l s = ⊥
