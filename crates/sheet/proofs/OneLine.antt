-- Lines that are written alike are one line, and a text has only one at each place.
use Rattle.std.proofs.Common.{◌≡◌, ℕ, List, get_or, fold, sym, ap, subst, ◌∙◌, refl}
use Rattle.std.proofs.Math.Logic.{∥∥₁_elim}
use Rattle.std.proofs.Props.{props}
use Rattle.std.proofs.lemmas.Grind.{not_there}
use Rattle.ledger.specs.declared.call.Call.TheVariants.{Rule, Slide, Withdraw, Strike, Grant, Settle}
use Rattle.tokens.specs.Lines.{Line, duty, collection, boxes, call, numbers, written, Small}
use Rattle.tokens.specs.Sheets.{LineAt}
use Rattle.tokens.specs.declared.tokens.Tokens.{Tokens}
use Rattle.tokens.proofs.Unique.{one_next, one_writing, line_no_fault}
use Rattle.sheet.specs.Drafts.{Gathered, Holds, fresh, gathered}
use Rattle.sheet.specs.Faults.{IsFault}
use Rattle.sheet.specs.Reading.{ReadLine}
use Rattle.sheet.specs.declared.draft.Draft.{Draft}
use Rattle.sheet.specs.declared.draft.Name.{Name}
use Rattle.sheet.specs.declared.draft.Name.TheVariants as name
use Rattle.sheet.specs.declared.fault.LineFault.{LineFault}
use Rattle.sheet.proofs.Items.{items, written_items}
use Rattle.sheet.proofs.Gathering.{gather, gathers}

-- the line of a name, with the single numbers n 0, n 1 and so on, and the lists
abbrev line_named : Name → (ℕ → ℕ) → List ℕ → List ℕ → Line
line_named name.Duty n held counts = duty (n 0) held
line_named name.Collection n held counts = collection (n 0) held counts
line_named name.Boxes n held counts = boxes (n 0) (n 1) (n 2)
line_named name.Rule n held counts = call (Rule (n 0) (n 1) (n 2) (n 3))
line_named name.Slide n held counts = call (Slide (n 0) (n 1) (n 2))
line_named name.Withdraw n held counts = call (Withdraw (n 0))
line_named name.Strike n held counts = call (Strike (n 0) (n 1))
line_named name.Grant n held counts = call (Grant (n 0) (n 1))
line_named name.Settle n held counts = call Settle

abbrev line_of : Gathered → Line
line_of g = line_named g.name (λ i. get_or g.single i 0) g.codes g.counts

-- each line is found again from what it amounts to, and so from its bytes
found_again : (l : Line) → line_of (gathered l) ≡ l
found_again (duty days held) = refl
found_again (collection days held counts) = refl
found_again (boxes days low high) = refl
found_again (call (Rule first last least most)) = refl
found_again (call (Slide width least most)) = refl
found_again (call (Withdraw number)) = refl
found_again (call (Strike day code)) = refl
found_again (call (Grant day code)) = refl
found_again (call Settle) = refl

abbrev line_from : List (List ℕ) → Line
line_from is = line_of (fold gather fresh is)

from_bytes : (l : Line) → Small (numbers l) → line_from (items (written l)) ≡ l
from_bytes l small = ap line_from (written_items l small) ∙ ap line_of (gathers l small) ∙ found_again l

pub one_line : (l k : Line) → Small (numbers l) → Small (numbers k) → written l ≡ written k → l ≡ k
one_line l k small few same = sym (from_bytes l small) ∙ ap (λ bs. line_from (items bs)) same ∙ from_bytes k few

-- so whatever line there is where one is read is what was read, and none is where a fault is told
pub only_line : (s t : Tokens) (d : Draft) → ReadLine s t d → (l : Line) (n : ℕ) → LineAt s.reader.text.now s.start l n
    → Holds d (gathered l) × (n ≡ t.start)
only_line s t d read l n line =
    ∥∥₁_elim read.line (hlevel props) (λ (k, here, holds).
    let text = s.reader.text.now in (
      subst (λ k. Holds d (gathered k)) (one_line k l here.says.small line.says.small (one_writing text s.start k l t.start n here line)) holds,
      one_next text s.start l k n t.start line here,
    ))

pub no_line : (text : List ℕ) (start : ℕ) (f : LineFault) → IsFault text start f → (l : Line) (n : ℕ) → LineAt text start l n → ⊥
no_line text start f fault l n line = not_there fault.told (λ (at, here, is). line_no_fault text start l n at line here)
