-- What a sheet answers, from the draft of a line.
use Rattle.std.proofs.Common.{arith, ◌≡◌, ℕ, ◌≤◌, ◌<◌, List, refl, sym, ap, subst, ◌∙◌, ⊎_elim}
use Rattle.std.specs.Prelude.{Option, Result, Ok, Err, IsErrAnd, length}
use Rattle.std.proofs.Math.Logic.{∥∥₁_map}
use Rattle.std.proofs.lemmas.Bool.{cases_lt}
use Rattle.std.proofs.lemmas.Grind.{not_there}
use Rattle.ledger.specs.declared.call.Call.{Call}
use Rattle.tokens.specs.Lines.{Line, duty, collection, boxes, call, Stands}
use Rattle.tokens.specs.Sheets.{LineAt}
use Rattle.tokens.specs.declared.tokens.Tokens.{Tokens}
use Rattle.tokens.proofs.Moves.{past_le}
use Rattle.tokens.proofs.Unique.{some_byte}
use Rattle.sheet.specs.Drafts.{Holds, gathered}
use Rattle.sheet.specs.Faults.{IsFault}
use Rattle.sheet.specs.Reading.{ReadLine}
use Rattle.sheet.specs.Sheets.{text_of, place_of, Opens, IsStart, GoesOn, IsCall}
use Rattle.sheet.specs.Starts.{Shows}
use Rattle.sheet.specs.declared.draft.Draft.{Draft}
use Rattle.sheet.specs.declared.fault.LineFault.{LineFault}
use Rattle.sheet.specs.declared.sheet.Sheet.{Sheet}
use Rattle.sheet.specs.declared.start.Start.{Start}
use Rattle.sheet.proofs.OneLine.{only_line, no_line}

-- no line ends where the text begins
some_line : (text : List ℕ) (start : ℕ) (l : Line) (next : ℕ) → LineAt text start l next → 0 < next
some_line text start l next line = omega (arith, some_byte text start l next line, past_le text line.stop, line.on)

pub between : (s t : Tokens) (d : Draft) → ReadLine s t d → (t.start ≡ t.reader.at) × (0 < t.start)
between s t d read = (
  read.start,
  ⊎_elim
      (λ (some : 0 < t.start). some)
      (λ (none : t.start ≤ 0). absurd (not_there read.line (λ (l, line, holds). let some = some_line s.reader.text.now s.start l t.start line in omega (arith, some, none))))
      (cases_lt 0 t.start),
)

-- the first line: what is answered is there, and whatever line is there is answered
only_start : (text : List ℕ) (s t : Tokens) (d : Draft) (start : Start) → s.reader.text.now ≡ text → s.start ≡ 0 → ReadLine s t d
    → ((l : Line) → Holds d (gathered l) → Stands 0 l → Shows l start)
    → (l : Line) (n : ℕ) → LineAt text 0 l n → Shows l start × (n ≡ t.start)
only_start text s t d start same begins read shows l n line =
    let here = subst (λ k. LineAt s.reader.text.now k l n) (sym begins) (subst (λ xs. LineAt xs 0 l n) (sym same) line) in
    let (holds, next) = only_line s t d read l n here in
    (shows l holds line.says.stands, next)

pub opened : (text : List ℕ) (s t : Tokens) (d : Draft) (start : Start) → s.reader.text.now ≡ text → s.start ≡ 0 → ReadLine s t d
    → ((l : Line) → Holds d (gathered l) → Stands 0 l → Shows l start)
    → ((t.reader.text.now ≡ text) × ∥ ((l : Line) × LineAt text 0 l t.start × Shows l start) ∥₁)
    × ((l : Line) (n : ℕ) → LineAt text 0 l n → Shows l start × (n ≡ t.start))
opened text s t d start same begins read shows =
    let line = subst (λ xs. ∥ ((l : Line) × LineAt xs 0 l t.start × Holds d (gathered l)) ∥₁) same (subst (λ n. ∥ ((l : Line) × LineAt s.reader.text.now n l t.start × Holds d (gathered l)) ∥₁) begins read.line) in
    let shown = ∥∥₁_map line (λ (l, line, holds). (l, line, shows l holds line.says.stands)) in
    ((ap (λ r. r.now) read.text ∙ same, shown), only_start text s t d start same begins read shows)

pub no_first : (text : List ℕ) (s : Tokens) (o : Result (Start × Sheet) LineFault) (e : LineFault) → s.reader.text.now ≡ text
    → s.start ≡ 0 → IsErrAnd o (λ f. f ≡ e) → IsFault s.reader.text.now s.start e
    → Opens text o × ((l : Line) (n : ℕ) → LineAt text 0 l n → IsStart l n o)
no_first text s (Ok x) e same begins told fault = absurd told
no_first text s (Err f) e same begins told fault =
    let here = subst (IsFault text 0) (sym told) (subst (λ n. IsFault text n e) begins (subst (λ xs. IsFault xs s.start e) same fault)) in
    (here, no_line text 0 f here)

-- a later line
is_call : (start : ℕ) (d : Draft) (c : Call) → 0 < start → ((c' : Call) → Holds d (gathered (call c')) → c ≡ c') → (l : Line)
    → Stands start l → Holds d (gathered l) → l ≡ call c
is_call start d c later told (duty days held) stands holds = absurd (omega (arith, later, stands))
is_call start d c later told (collection days held counts) stands holds = absurd (omega (arith, later, stands))
is_call start d c later told (boxes days low high) stands holds = absurd (omega (arith, later, stands))
is_call start d c later told (call c') stands holds = ap call (sym (told c' holds))

only_call : (s : Sheet) (t : Tokens) (d : Draft) (c : Call) → ReadLine s.tokens t d
    → ((c' : Call) → Holds d (gathered (call c')) → c ≡ c')
    → (l : Line) (n : ℕ) → LineAt (text_of s) (place_of s) l n → (l ≡ call c) × (n ≡ t.start)
only_call s t d c read told l n line =
    let (holds, next) = only_line s.tokens t d read l n line in
    (is_call (place_of s) d c s.between.1 told l line.says.stands holds, next)

pub called : (s : Sheet) (t : Tokens) (d : Draft) (c : Call) → ReadLine s.tokens t d
    → ((c' : Call) → Holds d (gathered (call c')) → c ≡ c')
    → ((t.reader.text.now ≡ text_of s) × ∥ LineAt (text_of s) (place_of s) (call c) t.start ∥₁)
    × ((l : Line) (n : ℕ) → LineAt (text_of s) (place_of s) l n → (l ≡ call c) × (n ≡ t.start))
called s t d c read told =
    let only = only_call s t d c read told in
    let line = ∥∥₁_map read.line (λ (l, here, holds). subst (λ k. LineAt (text_of s) (place_of s) k t.start) (only l t.start here).0 here) in
    ((ap (λ r. r.now) read.text, line), only)

pub no_call : (s : Sheet) (o : Result (Option Call) LineFault) (e : LineFault) → IsErrAnd o (λ f. f ≡ e)
    → (s.tokens.reader.at ≡ length (text_of s) → ⊥) → IsFault (text_of s) (place_of s) e
    → GoesOn s o s × ((l : Line) (n : ℕ) → LineAt (text_of s) (place_of s) l n → IsCall l n o s)
no_call s (Ok x) e told more fault = absurd told
no_call s (Err f) e told more fault =
    let here = subst (IsFault (text_of s) (place_of s)) (sym told) fault in
    (((λ over. more (sym s.between.0 ∙ over)), here, refl), no_line (text_of s) (place_of s) f here)
