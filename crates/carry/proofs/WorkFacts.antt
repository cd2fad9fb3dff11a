-- Working one line after another: what is answered so far, and what is still to come.
use Rattle.std.proofs.Common.{◌≡◌, ◌≢◌, ℕ, ◌+◌, ◌-◌, ◌≤◌, ◌<◌, List, [], ◌∷◌, ◌++◌, length, refl, sym, ap, subst, ◌∙◌, inl, inr, append_assoc, arith}
use Rattle.std.specs.Prelude.{Ok, Err, Some, None}
use Rattle.std.proofs.Math.Logic.{∥∥₁_elim, ∥∥₁_map}
use Rattle.std.proofs.Props.{props}
use Rattle.std.proofs.lemmas.Bool.Decides.{nat_tests}
use Rattle.std.proofs.lemmas.List.{append-nil}
use Rattle.reader.specs.Places.{longest}
use Rattle.ledger.specs.declared.call.Call.{Call}
use Rattle.ledger.specs.Ledgers.{Ledger, after}
use Rattle.tokens.specs.Lines.{Line, call}
use Rattle.tokens.specs.Sheets.{LineAt}
use Rattle.tokens.proofs.Unique.{some_byte, ends_within}
use Rattle.answers.specs.Answers.{written}
use Rattle.carry.specs.declared.fault.CarryFault.{CarryFault}
use Rattle.carry.specs.declared.fault.CarryFault.TheVariants.{Line as AtFault, Refused, Full}
use Rattle.carry.specs.declared.list.AnswerList.{AnswerList}
use Rattle.carry.specs.Carrying.{Works, Stops}
use Rattle.carry.specs.Ends.{End}
use Rattle.carry.specs.AnswerLists.{Extends, AnswersCall, WorksCalls, room}
use Rattle.sheet.specs.Faults.{IsFault}
use Rattle.sheet.specs.Sheets.{GoesOn, text_of, place_of}
use Rattle.sheet.specs.declared.fault.LineFault.{LineFault}
use Rattle.sheet.specs.declared.sheet.Sheet.{Sheet}
use Rattle.carry.proofs.ListFacts.{extends_nothing, extends_then, room_left, writes}

-- some calls of the lines from `at` on
abbrev pub Working : List ℕ → ℕ → Ledger → ℕ → List ℕ → End → Type 0
Working text at l room bs e = (calls : List Call) × Works text at l calls room bs e

module _ (text : List ℕ) (at : ℕ) (l : Ledger) (start : AnswerList) where
  -- The lines before the place `now` are answered with bs, by which the list s is longer than `start`, and m is the ledger
  -- after them: what is answered from there on is answered behind them.
  pub record SoFar (now : ℕ) (m : Ledger) (s : AnswerList) (bs : List ℕ) : Type 0 where
    pub list : Extends start bs s
    pub rest : (more : List ℕ) (e : End) → Working text now m (room s) more e → ∥ Working text at l (room start) (bs ++ more) e ∥₁

  abbrev pub Behind : ℕ → Ledger → AnswerList → Type 0
  Behind now m s = ∥ ((bs : List ℕ) × SoFar now m s bs) ∥₁

  pub begins : Behind at l start
  begins = ∣ ([], record { list = extends_nothing start; rest = λ more e works. ∣ works ∣₁ }) ∣₁

  -- one more call is answered
  pub goes_on : (now next : ℕ) (m : Ledger) (c : Call) (s t : AnswerList) → ∥ LineAt text now (call c) next ∥₁
      → AnswersCall m c s (Ok tt) t → Behind now m s → Behind next (after m c) t
  goes_on now next m c s t line (a, is, more) behind =
      ∥∥₁_elim line (hlevel) (λ here. ∥∥₁_map behind (λ (bs, so). (
        bs ++ written a,
        record {
          list = extends_then start s bs so.list t (written a) more;
          rest = λ further e (calls, works).
              let on = subst (λ left. Works text next (after m c) calls left further e) (room_left s t (written a) more) works in
              subst (λ all. ∥ Working text at l (room start) all e ∥₁) (sym (append_assoc bs (written a) further))
              (so.rest (written a ++ further) e ((c ∷ calls), (next, here, a, is, inl (omega (arith, more.fits), further, refl, on))));
        },
      )))

  -- no call is answered any more: the text is over, or a line is at fault
  pub stops : (now : ℕ) (m : Ledger) (s : AnswerList) (e : End) → Stops text now e → Behind now m s → WorksCalls text at l start e s
  stops now m s e stop behind =
      writes _ start s (∥∥₁_elim behind (hlevel) (λ (bs, so). ∥∥₁_map (so.rest [] e ([], (refl, stop)))
      (λ works. (bs, so.list, subst (λ all. Working text at l (room start) all e) (append-nil bs) works))))

  -- or the next answer does not fit
  pub next_full : (now next : ℕ) (m : Ledger) (c : Call) (s t : AnswerList) (f : CarryFault) → ∥ LineAt text now (call c) next ∥₁
      → AnswersCall m c s (Err f) t → Behind now m s → WorksCalls text at l start (Err f) t
  next_full now next m c s t (AtFault f) line (a, is, none) behind = absurd none
  next_full now next m c s t (Refused e) line (a, is, none) behind = absurd none
  next_full now next m c s t Full line (a, is, more) behind =
      writes _ start t (∥∥₁_elim line (hlevel) (λ here. ∥∥₁_elim behind (hlevel) (λ (bs, so).
      ∥∥₁_map (so.rest [] (Err Full) ((c ∷ []), (next, here, a, is, inr (more.0, refl, refl))))
      (λ works. (bs ++ [], extends_then start s bs so.list t [] more.1, works)))))

  -- the same, of what the sheet x gives, which is y then
  module _ (x y : Sheet) (m : Ledger) (s t : AnswerList) (same : text_of x ≡ text) (behind : Behind (place_of x) m s) where
    line_of : (c : Call) → GoesOn x (Ok (Some c)) y → ∥ LineAt text (place_of x) (call c) (place_of y) ∥₁
    line_of c gives = subst (λ bytes. ∥ LineAt bytes (place_of x) (call c) (place_of y) ∥₁) same gives.1

    pub gives_call : (c : Call) → GoesOn x (Ok (Some c)) y → AnswersCall m c s (Ok tt) t
        → (text_of y ≡ text) × Behind (place_of y) (after m c) t
    gives_call c gives (a, is, more) = (
      gives.0 ∙ same,
      goes_on (place_of x) (place_of y) m c s t (line_of c gives) (a, is, more) behind,
    )

    pub gives_full : (c : Call) (f : CarryFault) → GoesOn x (Ok (Some c)) y → AnswersCall m c s (Err f) t → WorksCalls text at l start (Err f) t
    gives_full c f gives answered = next_full (place_of x) (place_of y) m c s t f (line_of c gives) answered behind

    pub gives_fault : (f : LineFault) → GoesOn x (Err f) y → WorksCalls text at l start (Err (AtFault f)) s
    gives_fault f gives =
        let stop = subst (λ bytes. (place_of x ≢ length bytes) × IsFault bytes (place_of x) f) same (gives.0, gives.1) in
        stops (place_of x) m s (Err (AtFault f)) stop behind

    pub gives_none : GoesOn x (Ok None) y → WorksCalls text at l start (Ok tt) s
    gives_none gives = stops (place_of x) m s (Ok tt) (gives.0 ∙ ap length same) behind

-- each line has a byte at least, and lies within the text and within the limit
pub moves_on : (text : List ℕ) (now : ℕ) (l : Line) (next : ℕ) → LineAt text now l next
    → (now < next) × (next ≤ length text) × (next ≤ longest + 1)
moves_on text now l next line =
    let some = some_byte text now l next line in
    let (inside, limit) = ends_within text line.stop line.ends in
    let on = line.on in
    (grind (arith, nat_tests), grind (arith, nat_tests), grind (arith, nat_tests))

-- so the lines come to an end
pub nearer : (x y : Sheet) (c : Call) → GoesOn x (Ok (Some c)) y → length (text_of y) - place_of y < length (text_of x) - place_of x
nearer x y c gives =
    subst (λ n. n - place_of y < length (text_of x) - place_of x) (sym (ap length gives.0))
    (∥∥₁_elim gives.1 (hlevel props) (λ here. omega (arith, moves_on (text_of x) (place_of x) (call c) (place_of y) here)))
