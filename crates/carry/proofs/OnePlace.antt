-- At each place of a text either one line follows, or the work stops there in one way.
use Rattle.std.proofs.Common.{◌≡◌, ℕ, List, refl, sym, ap, subst, ◌∙◌, arith}
use Rattle.std.specs.Prelude.{Ok, Err}
use Rattle.std.proofs.Math.Logic.{∥∥₁_elim}
use Rattle.std.proofs.Props.{props}
use Rattle.ledger.specs.declared.call.Call.{Call}
use Rattle.ledger.specs.declared.call.Call.TheVariants as calls
use Rattle.tokens.specs.Lines.{Line, call}
use Rattle.tokens.specs.Sheets.{LineAt}
use Rattle.tokens.proofs.Unique.{ends_within, some_byte, one_next, one_writing}
use Rattle.sheet.specs.Faults.{IsFault}
use Rattle.sheet.specs.declared.fault.LineFault.{LineFault}
use Rattle.sheet.proofs.OneLine.{one_line, no_line}
use Rattle.carry.specs.declared.fault.CarryFault.TheVariants.{Line as AtFault, Refused, Full}
use Rattle.carry.specs.Ends.{End}
use Rattle.carry.specs.Carrying.{Stops}

-- the call of a line (a settle, where the line is none)
abbrev pub call_of : Line → Call
call_of (call c) = c
call_of l = calls.Settle

module _ (text : List ℕ) (at : ℕ) where
  -- what holds of a line there, and of where the next begins, holds of each
  pub any_line : (P : Line → ℕ → Type 0) (l k : Line) (m n : ℕ) → LineAt text at l m → LineAt text at k n → P l m → P k n
  any_line P l k m n x y p =
      let one = one_line l k x.says.small y.says.small (one_writing text at l k m n x y) in
      subst (P k) (one_next text at l k m n x y) (subst (λ l. P l m) one p)

  pub one_told : (f g : LineFault) → IsFault text at f → IsFault text at g → f ≡ g
  one_told f g x y =
      let same : f.read ≡ g.read = ∥∥₁_elim x.told (hlevel props) (λ (n, here, is). is ∙ sym (y.only n here)) in
      ap (λ r. record { read = r }) same

  -- no line begins at the end of the text, and none where a fault is told
  pub stops_no_line : (e : End) → Stops text at e → (l : Line) (next : ℕ) → LineAt text at l next → ⊥
  stops_no_line (Ok done) stops l next line =
      let some = some_byte text at l next line in
      let (inside, limit) = ends_within text line.stop line.ends in
      omega arith
  stops_no_line (Err (AtFault f)) stops l next line = no_line text at f stops.1 l next line
  stops_no_line (Err (Refused e)) stops l next line = stops
  stops_no_line (Err Full) stops l next line = stops

  pub one_end : (e f : End) → Stops text at e → Stops text at f → e ≡ f
  one_end (Ok done) (Ok d) x y = refl
  one_end (Ok done) (Err (AtFault g)) x y = absurd (y.0 x)
  one_end (Ok done) (Err (Refused r)) x y = absurd y
  one_end (Ok done) (Err Full) x y = absurd y
  one_end (Err (AtFault f)) (Ok d) x y = absurd (x.0 y)
  one_end (Err (AtFault f)) (Err (AtFault g)) x y = ap (λ f. Err (AtFault f)) (one_told f g x.1 y.1)
  one_end (Err (AtFault f)) (Err (Refused r)) x y = absurd y
  one_end (Err (AtFault f)) (Err Full) x y = absurd y
  one_end (Err (Refused r)) f x y = absurd x
  one_end (Err Full) f x y = absurd x
