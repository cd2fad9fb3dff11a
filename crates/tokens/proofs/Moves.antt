-- What the tokens' own steps do, from what the reader's do.
use Rattle.std.proofs.Common.{arith}
use Rattle.std.specs.Prelude.{◌≡◌, ◌≢◌, ℕ, ◌+◌, ◌≤◌, ◌<◌, List, [], length, slice_range, Option, Some, None, Result, Ok, Err, IsErrAnd, MatchOption, nat_lt, true}
use mathlib.Core.Path.{sym, ap, subst, ◌∙◌}
use Rattle.std.proofs.Math.Logic.{∥∥₁_map}
use mathlib.Core.Logic.{⊎_elim, inl, inr}
use Rattle.std.proofs.lemmas.Bool.{both_ways, cond_both, cases_lt}
use Rattle.std.proofs.lemmas.Grind.{not_there}
use Rattle.reader.specs.Forms.{Stuck}
use Rattle.std.proofs.lemmas.List.Edits.{between_none}
use Rattle.reader.specs.Left.{left, first_line}
use Rattle.tokens.specs.Lines.{IsLine}
use Rattle.reader.specs.Places.{byte_at, fault_at, Ends, past, foreign}
use Rattle.tokens.specs.Sheets.{FaultAt}
use Rattle.reader.specs.Steps.{Passes, Read, Ended, EndsLine}
use Rattle.tokens.specs.Passing.{Advances, SameLine, Finished, Finishes}
use Rattle.tokens.specs.Tokens.{Blanks, Closes}
use Rattle.tokens.specs.Beginnings.{Completes}
use Rattle.reader.specs.declared.place.ReadFault.{ReadFault}
use Rattle.reader.specs.declared.reader.Reader.{Reader}
use Rattle.tokens.specs.declared.tokens.Tokens.{Tokens}
use Rattle.tokens.proofs.Spelling.{first_is, later_is, not_empty}
use Rattle.tokens.proofs.Beginnings.{InLine, stopped, ended, at_fault, no_line_has, no_end}

-- a step
read_on : (s t : Tokens) (o : Option ℕ) → t.start ≡ s.start → MatchOption o ⊥ (Read s.reader t.reader)
    → SameLine s t × (t.reader.at ≡ s.reader.at + 1)
read_on s t None start = λ never. absurd never
read_on s t (Some b) start = λ read. (record { text = read.text; start = start }, read.on)

pub step_told : (s t : Tokens) (o : Result (Unit {0}) ReadFault) → t.start ≡ s.start → Passes s.reader o t.reader
    → MatchOption (byte_at s.reader.text.now s.reader.at) ⊥ (λ b. b ≢ 10)
    → Advances s o t (λ x. t.reader.at ≡ s.reader.at + 1) (t.reader.at ≡ s.reader.at)
step_told s t (Ok x) start passed some = read_on s t (byte_at s.reader.text.now s.reader.at) start passed
step_told s t (Err f) start stops some =
    let (fault, told) = stopped s.start s.reader t.reader f stops some (s.from, s.fits) in
    let line : SameLine s t = record { text = ap (λ r. r.text) stops.same; start = start } in
    (record { line = line; at = fault; fault = told }, ap (λ r. r.at) stops.same)

-- the beginning of a text
pub first_fits : (r : Reader) → r.at ≡ 0 → left r.state ≡ first_line → InLine 0 r
first_fits r begins first =
    let nothing : slice_range r.text.now 0 r.at ≡ [] = ap (slice_range r.text.now 0) begins ∙ between_none r.text.now 0 in
    (omega arith, subst (λ p. Completes 0 p (left r.state)) (sym nothing) (subst (Completes 0 []) (sym first) first_is))

pub stays : (s : Tokens) (r : Reader) → r ≡ s.reader → InLine s.start r
stays s r same = subst (InLine s.start) (sym same) (s.from, s.fits)

-- the end of a line
pub past_le : (text : List ℕ) (n : ℕ) → n ≤ past text n
past_le text n = cond_both (nat_lt n (length text)) (n + 1) n (λ m. n ≤ m) (λ below. omega arith) (λ above. omega arith)

ends_behind : (s : Tokens) (r : Reader) → Ended s.reader r → 0 < r.at
ends_behind s r end =
    ⊎_elim
    (λ (some : 0 < s.reader.at). let later = past_le s.reader.text.now s.reader.at in omega (arith, later, end.on, some))
    (λ (none : s.reader.at ≤ 0).
    let at : s.reader.at ≡ 0 = omega arith in
    let start : s.start ≡ 0 = omega (arith, s.from) in
    let nothing : slice_range s.reader.text.now s.start s.reader.at ≡ [] = ap (λ n. slice_range s.reader.text.now s.start n) (at ∙ sym start) ∙ between_none s.reader.text.now s.start in
    absurd (not_empty s.start (subst (IsLine s.start) nothing (ended s.start _ s.reader.state s.fits end.complete))))
    (cases_lt 0 s.reader.at)

pub end_fits : (s : Tokens) (r : Reader) → Ended s.reader r → InLine r.at r
end_fits s r end =
    let nothing : slice_range r.text.now r.at r.at ≡ [] = between_none r.text.now r.at in
    (omega arith, subst (λ p. Completes r.at p (left r.state)) (sym nothing) (subst (Completes r.at []) (sym end.later) (later_is r.at (ends_behind s r end))))

pub end_told : (s t : Tokens) → Ended s.reader t.reader → t.start ≡ t.reader.at → Finished s t
end_told s t end start = record { text = end.text; start = start; line = ended s.start _ s.reader.state s.fits end.complete; ends = end.here; on = end.on }

ten_stuck : (s : Tokens) (o : Option ℕ) → MatchOption o (Unit {0}) (λ b. b ≡ 10)
    → MatchOption o (Unit {0}) (λ b. Stuck b (left s.reader.state))
ten_stuck s None = λ u. u
ten_stuck s (Some b) = λ ten. no_line_has s.start _ b s.reader.state s.fits (inr ten)

pub end_fault : (s t : Tokens) (o : Result (Unit {0}) ReadFault) (f : ReadFault) → IsErrAnd o (λ e. e ≡ f) → t.start ≡ s.start
    → EndsLine s.reader (Err f) t.reader → MatchOption (byte_at s.reader.text.now s.reader.at) (Unit {0}) (λ b. b ≡ 10)
    → Finishes s o t
end_fault s t (Ok x) f told start stops ten = absurd told
end_fault s t (Err e) f told start (same, is, not) ten =
    let fault = at_fault s.reader.text.now s.start s.reader.at s.reader.state s.from s.reader.within.0 s.reader.within.1 s.fits (ten_stuck s (byte_at s.reader.text.now s.reader.at) ten) (λ spelled ends. not_there spelled (λ complete. not (complete, ends))) in (
      record {
        line = record { text = ap (λ r. r.text) same; start = start };
        at = subst (λ r. FaultAt s.reader.text.now s.start r.at) (sym same) fault;
        fault = subst (λ r. e ≡ fault_at s.reader.text.now r.at) (sym same) (told ∙ is);
      },
      ap (λ r. r.at) same,
    )

-- a line's end behind blanks
pub closes : (s t u : Tokens) → SameLine s t → Blanks s.reader.text.now s.reader.at t.reader.at → Finished t u
    → ∥ Closes s.reader.text.now s.start s.reader.at u.reader.at ∥₁
closes s t u same blanks end =
    ∥∥₁_map (subst (λ n. IsLine n (slice_range s.reader.text.now n t.reader.at)) same.start (subst (λ r. IsLine t.start (slice_range r.now t.start t.reader.at)) same.text end.line)) (λ (l, says). record {
      line = l;
      here = record {
        stop = t.reader.at;
        from = omega (arith, s.from, blanks.order);
        says = says;
        ends = subst (λ r. Ends r.now t.reader.at) same.text end.ends;
        on = end.on ∙ ap (λ r. past r.now t.reader.at) same.text;
      };
      blanks = blanks;
    })

-- a byte that no sheet has, and no line goes on with
pub foreign_fault : (s t : Tokens) (b : ℕ) → SameLine s t → byte_at t.reader.text.now t.reader.at ≡ Some b → foreign b ≡ true
    → FaultAt s.reader.text.now s.start t.reader.at
foreign_fault s t b same here bad =
    let stuck : MatchOption (byte_at t.reader.text.now t.reader.at) (Unit {0}) (λ b. Stuck b (left t.reader.state)) =
    subst (λ o. MatchOption o (Unit {0}) (λ b. Stuck b (left t.reader.state))) (sym here) (no_line_has t.start _ b t.reader.state t.fits (inl bad)) in
    let other : b ≢ 10 = λ ten. both_ways (foreign b) (ap foreign ten) bad in
    let some : MatchOption (byte_at t.reader.text.now t.reader.at) ⊥ (λ b. b ≢ 10) = subst (λ o. MatchOption o ⊥ (λ b. b ≢ 10)) (sym here) other in
    let fault = at_fault t.reader.text.now t.start t.reader.at t.reader.state t.from t.reader.within.0 t.reader.within.1 t.fits stuck (λ spelled ends. no_end t.reader.text.now t.reader.at some ends) in
    subst (λ n. FaultAt s.reader.text.now n t.reader.at) same.start (subst (λ r. FaultAt r.now t.start t.reader.at) same.text fault)
