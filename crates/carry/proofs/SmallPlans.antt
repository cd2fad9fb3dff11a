-- A plan stays small: it has 128 days at the most, each with 64 cells, and 512 rules at the most.
use Rattle.std.proofs.Common.{◌≡◌, ℕ, ◌+◌, ◌-◌, ◌<◌, ◌≤◌, ◌^◌, true, false, List, [], ◌∷◌, ◌++◌, length, refl, ◌∙◌, inl, inr, arith, length-append, length-set}
use Rattle.std.specs.Prelude.{Bool, Some, None, Ok, Err, Option, Result, IfOk, if◌then◌else◌, ◌==◌, nat_lt}
use Rattle.std.specs.List.{All}
use Rattle.std.proofs.lemmas.Bool.{cases_Bool, cases_lt}
use Rattle.std.proofs.lemmas.Bool.Decides.{nat_tests}
use Rattle.std.proofs.lemmas.List.{set_past, length-replicate}
use Rattle.std.proofs.lemmas.List.FromFn.{length-map-range_with_len}
use Rattle.std.proofs.lemmas.List.Elements.{All-nil, All-cons, All-set, All-same, All-replicate}
use Rattle.codes.specs.Members.{lists}
use Rattle.entry.specs.Cells.{Meaning, cells}
use Rattle.entry.specs.Edits.{marked}
use Rattle.entry.specs.Refusals.{Row, Rows, row, topmost, answered, unless}
use Rattle.entry.proofs.CellFacts.{length-cells}
use Rattle.ledger.specs.declared.rule.Rule as Declared
use Rattle.ledger.specs.declared.call.Call.{Call}
use Rattle.ledger.specs.declared.call.Call.TheVariants.{Rule, Slide, Withdraw, Strike, Grant, Settle}
use Rattle.ledger.specs.Ledgers.{Kind, Ledger, Answer, numbered, ranging, done, settled, day_of, window_count, book_full, rows, answer, with_rules, with_day, worked, reply, after}
use Rattle.ledger.specs.Rules as rules
use Rattle.ledger.specs.Rules.{made, windows, ended}
use Rattle.kinds.specs.Collections.{weight_in, collection_of}
use Rattle.kinds.specs.Duties.{duty_weight, duty_of}
use Rattle.kinds.specs.Spans.{spans, boxes_of}
use Rattle.tokens.specs.Lines.{Line, duty, collection, boxes, call}
use Rattle.carry.specs.Openings.{filled, plan_of, opens}

-- a cell for each of the 64 codes
abbrev pub AllCells : Meaning → Type 0
AllCells m = length m ≡ 64

pub record Kept (l : Ledger) : Type 0 where
  pub few : length l.days ≤ 128
  pub each : All AllCells l.days
  pub book : length l.rules ≤ 512

-- ---- a plan as it opens
-- whatever is built of a first line has a cell for each code
built : (o : Option Row) (weighs : ℕ → ℕ) (holds : ℕ → Bool) → IfOk (answered o (cells weighs holds)) AllCells
built None weighs holds = length-cells weighs holds
built (Some r) weighs holds = tt

filled_kept : (kind : Kind) (days : ℕ) (entry : Result Meaning Row) → IfOk entry AllCells → days ≤ 128
    → IfOk (filled kind days entry) Kept
filled_kept kind days (Ok m) all few = record {
  few = omega (arith, length-replicate days m);
  each = All-replicate AllCells days m all;
  book = omega arith;
}
filled_kept kind days (Err r) all few = tt

plan_kept : (kind : Kind) (days : ℕ) (entry : Result Meaning Row) → IfOk entry AllCells → IfOk (plan_of kind days entry) Kept
plan_kept kind days entry all =
    elim (cases_Bool (nat_lt 128 days)) [
      | inl over ↦ rw over tt
      | inr within ↦ rw within (filled_kept kind days entry all (grind (arith, nat_tests)))
    ]

pub opens_kept : (l : Line) → IfOk (opens l) Kept
opens_kept (duty days held) = plan_kept _ days (duty_of held) (built _ duty_weight (lists held))
opens_kept (collection days held counted) =
    plan_kept _ days (collection_of held counted) (built _ (weight_in (lists counted)) (lists held))
opens_kept (boxes days low high) = plan_kept _ days (boxes_of low high) (built _ (λ c. c) (spans low high))
opens_kept (call c) = tt

-- ---- a plan after a call
-- where no row is topmost, none fits
none_fits : (rows : Rows) → topmost rows ≡ None → All (λ r. r.0 ≡ false) rows
none_fits [] none = All-nil (λ r. r.0 ≡ false)
none_fits (r ∷ rows) none = All-cons (λ r. r.0 ≡ false) r rows (grind arith) (none_fits rows (grind arith))

abbrev pub SixDigits : ℕ → Type 0
SixDigits n = n < 10 ^ 6

-- the numbers that an answer names have six digits at the most
abbrev pub Little : Answer → Type 0
Little (numbered n) = SixDigits n
Little (ranging None) = Unit {0}
Little (ranging (Some p)) = SixDigits p.0 × SixDigits p.1
Little done = Unit {0}
Little settled = Unit {0}

little_range : (count more : ℕ) → count + more ≤ 512
    → Little (ranging (if more == 0 then None else Some (count + 1, count + more)))
little_range count more fits =
    elim (cases_Bool (more == 0)) [
      | inl none ↦ rw none tt
      | inr some ↦ rw some (omega arith, omega arith)
    ]

module _ (l : Ledger) (kept : Kept l) where
  with_book : (new : List Declared.Rule) → length new ≤ 512 → Kept (with_rules l new)
  with_book new room = record { few = kept.few; each = kept.each; book = room }

  edited : (day code : ℕ) (holds : Bool) → Kept (with_day l day (marked (day_of l day) code holds))
  edited day code holds =
      let new = marked (day_of l day) code holds in
      record {
        few = omega (arith, length-set l.days (day - 1) new, kept.few);
        each = elim (cases_lt (day - 1) (length l.days)) [
          | inl within ↦
              All-set AllCells l.days (day - 1) new (length-set (day_of l day) code _ ∙ kept.each (day - 1) [] within) kept.each
          | inr past ↦ All-same AllCells _ l.days (set_past l.days (day - 1) new past) kept.each
        ];
        book = kept.book;
      }

  -- a call that no row refuses
  works : (c : Call) → topmost (rows l c) ≡ None → Little (answer l c) × Kept (worked l c)
  works (Rule first last least most) clear =
      let new = made first last least most ∷ [] in
      let room : book_full l 1 ≡ false = none_fits (rows l (Rule first last least most)) clear 3 (true, row 6) (omega arith) in
      let fits : length l.rules + 1 ≤ 512 = grind (arith, nat_tests) in
      (omega arith, with_book (l.rules ++ new) (omega (arith, length-append l.rules new)))
  works (Slide width least most) clear =
      let more = window_count l width in
      let new = windows more width least most in
      let long : length new ≡ more = length-map-range_with_len _ 1 more in
      let room : book_full l more ≡ false = none_fits (rows l (Slide width least most)) clear 3 (true, row 6) (omega arith) in
      let fits : length l.rules + more ≤ 512 = grind (arith, nat_tests) in
      (little_range (length l.rules) more fits, with_book (l.rules ++ new) (omega (arith, length-append l.rules new)))
  works (Withdraw number) clear =
      let book = length-set l.rules (number - 1) (ended (rules.numbered l.rules number)) in
      (tt, with_book _ (omega (arith, kept.book)))
  works (Strike day code) clear = (tt, edited day code false)
  works (Grant day code) clear = (tt, edited day code true)
  works Settle clear = (tt, kept)

  pub call_kept : (c : Call) → IfOk (reply l c) Little × Kept (after l c)
  call_kept c = by (topmost (rows l c)) (works c)
    where
      by : (o : Option Row) → (o ≡ None → Little (answer l c) × Kept (worked l c))
          → IfOk (answered o (answer l c)) Little × Kept (unless o (worked l c) l)
      by None clear = clear refl
      by (Some r) clear = (tt, kept)
