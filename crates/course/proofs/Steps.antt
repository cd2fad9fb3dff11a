-- What one call makes of a ledger.
use Rattle.std.proofs.Common.{◌≡◌, ℕ, ◌+◌, ◌-◌, ◌<◌, ◌≤◌, Bool, true, false, not, ◌&&◌, ◌⊎◌, List, [], ◌∷◌, ◌++◌, length, is_ok, Some, None, Ok, Err, Option, Result, refl, ap, ◌∙◌, inl, inr, arith, length-append, length-set}
use Rattle.std.specs.List.{range_with_len, All}
use Rattle.std.proofs.lemmas.List.FromFn.{length-map-range_with_len}
use Rattle.std.proofs.lemmas.List.Elements.{All-nil, All-cons, All-set, All-append}
use Rattle.std.proofs.lemmas.List.{get_or-set_other}
use Rattle.std.proofs.lemmas.Bool.{cases_eq, not-false}
use Rattle.std.proofs.lemmas.Bool.Decides.{nat_tests}
use Rattle.std.proofs.lemmas.Grind.{get_or-set_at}
use Rattle.entry.specs.Cells.{weigh, Holds}
use Rattle.entry.specs.Edits.{gapless, marked}
use Rattle.entry.specs.Refusals.{Row, Rows, topmost, answered, unless}
use Rattle.entry.proofs.CellFacts.{weigh-marked}
use Rattle.ledger.specs.declared.rule.Rule as Declared
use Rattle.ledger.specs.declared.call.Call.{Call}
use Rattle.ledger.specs.declared.call.Call.TheVariants.{Rule, Slide, Withdraw, Strike, Grant, Settle}
use Rattle.ledger.specs.Ledgers.{Ledger, Answer, done, settled, day_of, window_count, no_such_day, rows, answer, with_rules, with_day, worked, reply, after}
use Rattle.ledger.specs.Rules.{made, windows, numbered, stands, ended, withdrawn}
use Rattle.course.specs.Runs.{Edits, given_by, is_settle, Whole, FitsPlan, Good}
use Rattle.course.proofs.RuleFacts.{windows_fit, given_range, none_given, stands-append, stands-withdrawn}
use Rattle.course.proofs.DayFacts.{marked_whole, struck_holds, granted_holds}

-- a call on the ledger l that answers r and leaves m
pub record Step (l : Ledger) (call : Call) (r : Result Answer Row) (m : Ledger) : Type 0 where
  -- it is no refusal and no settle, or it changes nothing
  pub idle : ((is_ok r && not (is_settle call)) ≡ true) ⊎ (m ≡ l)
  pub kind : m.kind ≡ l.kind
  pub days : length m.days ≡ length l.days
  pub weights : (day code : ℕ) → weigh (day_of m day) code ≡ weigh (day_of l day) code
  pub others : (day : ℕ) → 0 < day → (Edits call day → ⊥) → day_of m day ≡ day_of l day
  pub grows : length l.rules ≤ length m.rules
  pub numbers : given_by r ≡ range_with_len (length l.rules + 1) (length m.rules - length l.rules)
  pub withdrawn : (number : ℕ) → number ≤ length l.rules → stands l.rules number ≡ false
      → stands m.rules number ≡ false
  pub good : Good l → Good m

-- no row's test is true
abbrev Clear : Rows → Type 0
Clear [] = Unit {0}
Clear (row ∷ rows) = (row.0 ≡ false) × Clear rows

module _ (l : Ledger) where
  abbrev Fit : List Declared.Rule → Type 0
  Fit = All (FitsPlan (length l.days) l.kind.top)

  -- a call that makes these the rules
  ruled : (call : Call) (r : Result Answer Row) (rules : List Declared.Rule)
      → ((is_ok r && not (is_settle call)) ≡ true) ⊎ (with_rules l rules ≡ l)
      → length l.rules ≤ length rules
      → given_by r ≡ range_with_len (length l.rules + 1) (length rules - length l.rules)
      → ((number : ℕ) → number ≤ length l.rules → stands l.rules number ≡ false → stands rules number ≡ false)
      → (Fit l.rules → Fit rules)
      → Step l call r (with_rules l rules)
  ruled call r rules idle grows numbers off fit = record {
    idle = idle;
    kind = refl;
    days = refl;
    weights = λ day code. refl;
    others = λ day from other. refl;
    grows = grows;
    numbers = numbers;
    withdrawn = off;
    good = λ g. record { few = g.few; held = g.held; gapless = g.gapless; within = fit g.within };
  }

  -- a call that leaves all as it is
  same : (call : Call) (r : Result Answer Row) → given_by r ≡ [] → Step l call r l
  same call r none =
      ruled call r l.rules (inr refl) (omega arith) (none ∙ none_given l.rules _ refl)
      (λ number le off. off) (λ fit. fit)

  -- a call that adds rules
  added : (call : Call) (a : Answer) (new : List Declared.Rule) → not (is_settle call) ≡ true
      → given_by (Ok a) ≡ range_with_len (length l.rules + 1) (length new) → Fit new
      → Step l call (Ok a) (with_rules l (l.rules ++ new))
  added call a new real given fit =
      let old = l.rules in
      let long = length-append old new in
      let more : length new ≡ length (old ++ new) - length old = omega arith in
      ruled call (Ok a) (old ++ new) (inl real) (omega arith) (given ∙ ap (range_with_len (length old + 1)) more)
      (stands-append old new) (λ fits. All-append (FitsPlan (length l.days) l.kind.top) old new fits fit)

  -- a strike or a grant
  edited : (call : Call) (day code : ℕ) (holds : Bool) → (let m = day_of l day in let new = marked m code holds in
      not (is_settle call) ≡ true → ((other : ℕ) → day ≡ other → Edits call other) → no_such_day l day ≡ false
      → not (gapless new) ≡ false → (Holds m → Holds new)
      → Step l call (Ok done) (with_day l day new))
  edited call day code holds real names such whole keeps =
      let days = l.days in
      let i = day - 1 in
      let m = day_of l day in
      let new = marked m code holds in
      let from : 0 < day = grind (arith, nat_tests) in
      let to : i < length days = grind (arith, nat_tests) in
      let long = length-set days i new in
      record {
        idle = inl real;
        kind = refl;
        days = long;
        weights = λ other c. elim (cases_eq (other - 1) i) [
          | inl e ↦ cc (get_or-set_at days i (other - 1) new [] e to, weigh-marked m code holds c)
          | inr n ↦ ap (λ x. weigh x c) (get_or-set_other days i (other - 1) new [] n)
        ];
        others = λ other after apart. get_or-set_other days i (other - 1) new [] (λ e. apart (names other (omega arith)));
        grows = omega arith;
        numbers = none_given l.rules _ refl;
        withdrawn = λ number le off. off;
        good = λ g. record {
          few = omega arith;
          held = All-set Holds days i new (keeps (g.held i [] to)) g.held;
          gapless = All-set Whole days i new (marked_whole m code holds (not-false _ whole) (g.gapless i [] to).0) g.gapless;
          within = rw long g.within;
        };
      }

  -- a call that no row refuses
  works : (call : Call) → Clear (rows l call) → Step l call (Ok (answer l call)) (worked l call)
  works (Rule first last least most) clear =
      added (Rule first last least most) _ (made first last least most ∷ []) refl refl (All-cons (FitsPlan (length l.days) l.kind.top) _ [] (λ _. grind (arith, nat_tests)) (All-nil _))
  works (Slide width least most) clear =
      let count = window_count l width in
      let new = windows count width least most in
      let long : length new ≡ count = length-map-range_with_len _ 1 count in
      added (Slide width least most) _ new refl (rw long (given_range (length l.rules) count))
      (windows_fit (length l.days) l.kind.top width least most
      (grind (arith, nat_tests)) (grind (arith, nat_tests)) (grind (arith, nat_tests)))
  works (Withdraw number) clear =
      let old = l.rules in
      let new = withdrawn old number in
      let end = ended (numbered old number) in
      let long = length-set old (number - 1) end in
      ruled (Withdraw number) (Ok done) new (inl refl) (omega arith) (none_given new _ long)
      (λ k _. stands-withdrawn old number k) (All-set (FitsPlan (length l.days) l.kind.top) old (number - 1) end (λ on. grind arith))
  works (Strike day code) clear =
      edited (Strike day code) day code false refl (λ _ e. e) clear.1.0 clear.1.1.1.1.0 (struck_holds (day_of l day) code clear.1.1.1.0)
  works (Grant day code) clear =
      edited (Grant day code) day code true refl (λ _ e. e) clear.1.0 clear.1.1.1.0 (granted_holds (day_of l day) code)
  works Settle clear = same Settle (Ok settled) refl

all_clear : (rows : Rows) → topmost rows ≡ None → Clear rows
all_clear [] h = tt
all_clear (row ∷ rows) h = (grind arith, all_clear rows (grind arith))

pub step_of : (l : Ledger) (call : Call) → Step l call (reply l call) (after l call)
step_of l call = by (topmost (rows l call)) (all_clear (rows l call))
  where
    by : (o : Option Row) → (o ≡ None → Clear (rows l call))
        → Step l call (answered o (answer l call)) (unless o (worked l call) l)
    by None clear = works l call (clear refl)
    by (Some r) clear = same l call (Err r) refl
