-- What it means to be the first that fails a test, and what this tells of a roster.
use Rattle.std.proofs.Common.{◌≡◌, ℕ, ◌+◌, ◌-◌, ◌<◌, ◌≤◌, Bool, true, false, nat_lt, List, [], ◌∷◌, length, slice_index_or, Some, None, Option, Ok, Bor, sym, ap, ◌∙◌, subst, true≢false, arith}
use Rattle.std.specs.List.{All, AllPass, prefix_len, zip}
use Rattle.std.proofs.lemmas.Bool.{ltb-true}
use Rattle.std.proofs.lemmas.Bool.Decides.{nat_tests}
use Rattle.std.proofs.lemmas.Grind.{common_steps}
use Rattle.std.proofs.lemmas.List.{get_or_default}
use Rattle.std.proofs.lemmas.List.Sums.{prefix_len_passes, prefix_len_stops}
use Rattle.std.proofs.lemmas.Option.{cond_some}
use Rattle.entry.specs.Cells.{Meaning}
use Rattle.ledger.specs.declared.rule.Rule.{Rule}
use Rattle.ledger.specs.Ledgers.{Ledger, failing, ends_within}
use Rattle.ledger.specs.Rosters.{Roster, stretch, holds_its_code, keeps}
use Rattle.ledger.specs.Rules.{no_rule, numbered, Bounds, Within, Book}
use Rattle.ledger.proofs.Firsts.{none_failing}
use Rattle.roster.specs.declared.finding.Finding.TheVariants as findings
use Rattle.roster.specs.Findings.{FirstFailing, Found}

module _ {X : Type 0} (test : X → Bool) where
  -- the first that fails, where one does
  pub first_failing : (xs : List X) (n : ℕ) → failing test xs ≡ Some n → FirstFailing test xs n
  first_failing xs n e =
      let k = prefix_len test xs in
      let found = cond_some (nat_lt k (length xs)) (k + 1) n e in
      let lt : k < length xs = ltb-true k (length xs) found.0 in
      let at : k ≡ n - 1 = omega (arith, found.1) in (
        omega (arith, found.1),
        omega (arith, found.1),
        subst (λ i. (d : X) → test (slice_index_or xs i d) ≡ false) at (λ d. prefix_len_stops test xs d lt),
        (λ i d within. grind (arith, common_steps, prefix_len_passes test xs i d)),
      )

  -- not all pass where one fails
  pub some_fails : (xs : List X) (n : ℕ) → FirstFailing test xs n → AllPass test xs → ⊥
  some_fails [] n f h = absurd (omega (arith, f.0, f.1))
  some_fails (x ∷ xs) n f h = true≢false (sym (h (n - 1) x (omega (arith, f.0, f.1))) ∙ f.2 x)

-- where each rule in force ends within the days, so does each rule of the book
pub rules_within : (book rules : Book) (n : ℕ) → rules ≡ book → Bounds rules → failing (ends_within n) book ≡ None
    → All (λ r. Within 128 63 r × (ends_within n r ≡ true)) rules
rules_within book rules n same bounds none k d lt =
    let ends = none_failing (ends_within n) rules (ap (failing (ends_within n)) same ∙ none) in
    subst (λ r. Within 128 63 r × (ends_within n r ≡ true)) (get_or_default rules k no_rule d lt)
    (bounds k lt, ends k no_rule lt)

-- a broken rule is in force
broken_ends : (days : List Meaning) (roster : Roster) (r : Rule) (n : ℕ)
    → keeps days roster r ≡ false → ends_within n r ≡ true → r.last ≤ n
broken_ends days roster r n p q = grind (arith, nat_tests)

-- what the two searches tell of a roster
module _ (l : Ledger) (roster : Roster) where
  abbrev not_held : Option ℕ
  not_held = failing holds_its_code (zip l.days roster)

  abbrev broken : Option ℕ
  broken = failing (keeps l.days roster) l.rules

  pub day_fault : (day : ℕ) → not_held ≡ Some day → Found l roster (Ok (findings.NotHeld day))
  day_fault day e =
      let f = first_failing holds_its_code (zip l.days roster) day e in
      ((λ h. some_fails holds_its_code (zip l.days roster) day f h.held), f)

  pub faultless : length roster ≡ length l.days → not_held ≡ None → broken ≡ None → Found l roster (Ok findings.Lawful)
  faultless long no_day no_broken = record {
    long = long;
    held = none_failing holds_its_code (zip l.days roster) no_day;
    kept = none_failing (keeps l.days roster) l.rules no_broken;
  }

  module _ (rules : Book) (same : rules ≡ l.rules) (number : ℕ) (e : broken ≡ Some number) where
    abbrev rule : Rule
    rule = numbered rules number

    -- the broken rule's days lie within the plan where each rule in force does
    pub broken_within : (n : ℕ) → Bounds rules → failing (ends_within n) l.rules ≡ None
        → (1 ≤ rule.first) × (rule.first ≤ rule.last) × (rule.last ≤ n)
    broken_within n bounds none =
        let f = first_failing (keeps l.days roster) rules number (ap (failing (keeps l.days roster)) same ∙ e) in
        let within = rules_within l.rules rules n same bounds none (number - 1) no_rule (omega (arith, f.0, f.1)) in
        (within.0.0, within.0.1, broken_ends l.days roster rule n (f.2 no_rule) within.1)

    pub rule_fault : (part : Bor Roster) → not_held ≡ None → part.now ≡ stretch rule roster
        → Found l roster (Ok (findings.Broken number rule.first rule.last part))
    rule_fault part no_day shown =
        let f = first_failing (keeps l.days roster) l.rules number e in
        let read : rule ≡ numbered l.rules number = ap (λ rs. numbered rs number) same in (
          (λ h. some_fails (keeps l.days roster) l.rules number f h.kept),
          none_failing holds_its_code (zip l.days roster) no_day,
          f,
          ap (λ (r : Rule). r.first) read,
          ap (λ (r : Rule). r.last) read,
          shown ∙ ap (λ r. stretch r roster) read,
        )
