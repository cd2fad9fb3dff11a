-- Lawful rosters and solutions of the plan's system: each roster's totals are one, and each is some roster's.
use Rattle.std.proofs.Common.{◌≡◌, ℕ, ◌+◌, ◌-◌, ◌<◌, ◌≤◌, true, [], length, slice_index_or, slice_get, Some, refl, ap, sym, ◌∙◌, subst, inl, inr, arith}
use Rattle.std.specs.Prelude.{pos, ◌-ℤ◌, ◌≤ℤ◌}
use Rattle.std.proofs.lemmas.Bool.{cases_Bool, cases_eq}
use Rattle.std.proofs.lemmas.Bool.Decides.{nat_tests}
use Rattle.std.proofs.lemmas.Int.{ints, clamps}
use Rattle.std.proofs.lemmas.List.Elements.{All-contains, All-from_get_or}
use Rattle.std.proofs.lemmas.Option.{slice_get_within, get_or_from_slice_get, slice_get-get_or}
use Rattle.std.proofs.lemmas.Slice.Zip.{length-zip, get_or-zip}
use Rattle.entry.specs.Cells.{Meaning}
use Rattle.entry.specs.Weights.{lightest, heaviest}
use Rattle.entry.proofs.Weighing.{lightest_means, heaviest_means}
use Rattle.ledger.specs.Ledgers.{Ledger, day_of}
use Rattle.ledger.specs.Rosters.{Roster, Lawful, total, stretch_weight, keeps}
use Rattle.ledger.specs.Rules.{no_rule, numbered, stands}
use Rattle.ledger.proofs.Firsts.{ends_inside}
use Rattle.limits.specs.declared.link.Limit.{Limit}
use Rattle.limits.specs.declared.link.Limit.TheVariants.{Most, Least, Heaviest, Lightest}
use Rattle.limits.specs.Links.{Totals, Keeps, Solves}
use Rattle.limits.specs.Systems.{System}
use Rattle.closure.specs.Closures.{Starts}
use Rattle.plan.specs.Tables.{Has, IsDay, line_of, Represents}
use Rattle.settlement.specs.Choices.{rise, Weighs, Reachable}
use Rattle.settlement.proofs.Readiness.{Ready}
use Rattle.settlement.proofs.Following.{Follows, total_is, totals_of, follows_itself, attains, pick_each}
use Rattle.settlement.proofs.WeightSums.{stretch_total}

module _ (l : Ledger) (s : System) (ready : Ready l) (represents : Represents l s) where
  -- a solution keeps each limit of the plan
  pub solution_keeps : (y : Totals) → Solves s.links y → (limit : Limit) → Has l limit → Keeps y (line_of l limit)
  solution_keeps y solves limit has = All-contains (Keeps y) s.links (line_of l limit) solves (represents.whole limit has)

  -- a rule in force has its days within the plan
  rule_within : (number : ℕ) → stands l.rules number ≡ true
      → (let r = numbered l.rules number in (1 ≤ r.first) × (r.first ≤ r.last) × (r.last ≤ length l.days))
  rule_within number on =
      let such : number - 1 < length l.rules = grind (arith, nat_tests) in
      let bounds = ready.bounds (number - 1) such in
      let ends = ends_inside l.rules (length l.days) ready.within (number - 1) such (grind (arith, nat_tests)) in
      (omega (arith, bounds.0), omega (arith, bounds.1), ends)

  pub reachable : Reachable s l.days
  reachable y starts k m day =
      let inner = slice_get_within l.days k m day in
      let such : IsDay l (k + 1) = (omega arith, omega arith) in
      let before : k + 1 - 1 ≡ k = omega arith in
      let is : day_of l (k + 1) ≡ m =
      ap (λ i. slice_index_or l.days i []) before ∙ get_or_from_slice_get l.days k m [] day in
      let back : y (k + 1 - 1) ≡ y k = ap y before in
      let up = rw is at (solution_keeps y starts.0 (Heaviest (k + 1)) such) in
      let down = rw is at (solution_keeps y starts.0 (Lightest (k + 1)) such) in
      let no_gap = rw is at (ready.gapless (k + 1 - 1) [] (omega arith)) in
      let some = rw is at (ready.held (k + 1 - 1) [] (omega arith)) in
      attains m no_gap some (rise y k) (omega (arith, ints)) (omega (arith, ints))

  module _ (roster : Roster) (lawful : Lawful l roster) where
    abbrev y : Totals
    y = totals_of l.days roster

    -- on a day the total rises by the day's lightest at the least and by its heaviest at the most
    day_span : (day : ℕ) → IsDay l day → (let m = day_of l day in
        (pos (lightest m) ≤ℤ (y day -ℤ y (day - 1))) × ((y day -ℤ y (day - 1)) ≤ℤ pos (heaviest m)))
    day_span day such =
        let k = day - 1 in
        let m = day_of l day in
        let inner : k < length l.days = omega (arith, such) in
        let within : k < length roster = omega (arith, such, lawful.long) in
        let code = slice_index_or roster k 0 in
        let its = slice_get-get_or roster k 0 within in
        let (h, e) = (follows_itself l roster lawful).item k m code (slice_get-get_or l.days k [] inner) its in
        let low = (lightest_means m).every code h in
        let high = (heaviest_means m).every code h in
        let next : y (k + 1) ≡ y day = ap y (omega (arith, such)) in
        (omega (arith, ints), omega (arith, ints))

    -- and on the days of a rule in force by its least at the least and by its most at the most
    rule_span : (number : ℕ) → stands l.rules number ≡ true → (let r = numbered l.rules number in
        (pos r.least ≤ℤ (y r.last -ℤ y (r.first - 1))) × ((y r.last -ℤ y (r.first - 1)) ≤ℤ pos r.most))
    rule_span number on =
        let r = numbered l.rules number in
        let weight = stretch_weight l.days roster r in
        let within = rule_within number on in
        let split = stretch_total l.days roster r within.1 in
        let such : number - 1 < length l.rules = grind (arith, nat_tests) in
        let kept = lawful.kept (number - 1) no_rule such in
        let low : r.least ≤ weight = grind (arith, nat_tests) in
        let high : weight ≤ r.most = grind (arith, nat_tests) in
        (omega (arith, ints), omega (arith, ints))

    keeps_limit : (limit : Limit) → Has l limit → Keeps y (line_of l limit)
    keeps_limit (Most number) on = let span = rule_span number on in omega (arith, ints)
    keeps_limit (Least number) on = let span = rule_span number on in omega (arith, ints)
    keeps_limit (Heaviest day) such = let span = day_span day such in omega (arith, ints)
    keeps_limit (Lightest day) such = let span = day_span day such in omega (arith, ints)

  pub totals_start : (roster : Roster) → Lawful l roster → Starts s (λ mark. pos (total l.days roster mark))
  totals_start roster lawful =
      let y = totals_of l.days roster in
      ((λ k d lt. let (has, is) = represents.known k d lt in subst (Keeps y) (sym is) (keeps_limit roster lawful _ has)), refl)

  module _ (y : Totals) (starts : Starts s y) where
    pub lawful_of : (roster : Roster) → Follows l.days y roster → Lawful l roster
    lawful_of roster follows = record {
      long = follows.long;
      held = λ k d lt.
          let long = length-zip l.days roster in
          let inner : k < length l.days = omega (arith, clamps) in
          let within : k < length roster = omega (arith, clamps) in
          let day = slice_get-get_or l.days k d.0 inner in
          rw (get_or-zip l.days roster k d inner within) (follows.item k _ _ day (slice_get-get_or roster k d.1 within)).0;
      kept = All-from_get_or (λ r. keeps l.days roster r ≡ true) l.rules no_rule (λ i lt.
          let r = slice_index_or l.rules i no_rule in
          let same : numbered l.rules (i + 1) ≡ r = ap (λ k. slice_index_or l.rules k no_rule) (omega arith) in
          elim (cases_Bool r.in_force) [
            | inl on ↦ rw same at (kept (i + 1) (grind (arith, nat_tests)))
            | inr off ↦ grind arith
          ]);
    }
      where
        kept : (number : ℕ) → stands l.rules number ≡ true → keeps l.days roster (numbered l.rules number) ≡ true
        kept number on =
            let r = numbered l.rules number in
            let within = rule_within number on in
            let split = stretch_total l.days roster r within.1 in
            let first = total_is l.days y roster starts.1 follows (r.first - 1) (omega (arith, within)) in
            let last = total_is l.days y roster starts.1 follows r.last within.2 in
            let up = solution_keeps y starts.0 (Most number) on in
            let down = solution_keeps y starts.0 (Least number) on in
            let low : r.least ≤ stretch_weight l.days roster r = omega (arith, ints) in
            let high : stretch_weight l.days roster r ≤ r.most = omega (arith, ints) in
            grind (arith, nat_tests)

    pub roster_with : (k code : ℕ) (m : Meaning) → slice_get l.days k ≡ Some m → Weighs m (rise y k) code
        → (roster : Roster) × Follows l.days y roster × (slice_get roster k ≡ Some code)
    roster_with k code m day weighs =
        let inner = slice_get_within l.days k m day in
        let (roster, long, all) = pick_each (length l.days) Fits each in
        let its = slice_get-get_or roster k 0 (omega (arith, inner, long)) in
        let follows : Follows l.days y roster = record {
          long = long;
          item = λ j n c d its. subst (λ n. Weighs n (rise y j) c) (get_or_from_slice_get l.days j n [] d) (all j c its).1;
        } in
        (roster, follows, its ∙ ap Some ((all k _ its).0 refl))
      where
        -- as the code of the j-th day
        Fits : ℕ → ℕ → Type 0
        Fits j c = (j ≡ k → c ≡ code) × Weighs (slice_index_or l.days j []) (rise y j) c

        each : (j : ℕ) → j < length l.days → (c : ℕ) × Fits j c
        each j lt =
            elim (cases_eq j k) [
              | inl e ↦ (code, (λ _. refl, rw (e, get_or_from_slice_get l.days k m [] day) weighs))
              | inr apart ↦
                  let (c, fits) = reachable y starts j _ (slice_get-get_or l.days j [] lt) in
                  (c, (λ e. absurd (apart e), fits))
            ]
