-- What the days alone allow.
use Rattle.std.proofs.Common.{◌≡◌, ℕ, zero, suc, ◌+◌, ◌-◌, ◌<◌, ◌≤◌, ℤ, pos, neg_ℤ, ◌-ℤ◌, ◌≤ℤ◌, List, ap, subst, ⊎_elim, arith}
use Rattle.std.proofs.lemmas.Bool.{cases_lt}
use Rattle.std.proofs.lemmas.Int.{ints}
use Rattle.limits.specs.Links.{Totals, Solves}
use Rattle.limits.specs.Systems.{System, at_mark, days, Bounds, marks}
use Rattle.limits.proofs.SystemFacts.{totals_small}
use Rattle.closure.specs.Rows.{DaysFrom}
use Rattle.closure.specs.Allowances.{row_of, cell, AllNear, Obeys}

module _ (s : System) (bounds : Bounds s) where
  module _ (y : Totals) (solves : Solves s.links y) where
    -- over several days a solution rises by what their lightest add up to at the least, by what their heaviest do at the most
    spans : (from gap : ℕ) → from + gap ≤ days s →
        ((at_mark s.lightest (from + gap) -ℤ at_mark s.lightest from) ≤ℤ (y (from + gap) -ℤ y from))
        × ((y (from + gap) -ℤ y from) ≤ℤ (at_mark s.heaviest (from + gap) -ℤ at_mark s.heaviest from))
    spans from zero h =
        let e : y (from + 0) ≡ y from = ap y (omega arith) in
        let low : at_mark s.lightest (from + 0) ≡ at_mark s.lightest from = ap (at_mark s.lightest) (omega arith) in
        let high : at_mark s.heaviest (from + 0) ≡ at_mark s.heaviest from = ap (at_mark s.heaviest) (omega arith) in
        (omega (arith, ints), omega (arith, ints))
    spans from (suc gap) h =
        let before = spans from gap (omega arith) in
        let day = bounds.spans y solves (from + gap) (omega arith) in
        let e : y (from + gap + 1) ≡ y (from + suc gap) = ap y (omega arith) in
        let low : at_mark s.lightest (from + gap + 1) ≡ at_mark s.lightest (from + suc gap) = ap (at_mark s.lightest) (omega arith) in
        let high : at_mark s.heaviest (from + gap + 1) ≡ at_mark s.heaviest (from + suc gap) = ap (at_mark s.heaviest) (omega arith) in
        (omega (arith, ints), omega (arith, ints))

    spans_between : (from to : ℕ) → from ≤ to → to ≤ days s →
        ((at_mark s.lightest to -ℤ at_mark s.lightest from) ≤ℤ (y to -ℤ y from))
        × ((y to -ℤ y from) ≤ℤ (at_mark s.heaviest to -ℤ at_mark s.heaviest from))
    spans_between from to order h =
        subst
        (λ mark. ((at_mark s.lightest mark -ℤ at_mark s.lightest from) ≤ℤ (y mark -ℤ y from)) × ((y mark -ℤ y from) ≤ℤ (at_mark s.heaviest mark -ℤ at_mark s.heaviest from)))
        (omega arith) (spans from (to - from) (omega arith))

    -- no total of a solution is more than 8,064 below another
    pub solution_near : (from to : ℕ) → from < marks s → to < marks s → neg_ℤ (pos 8064) ≤ℤ (y to -ℤ y from)
    solution_near from to hf ht =
        let a = totals_small s bounds from (omega (arith, bounds.marked)) in
        let b = totals_small s bounds to (omega (arith, bounds.marked)) in
        ⊎_elim
        (λ lt. let between = spans_between from to (omega arith) (omega arith) in omega (arith, ints))
        (λ le. let between = spans_between to from le (omega arith) in omega (arith, ints))
        (cases_lt from to)

  module _ (cells : List (List ℤ)) (done : (from : ℕ) → from < marks s → DaysFrom from s.lightest s.heaviest (row_of cells from)) where
    pub days_near : AllNear (marks s) (cell cells)
    days_near from to hf ht =
        let row = done from hf in
        let here = totals_small s bounds from (omega (arith, bounds.marked)) in
        let there = totals_small s bounds to (omega (arith, bounds.marked)) in
        ⊎_elim
        (λ before. let e = row.back to before in (omega (arith, ints), omega (arith, ints)))
        (λ after. let e = row.forth to after (omega (arith, bounds.marked)) in (omega (arith, ints), omega (arith, ints)))
        (cases_lt to from)

    pub days_diagonal : (mark : ℕ) → mark < marks s → cell cells mark mark ≤ℤ pos 0
    days_diagonal mark h = omega (arith, ints, (done mark h).forth mark (omega arith) (omega (arith, bounds.marked)))

    pub days_implied : (y : Totals) → Solves s.links y → Obeys (marks s) (cell cells) y
    days_implied y solves from to hf ht =
        let row = done from hf in
        ⊎_elim
        (λ before. let e = row.back to before in let between = spans_between y solves to from (omega arith) (omega arith) in omega (arith, ints))
        (λ after. let e = row.forth to after (omega (arith, bounds.marked)) in let between = spans_between y solves from to after (omega arith) in omega (arith, ints))
        (cases_lt to from)
