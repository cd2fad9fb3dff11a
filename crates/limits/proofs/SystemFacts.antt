-- A system keeps its bounds when a day or a rule is added.
use Rattle.std.proofs.Common.{◌≡◌, ℕ, zero, suc, ◌+◌, ◌-◌, ◌*◌, ◌<◌, ◌≤◌, List, [], ◌∷◌, ◌++◌, All, length, ap, sym, ◌∙◌, subst, ⊎_elim, arith}
use Rattle.std.specs.Prelude.{ℤ, pos, ◌+ℤ◌, ◌≤ℤ◌}
use Rattle.std.proofs.Math.ListN.{get_or-append, length-append}
use Rattle.std.proofs.Math.Seq.{get_or-append_seam}
use Rattle.std.proofs.lemmas.Bool.{cases_lt}
use Rattle.std.proofs.lemmas.Int.{ints}
use Rattle.std.proofs.lemmas.List.{append_assoc}
use Rattle.std.proofs.lemmas.List.Elements.{All-append, All-cons, All-nil, All-weaker}
use Rattle.limits.specs.declared.link.Link.{Link}
use Rattle.limits.specs.Links.{Totals, Keeps, Solves, heaviest_of, lightest_of, most_of, least_of}
use Rattle.limits.specs.Systems.{System, Small, at_mark, days, raised, with_day, with_rule, Within, Step, Span, Bounds}

-- ---- totals that rise by weights
-- at a mark they are from 0 to 63 times the mark
pub climbs : (totals : List ℤ) → at_mark totals 0 ≡ pos 0 → (mark : ℕ) → ((k : ℕ) → k < mark → Step totals k)
    → (pos 0 ≤ℤ at_mark totals mark) × (at_mark totals mark ≤ℤ pos (63 * mark))
climbs totals start zero steps = (omega (arith, ints), omega (arith, ints))
climbs totals start (suc m) steps =
    let before = climbs totals start m (λ k h. steps k (omega arith)) in
    let step = steps m (omega arith) in
    let next : at_mark totals (m + 1) ≡ at_mark totals (suc m) = ap (at_mark totals) (omega arith) in
    (omega (arith, ints), omega (arith, ints))

-- no total of the days of a system is negative or above 8,064
pub totals_small : (s : System) → Bounds s → (mark : ℕ) → mark < length s.lightest
    → Small (at_mark s.lightest mark) × Small (at_mark s.heaviest mark)
totals_small s bounds mark h =
    let few = bounds.few in
    let low = climbs s.lightest (bounds.starts.0) mark (λ k lt. (bounds.steps k (omega (arith, bounds.marked))).0) in
    let high = climbs s.heaviest (bounds.starts.1) mark (λ k lt. (bounds.steps k (omega (arith, bounds.marked))).1) in
    ((omega (arith, ints), omega (arith, ints)), (omega (arith, ints), omega (arith, ints)))

module _ (totals : List ℤ) (weight : ℕ) (some : 1 ≤ length totals) where
  raised_long : length (raised totals weight) ≡ length totals + 1
  raised_long = length-append totals _

  raised_before : (mark : ℕ) → mark < length totals → at_mark (raised totals weight) mark ≡ at_mark totals mark
  raised_before mark h = get_or-append totals _ (pos 0) mark h

  -- at the mark after the last
  raised_last : (mark : ℕ) → mark + 1 ≡ length totals
      → at_mark (raised totals weight) (mark + 1) ≡ (at_mark totals mark +ℤ pos weight)
  raised_last mark e =
      ap (at_mark (raised totals weight)) e
      ∙ get_or-append_seam totals _ [] (pos 0)
      ∙ ap (λ k. at_mark totals k +ℤ pos weight) (omega arith)

  raised_steps : weight ≤ 63 → (mark : ℕ) → mark < length totals → ((k : ℕ) → k + 1 < length totals → Step totals k)
      → Step (raised totals weight) mark
  raised_steps small mark h steps = ⊎_elim inner last (cases_lt (mark + 1) (length totals))
    where
      here : at_mark (raised totals weight) mark ≡ at_mark totals mark
      here = raised_before mark h

      inner : mark + 1 < length totals → Step (raised totals weight) mark
      inner lt =
          let next = raised_before (mark + 1) lt in
          let step = steps mark lt in
          (omega (arith, ints, here), omega (arith, ints, here))

      last : length totals ≤ mark + 1 → Step (raised totals weight) mark
      last le =
          let next = raised_last mark (omega arith) in
          (omega (arith, ints, here), omega (arith, ints, here))

-- ---- solutions of more links
-- the front part
solves_front : (xs ys : List Link) (y : Totals) → Solves (xs ++ ys) y → Solves xs y
solves_front xs ys y all k d h = rw (← get_or-append xs ys d k h) (all k d (omega (arith, length-append xs ys)))

-- the link after it
solves_next : (xs : List Link) (l : Link) (ys : List Link) (y : Totals) → Solves (xs ++ l ∷ ys) y → Keeps y l
solves_next xs l ys y all =
    rw (← get_or-append_seam xs l ys l) (all (length xs) l (omega (arith, length-append xs (l ∷ ys))))

-- the second link after it
solves_after : (xs : List Link) (l m : Link) (y : Totals) → Solves (xs ++ l ∷ m ∷ []) y → Keeps y m
solves_after xs l m y all =
    solves_next (xs ++ l ∷ []) m [] y (subst (λ links. Solves links y) (sym (append_assoc xs (l ∷ []) (m ∷ []))) all)

within_two : (days : ℕ) (xs : List Link) (l m : Link) → All (Within days) xs → Within days l → Within days m
    → All (Within days) (xs ++ l ∷ m ∷ [])
within_two days xs l m all a b =
    All-append (Within days) xs (l ∷ m ∷ []) all
    (All-cons (Within days) l (m ∷ []) a (All-cons (Within days) m [] b (All-nil (Within days))))

-- ---- one day more
module _ (s : System) (lightest heaviest : ℕ) (low : lightest ≤ 63) (high : heaviest ≤ 63) (few : days s < 128) (bounds : Bounds s) where
  abbrev more : System
  more = with_day s lightest heaviest

  marked : (1 ≤ length s.lightest) × (1 ≤ length s.heaviest)
  marked = (omega (arith, bounds.marked), omega (arith, bounds.marked))

  one_more : days more ≡ days s + 1
  one_more = omega (arith, marked, raised_long s.lightest lightest (marked.0))

  -- links of fewer days are links of more
  within_more : (l : Link) → Within (days s) l → Within (days more) l
  within_more l (from, to, near) = (omega (arith, one_more), omega (arith, one_more), near)

  more_steps : (mark : ℕ) → mark < days more → Step more.lightest mark × Step more.heaviest mark
  more_steps mark h =
      let below : mark < length s.lightest = omega (arith, one_more, marked) in (
        raised_steps s.lightest lightest (marked.0) low mark below (λ k lt. (bounds.steps k (omega arith)).0),
        raised_steps s.heaviest heaviest (marked.1) high mark (omega (arith, below, bounds.marked)) (λ k lt. (bounds.steps k (omega (arith, bounds.marked))).1),
      )

  inner_span : (y : Totals) → Solves more.links y → (mark : ℕ) → mark < days s → Span more y mark
  inner_span y solves mark lt =
      let span = bounds.spans y (solves_front s.links _ y solves) mark lt in
      let a = raised_before s.lightest lightest (marked.0) mark (omega arith) in
      let b = raised_before s.lightest lightest (marked.0) (mark + 1) (omega arith) in
      let c = raised_before s.heaviest heaviest (marked.1) mark (omega (arith, bounds.marked)) in
      let d = raised_before s.heaviest heaviest (marked.1) (mark + 1) (omega (arith, bounds.marked)) in
      (omega (arith, ints), omega (arith, ints))

  last_span : (y : Totals) → Solves more.links y → Span more y (days s)
  last_span y solves =
      let a = raised_before s.lightest lightest (marked.0) (days s) (omega (arith, marked)) in
      let b = raised_last s.lightest lightest (marked.0) (days s) (omega (arith, marked)) in
      let c = raised_before s.heaviest heaviest (marked.1) (days s) (omega (arith, marked, bounds.marked)) in
      let d = raised_last s.heaviest heaviest (marked.1) (days s) (omega (arith, marked, bounds.marked)) in
      let up = solves_next s.links (heaviest_of (days s + 1) heaviest) _ y solves in
      let down = solves_after s.links (heaviest_of (days s + 1) heaviest) (lightest_of (days s + 1) lightest) y solves in
      let back : y (days s + 1 - 1) ≡ y (days s) = ap y (omega arith) in
      (omega (arith, ints), omega (arith, ints))

  more_spans : (y : Totals) → Solves more.links y → (mark : ℕ) → mark < days more → Span more y mark
  more_spans y solves mark h =
      ⊎_elim (inner_span y solves mark)
      (λ le. let e : mark ≡ days s = omega (arith, one_more) in rw e (last_span y solves))
      (cases_lt mark (days s))

  pub bounds_with_day : Bounds (with_day s lightest heaviest)
  bounds_with_day = record {
    marked = (omega (arith, one_more, marked), omega (arith, bounds.marked, raised_long s.lightest lightest (marked.0), raised_long s.heaviest heaviest (marked.1)));
    few = omega (arith, one_more);
    starts = (raised_before s.lightest lightest (marked.0) 0 (marked.0) ∙ bounds.starts.0, raised_before s.heaviest heaviest (marked.1) 0 (marked.1) ∙ bounds.starts.1);
    within = within_two (days more) s.links (heaviest_of (days s + 1) heaviest) (lightest_of (days s + 1) lightest)
        (All-weaker (Within (days s)) (Within (days more)) within_more s.links bounds.within)
        (omega (arith, one_more), omega (arith, one_more), (omega (arith, ints), omega (arith, ints)))
        (omega (arith, one_more), omega (arith, one_more), (omega (arith, ints), omega (arith, ints)));
    steps = more_steps;
    spans = more_spans;
  }

-- ---- one rule more
module _ (s : System) (number first last least most : ℕ) (bounds : Bounds s) where
  pub bounds_with_rule : 1 ≤ first → first ≤ last → last ≤ days s → least ≤ 8064 → most ≤ 8064 → Bounds (with_rule s number first last least most)
  bounds_with_rule some order inside low high = record {
    marked = bounds.marked;
    few = bounds.few;
    starts = bounds.starts;
    within = within_two (days s) s.links (most_of number first last most) (least_of number first last least) bounds.within
        (omega arith, omega arith, (omega (arith, ints), omega (arith, ints)))
        (omega arith, omega arith, (omega (arith, ints), omega (arith, ints)));
    steps = bounds.steps;
    spans = λ y solves. bounds.spans y (solves_front s.links _ y solves);
  }
