-- Rosters whose codes weigh on each day what some totals rise by.
use Rattle.std.proofs.Common.{◌≡◌, ℕ, zero, suc, ◌+◌, ◌<◌, ◌≤◌, List, [], ◌∷◌, length, slice_index_or, slice_get, Some, refl, ap, sym, ◌∙◌, subst, inl, inr, arith}
use Rattle.std.specs.Prelude.{ℤ, pos, negsuc, ◌≤ℤ◌}
use Rattle.std.proofs.lemmas.Bool.{cases_eq}
use Rattle.std.proofs.lemmas.Int.{ints, clamps}
use Rattle.std.proofs.lemmas.Option.{slice_get_within, get_or_from_slice_get, slice_get-get_or, same_Some}
use Rattle.std.proofs.lemmas.Slice.Zip.{length-zip, get_or-zip}
use Rattle.entry.specs.Cells.{Meaning, Holds, NoGap}
use Rattle.entry.specs.Weights.{lightest, heaviest}
use Rattle.entry.proofs.Weighing.{lightest_means, heaviest_means}
use Rattle.ledger.specs.Ledgers.{Ledger}
use Rattle.ledger.specs.Rosters.{Roster, Lawful, total}
use Rattle.limits.specs.Links.{Totals}
use Rattle.settlement.specs.Choices.{rise, Weighs, Daily}
use Rattle.settlement.proofs.WeightSums.{total_more}

-- the roster has on each day a held code that weighs what the totals rise by
abbrev pub Follows : List Meaning → Totals → Roster → Type 0
Follows days y = Daily (λ k m code. Weighs m (rise y k) code) days (length days)

-- so its totals are those
pub total_is : (days : List Meaning) (y : Totals) (roster : Roster) → y 0 ≡ pos 0 → Follows days y roster
    → (mark : ℕ) → mark ≤ length days → pos (total days roster mark) ≡ y mark
total_is days y roster start follows zero le = sym start
total_is days y roster start follows (suc k) le =
    let m = slice_index_or days k [] in
    let code = slice_index_or roster k 0 in
    let day = slice_get-get_or days k [] (omega arith) in
    let its = slice_get-get_or roster k 0 (omega (arith, follows.long)) in
    let before = total_is days y roster start follows k (omega arith) in
    let more = total_more days roster k code m day its in
    let weighs = (follows.item k m code day its).1 in
    let next : k + 1 ≡ suc k = omega arith in
    subst (λ mark. pos (total days roster mark) ≡ y mark) next (omega (arith, ints))

abbrev pub totals_of : List Meaning → Roster → Totals
totals_of days roster = λ mark. pos (total days roster mark)

-- a lawful roster's codes weigh what its totals rise by
pub follows_itself : (l : Ledger) (roster : Roster) → Lawful l roster → Follows l.days (totals_of l.days roster) roster
follows_itself l roster lawful = record {
  long = lawful.long;
  item = λ k m code day its.
      let inner = slice_get_within l.days k m day in
      let within = slice_get_within roster k code its in
      let long = length-zip l.days roster in
      let read = get_or-zip l.days roster k (m, code) inner within in
      let passes = lawful.held k (m, code) (omega (arith, clamps)) in
      let more = total_more l.days roster k code m day its in
      (cc (get_or_from_slice_get l.days k m m day, get_or_from_slice_get roster k code code its), omega (arith, ints));
}

-- each number from the lightest to the heaviest is a held code's weight
pub attains : (m : Meaning) → NoGap m → Holds m
    → (z : ℤ) → pos (lightest m) ≤ℤ z → z ≤ℤ pos (heaviest m) → (code : ℕ) × Weighs m z code
attains m gapless some (negsuc n) low high = absurd (omega (arith, ints))
attains m gapless some (pos w) low high =
    let (a, h, e) = (lightest_means m).some some.0 some.1 in
    let (b, i, f) = (heaviest_means m).some some.0 some.1 in
    elim (cases_eq w (lightest m)) [
      | inl same ↦ (a, (h, ap pos (e ∙ sym same)))
      | inr apart ↦ elim (cases_eq w (heaviest m)) [
        | inl same ↦ (b, (i, ap pos (f ∙ sym same)))
        | inr under ↦ let (c, j, g) = gapless a b w h i (omega (arith, ints)) (omega (arith, ints)) in (c, (j, ap pos g))
      ]
    ]

-- a code for each day
pub pick_each : (n : ℕ) (P : ℕ → ℕ → Type 0) → ((k : ℕ) → k < n → (code : ℕ) × P k code)
    → (roster : Roster) × (length roster ≡ n) × ((k code : ℕ) → slice_get roster k ≡ Some code → P k code)
pick_each zero P each = ([], refl, λ k code e. cc)
pick_each (suc n) P each =
    let (code, p) = each 0 (omega arith) in
    let (roster, long, all) = pick_each n (λ k. P (suc k)) (λ k lt. each (suc k) (omega arith)) in
    (code ∷ roster, ap suc long, elim [ zero ↦ λ c e. subst (P 0) (same_Some code c e) p | suc k ↦ all k ])
