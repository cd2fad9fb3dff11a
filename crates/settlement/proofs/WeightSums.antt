-- What a roster weighs: its totals from mark to mark, and the stretch of a rule between two of them.
use Rattle.std.proofs.Common.{◌≡◌, ℕ, zero, suc, ◌+◌, ◌-◌, ◌≤◌, List, [], ◌∷◌, take, drop, sum_by, Some, slice_get, ap, refl, arith}
use Rattle.std.specs.List.{zip}
use Rattle.std.proofs.lemmas.Int.{clamps}
use Rattle.std.proofs.lemmas.List.{take-take, drop-take}
use Rattle.std.proofs.lemmas.List.Sums.{sum_by_more, sum_by-take-drop}
use Rattle.std.proofs.lemmas.Option.{slice_get_within, get_or_from_slice_get}
use Rattle.std.proofs.lemmas.Slice.Zip.{length-zip, get_or-zip}
use Rattle.entry.specs.Cells.{Meaning, weigh}
use Rattle.ledger.specs.declared.rule.Rule.{Rule}
use Rattle.ledger.specs.Rosters.{Roster, total, stretch_weight}

module _ {A B : Type 0} where
  zip-take : (n : ℕ) (xs : List A) (ys : List B) → zip (take n xs) (take n ys) ≡ take n (zip xs ys)
  zip-take zero xs ys = refl
  zip-take (suc n) [] ys = refl
  zip-take (suc n) (x ∷ xs) [] = refl
  zip-take (suc n) (x ∷ xs) (y ∷ ys) = ap (λ ps. (x, y) ∷ ps) (zip-take n xs ys)

  zip-nil : (xs : List A) → zip {X = B} xs [] ≡ []
  zip-nil [] = refl
  zip-nil (x ∷ xs) = refl

  zip-drop : (n : ℕ) (xs : List A) (ys : List B) → zip (drop n xs) (drop n ys) ≡ drop n (zip xs ys)
  zip-drop zero xs ys = refl
  zip-drop (suc n) [] ys = refl
  zip-drop (suc n) (x ∷ xs) [] = zip-nil (drop n xs)
  zip-drop (suc n) (x ∷ xs) (y ∷ ys) = zip-drop n xs ys

module _ (days : List Meaning) (roster : Roster) where
  abbrev weighs : Meaning × ℕ → ℕ
  weighs p = weigh p.0 p.1

  abbrev all : List (Meaning × ℕ)
  all = zip days roster

  total_front : (mark : ℕ) → total days roster mark ≡ sum_by weighs (take mark all)
  total_front mark = ap (sum_by weighs) (zip-take mark days roster)

  -- one day more
  pub total_more : (k code : ℕ) (m : Meaning) → slice_get days k ≡ Some m → slice_get roster k ≡ Some code
      → total days roster (k + 1) ≡ total days roster k + weigh m code
  total_more k code m day its =
      let inner = slice_get_within days k m day in
      let within = slice_get_within roster k code its in
      let long = length-zip days roster in
      let read = get_or-zip days roster k (m, code) inner within in
      let more = sum_by_more weighs all k (m, code) (omega (arith, clamps)) in
      cc (total_front k, total_front (k + 1), get_or_from_slice_get days k m m day, get_or_from_slice_get roster k code code its)

  -- what a rule's days weigh is what the totals rise by from the mark where they begin to the mark where they end
  pub stretch_total : (r : Rule) → r.first ≤ r.last
      → total days roster (r.first - 1) + stretch_weight days roster r ≡ total days roster r.last
  stretch_total r order =
      let from = r.first - 1 in
      let n = r.last - from in
      let front = take (from + n) all in
      let part = ap (λ ps. take n ps) (zip-drop from days roster) in
      let last : from + n ≡ r.last = omega arith in
      cc (
        sum_by-take-drop weighs front from,
        take-take from (from + n) all (omega arith),
        drop-take from n all,
        zip-take n (drop from days) (drop from roster),
        total_front from,
        total_front r.last,
      )
