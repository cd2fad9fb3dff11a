-- The first of a list that fails a test, as `position` finds it, and lists where none fails.
use Rattle.std.proofs.Common.{◌≡◌, ℕ, ◌+◌, ◌<◌, ◌≤◌, Bool, true, false, not, List, [], ◌∷◌, length, map, slice_index_or, position, Some, None, Option, if◌then◌else◌, min, refl, inl, inr, ap, ◌∙◌, nat_lt, arith}
use Rattle.std.specs.List.{AllPass, prefix_len}
use Rattle.std.specs.Option.{option_map}
use Rattle.std.proofs.Math.Bool.{not-not}
use Rattle.std.proofs.lemmas.Bool.{ltb-true, cases_lt}
use Rattle.std.proofs.lemmas.Bool.Decides.{nat_tests}
use Rattle.std.proofs.lemmas.Grind.{common_steps}
use Rattle.std.proofs.lemmas.Int.{clamps}
use Rattle.std.proofs.lemmas.List.{length-map}
use Rattle.std.proofs.lemmas.List.Sums.{prefix_len_passes, prefix_len_stops}
use Rattle.ledger.specs.Ledgers.{failing, ends_within}
use Rattle.ledger.specs.Rules.{Book, no_rule}

counted : (b : Bool) (n : ℕ) → (b ≡ true → n < 4294967295)
    → option_map (λ i. min (i + 1) 4294967295) (if b then Some n else None) ≡ (if b then Some (n + 1) else None)
counted true n small = ap Some (omega (arith, clamps, small refl))
counted false n small = refl

-- an index counts from 0, the place from 1
pub failing_from_position : {X : Type 0} (test : X → Bool) (xs : List X) (index : Option ℕ)
    → length xs ≤ 4294967295 → index ≡ position (λ x. not (test x)) xs
    → option_map (λ i. min (i + 1) 4294967295) index ≡ failing test xs
failing_from_position test xs index few e =
    let n = prefix_len (λ x. not (not (test x))) xs in
    ap (option_map (λ i. min (i + 1) 4294967295)) e
    ∙ counted (nat_lt n (length xs)) n (λ lt. let below = ltb-true n (length xs) lt in omega arith)
    ∙ (λ i. failing (λ x. not-not (test x) i) xs)

-- where there is no first that fails, none fails
pub none_failing : {X : Type 0} (test : X → Bool) (xs : List X) → failing test xs ≡ None → AllPass test xs
none_failing test xs e k d lt =
    let long : length xs ≤ prefix_len test xs = grind (arith, common_steps) in
    prefix_len_passes test xs k d (omega arith)

-- and where none fails, there is none
pub passing_all : {X : Type 0} (test : X → Bool) (xs : List X) → AllPass test xs → failing test xs ≡ None
passing_all test [] all = refl
passing_all test (x ∷ xs) all =
    let n = prefix_len test (x ∷ xs) in
    elim (cases_lt n (length (x ∷ xs))) [
      | inl lt ↦ absurd (grind (arith, all n x lt, prefix_len_stops test (x ∷ xs) x lt))
      | inr past ↦ grind (arith, nat_tests)
    ]

-- the first of what items mean is that of the items
prefix_len-map : {X Y : Type 0} (f : X → Y) (test : Y → Bool) (xs : List X)
    → prefix_len (λ x. test (f x)) xs ≡ prefix_len test (map f xs)
prefix_len-map f test [] = refl
prefix_len-map f test (x ∷ xs) = ap (λ n. if test (f x) then 1 + n else 0) (prefix_len-map f test xs)

pub failing-map : {X Y : Type 0} (f : X → Y) (test : Y → Bool) (xs : List X) → failing (λ x. test (f x)) xs ≡ failing test (map f xs)
failing-map f test xs = cc (prefix_len-map f test xs, length-map xs f)

-- where no rule in force ends past the days, each ends within them
pub ends_inside : (rules : Book) (days : ℕ) → failing (ends_within days) rules ≡ None → (k : ℕ) → k < length rules
    → (slice_index_or rules k no_rule).in_force ≡ true → (slice_index_or rules k no_rule).last ≤ days
ends_inside rules days none k lt on =
    let ends = none_failing (ends_within days) rules none k no_rule lt in
    grind (arith, nat_tests)
