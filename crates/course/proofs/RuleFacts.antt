-- What adding and withdrawing rules makes of a book.
use Rattle.std.specs.Prelude.{◌≡◌, ℕ, zero, suc, ◌+◌, ◌-◌, ◌*◌, ◌<◌, ◌≤◌, false, if◌then◌else◌, ◌==◌, List, [], ◌∷◌, ◌++◌, length, Some, None, Ok, refl}
use Rattle.std.proofs.Common.{ap, ◌∙◌, arith}
use Rattle.std.specs.List.{range_with_len, All}
use Rattle.std.proofs.lemmas.List.FromFn.{length-map-range_with_len, get_or-map-range_with_len}
use Rattle.std.proofs.lemmas.List.Elements.{All-from_get_or}
use Rattle.std.proofs.lemmas.Bool.Decides.{nat_tests}
use Rattle.std.proofs.lemmas.Grind.{common_steps}
use Rattle.ledger.specs.declared.rule.Rule.{Rule}
use Rattle.ledger.specs.Ledgers.{ranging}
use Rattle.ledger.specs.Rules.{made, windows, no_rule, stands, withdrawn}
use Rattle.course.specs.Runs.{given_by, FitsPlan}

-- each window of the days fits
pub windows_fit : (days top width least most : ℕ) → 0 < width → least ≤ most → most ≤ top * width
    → All (FitsPlan days top) (windows (days + 1 - width) width least most)
windows_fit days top width least most wide order can =
    let count = days + 1 - width in
    let rule : ℕ → Rule = λ first. made first (first + width - 1) least most in
    let long = length-map-range_with_len rule 1 count in
    All-from_get_or (FitsPlan days top) (windows count width least most) no_rule
    (λ i h.
    let back : i + 1 + width - 1 - (i + 1) + 1 ≡ width = omega arith in
    rw (get_or-map-range_with_len rule 1 count i (i + 1) no_rule (omega arith) (omega arith))
    (λ _. (omega arith, omega arith, omega arith, order, rw back can)))

-- counting on from where a count ends
pub counting_on : (a n b m : ℕ) → a + n ≡ b → range_with_len a n ++ range_with_len b m ≡ range_with_len a (n + m)
counting_on a zero b m e = let from : b ≡ a = omega arith in let all : m ≡ zero + m = omega arith in cc
counting_on a (suc n) b m e =
    let all : suc (n + m) ≡ suc n + m = omega arith in
    ap (λ rest. a ∷ rest) (counting_on (a + 1) n b m (omega arith)) ∙ ap (range_with_len a) all

-- the numbers that a slide gives out
pub given_range : (n more : ℕ)
    → given_by (Ok (ranging (if more == 0 then None else Some (n + 1, n + more)))) ≡ range_with_len (n + 1) more
given_range n more = let all : n + more + 1 - (n + 1) ≡ more = omega arith in grind (arith, nat_tests)

module _ (rules : List Rule) where
  -- where there are as many rules as before, no number is given out
  pub none_given : (n : ℕ) → length rules ≡ n → [] ≡ range_with_len (n + 1) (length rules - n)
  none_given n e = let none : length rules - n ≡ 0 = omega arith in rw none refl

  -- a number that no rule in force has gets none by an addition, nor by a withdrawal
  pub stands-append : (new : List Rule) (number : ℕ) → number ≤ length rules
      → stands rules number ≡ false → stands (rules ++ new) number ≡ false
  stands-append new number le off = grind (arith, nat_tests, common_steps)

  pub stands-withdrawn : (n number : ℕ) → stands rules number ≡ false → stands (withdrawn rules n) number ≡ false
  stands-withdrawn n number off = grind (arith, nat_tests, common_steps)
