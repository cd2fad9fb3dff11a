-- The places of a range that pass a test, as a list in rising order: the first of them, the others, and how many there are.
use Rattle.std.proofs.Common.{◌≡◌, ℕ, zero, suc, ◌+◌, ◌/◌, ◌^◌, ◌<◌, ◌≤◌, ◌==◌, ◌↔◌, nat_le, if◌then◌else◌, Bool, true, false, not, ◌&&◌, List, [], ◌∷◌, length, filter, Contains, IsTrue, ◌∙◌, pow-suc, zero-add, arith}
use lib.Count.{ones, ones_step}
use Rattle.std.specs.List.{range_with_len}
use Rattle.std.specs.List.Sorted.{IsStrictlyIncreasing}
use Rattle.std.proofs.lemmas.Nat.{ones_le_self}
use Rattle.std.proofs.lemmas.Nat.Bits.{bit_at_lowest, bit_at-suc}
use Rattle.std.proofs.lemmas.List.FromFn.{length-range_with_len, get_or-range_with_len}
use Rattle.std.proofs.lemmas.List.Elements.{Contains-append_right, All-contains, filter_passes}
use Rattle.std.proofs.lemmas.Bool.{cond_both}
use Rattle.std.proofs.lemmas.List.Kept.{IsStrictlyIncreasing-filter}
use Rattle.std.proofs.lemmas.Bool.Decides.{nat_tests}
use Rattle.codes.specs.Members.{bit}

-- where the places from a on pass as the digits of n say, as many are listed as digits are set
pub ones_listed : (p : ℕ → Bool) (a k n : ℕ) → n < 2 ^ k → ((c : ℕ) → c < k → p (a + c) ≡ bit n c) → ones n ≡ length (filter p (range_with_len a k))
ones_listed p a zero n fits reads = omega (arith, ones_le_self n)
ones_listed p a (suc k) n fits reads =
    let rest = ones_listed p (a + 1) k (n / 2) (omega (arith, pow-suc 2 k)) (λ c l. grind (arith, reads (suc c), bit_at-suc)) in
    grind (arith, nat_tests, ones_step n, reads 0, bit_at_lowest)

-- where x is the first place that passes, and q passes the others: from a on p lists x, unless a is past it, and then what q lists
pub first_and_rest : (p q : ℕ → Bool) (a k x : ℕ) → x < a + k → p x ≡ true → ((c : ℕ) → a ≤ c → c < x → p c ≡ false)
    → ((c : ℕ) → q c ≡ (p c && not (c == x)))
    → filter p (range_with_len a k) ≡ if nat_le a x then x ∷ filter q (range_with_len a k) else filter q (range_with_len a k)
first_and_rest p q a zero x low here none others = grind (arith, nat_tests)
first_and_rest p q a (suc k) x low here none others =
    let rest = first_and_rest p q (a + 1) k x (omega arith) here (λ c l. none c (omega arith)) others in
    grind (arith, nat_tests, others a, none a)

-- what passes stays in a list
filter_keeps : (p : ℕ → Bool) (xs : List ℕ) (x : ℕ) → p x ≡ true → Contains xs x → Contains (filter p xs) x
filter_keeps p [] x t (k, l, e) = absurd (omega arith)
filter_keeps p (y ∷ ys) x t (zero, l, e) = let here : p y ≡ true = rw e t in rw here (zero, omega arith, e)
filter_keeps p (y ∷ ys) x t (suc k, l, e) =
    let later = filter_keeps p ys x t (k, omega arith, e) in
    cond_both (p y) (y ∷ filter p ys) (filter p ys) (λ zs. Contains zs x) (λ _. Contains-append_right (y ∷ []) (filter p ys) x later) (λ _. later)

-- the list has the places below k that pass, and no other
pub listed : (p : ℕ → Bool) (k c : ℕ) → (p c ≡ true → c < k) → IsTrue (p c) ↔ Contains (filter p (range_with_len 0 k)) c
listed p k c below =
    let all = range_with_len 0 k in (
      λ t.
          let h = below t in
          filter_keeps p all c t (c, rw length-range_with_len h, get_or-range_with_len 0 k c c h ∙ zero-add c),
      λ h. All-contains (λ x. p x ≡ true) (filter p all) c (filter_passes p all) h,
    )

-- the list rises
pub listed_climbs : (p : ℕ → Bool) (a k : ℕ) → IsStrictlyIncreasing (filter p (range_with_len a k))
listed_climbs p a k = IsStrictlyIncreasing-filter p _ (λ i h. grind (arith, length-range_with_len, get_or-range_with_len))
