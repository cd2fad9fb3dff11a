-- What a listing of codes tells of its numbers.
use Rattle.std.proofs.Common.{◌≡◌, ℕ, nat_eq, ◌∙◌, Bool, true, false, List, [], ◌∷◌, Ok, Err, sym, refl, ap, inl, inr, arith}
use Rattle.std.specs.Cmp.{both_ways}
use Rattle.std.specs.Set.{is_member}
use Rattle.std.proofs.lemmas.Bool.{cases_Bool, false_from_ne_true, lt-ltb}
use Rattle.std.proofs.lemmas.Bool.Decides.{nat_tests}
use Rattle.codes.specs.declared.set.CodeSet.{CodeSet}
use Rattle.codes.specs.Members.{member, members, lists}
use Rattle.codes.proofs.Sets.{in_members, member_below}
use Rattle.entry.specs.Refusals.{row, topmost, answered}
use Rattle.kinds.specs.Codes.{any_code}
use Rattle.kinds.specs.Listings.{all_known, listing_rows, Listed}

module _ {X : Type 0} (known : ℕ → Bool) (ns : List ℕ) (x : X) where
  -- the answer of a call that a listing alone can refuse
  pub all_taken : all_known known ns ≡ true → answered (topmost (listing_rows known ns)) x ≡ Ok x
  all_taken t = rw t refl

  pub one_refused : all_known known ns ≡ false → answered (topmost (listing_rows known ns)) x ≡ Err (row 9)
  one_refused f = rw f refl

  pub taken_all : (y : X) → Ok y ≡ answered (topmost (listing_rows known ns)) x → (all_known known ns ≡ true) × (y ≡ x)
  taken_all y e =
      elim (cases_Bool (all_known known ns)) [
        | inl t ↦ (t, cc (all_taken t))
        | inr f ↦ absurd (cc (one_refused f))
      ]

-- of a listing with known codes alone, each code is known
pub listed-known : (known : ℕ → Bool) (ns : List ℕ) (c : ℕ) → all_known known ns ≡ true → lists ns c ≡ true → known c ≡ true
listed-known known [] c all t = cc
listed-known known (n ∷ ns) c all t = grind (arith, nat_tests, listed-known known ns c)

-- and where each listed number is known, all are
pub all_known-listed : (known : ℕ → Bool) (ns : List ℕ) → ((c : ℕ) → lists ns c ≡ true → known c ≡ true)
    → all_known known ns ≡ true
all_known-listed known [] each = refl
all_known-listed known (n ∷ ns) each =
    grind (arith, nat_tests, each n, all_known-listed known ns (λ c t. grind (arith, nat_tests, each c)))

-- one number that is not known is enough
pub unknown_listed : (known : ℕ → Bool) (ns : List ℕ) (n : ℕ) → lists ns n ≡ true → known n ≡ false
    → all_known known ns ≡ false
unknown_listed known ns n t u = false_from_ne_true (all_known known ns) (λ all. cc (listed-known known ns n all t))

-- two listings of the same numbers
module _ (ns ks : List ℕ) (same : (c : ℕ) → lists ns c ≡ lists ks c) where
  pub same_lists : lists ns ≡ lists ks
  same_lists i c = same c i

  pub same_known : (known : ℕ → Bool) → all_known known ns ≡ all_known known ks
  same_known known =
      both_ways _ _ (λ all. all_known-listed known ks (λ c t. listed-known known ns c all (same c ∙ t)))
      (λ all. all_known-listed known ns (λ c t. listed-known known ks c all (sym (same c) ∙ t)))

-- a list has the numbers that it lists
lists-is_member : (ns : List ℕ) (c : ℕ) → lists ns c ≡ is_member nat_eq ns c
lists-is_member [] c = refl
lists-is_member (n ∷ ns) c = grind (arith, nat_tests, lists-is_member ns c)

-- the list of a set's members lists them and no other number
pub lists-members : (s : CodeSet) (c : ℕ) → lists (members s) c ≡ member s c
lists-members s c = lists-is_member (members s) c ∙ sym (in_members s c)

-- each of them is a code
pub members_known : (s : CodeSet) → all_known any_code (members s) ≡ true
members_known s =
    all_known-listed any_code (members s) (λ c t. lt-ltb c 64 (member_below s c (sym (lists-members s c) ∙ t)))

-- and any listing of the set lists what it does
pub members_again : (known : ℕ → Bool) (ns : List ℕ) (s : CodeSet) → Listed known ns (Ok s)
    → (c : ℕ) → lists (members s) c ≡ lists ns c
members_again known ns s listed c =
    lists-members s c ∙ ap (λ f. f c) (taken_all known ns (lists ns) (member s) listed).1
