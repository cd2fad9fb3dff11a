-- Sets of codes: the members make the set, its first code, the list of its members, and what its word says of them.
use Rattle.std.proofs.Common.{◌≡◌, ℕ, nat_eq, ◌^◌, ◌<◌, ◌==◌, ◌∙◌, Bool, true, false, not, ◌&&◌, ◌∷◌, length, filter, Contains, IsTrue, ◌↔◌, refl, ap, arith}
use lib.Count.{count_trailing_zeros, ones}
use Rattle.std.specs.Int.{w64}
use Rattle.std.specs.List.{range_with_len}
use Rattle.std.specs.Set.{is_member}
use Rattle.std.proofs.lemmas.Nat.{zero_from_ones, ones_le_self}
use Rattle.std.proofs.lemmas.Nat.Bits.{bit_at-zero, bit_at-trailing_zeros, same_from_bits_below}
use Rattle.std.proofs.lemmas.List.{nil_from_length}
use Rattle.std.proofs.lemmas.Bool.{cond-true, le-leb}
use Rattle.std.proofs.lemmas.Bool.Decides.{nat_tests, Decides-eqb, same_from_decides}
use Rattle.std.proofs.lemmas.Map.Made.{is_member-Decides}
use Rattle.codes.specs.declared.set.CodeSet.{CodeSet}
use Rattle.codes.specs.Members.{member, members, Listing}
use Rattle.codes.specs.Words.{WordOf}
use Rattle.codes.proofs.Listed.{ones_listed, first_and_rest, listed, listed_climbs}

-- no code is above 63
pub member_below : (s : CodeSet) (c : ℕ) → member s c ≡ true → c < 64
unfolding member
member_below s c t = grind (arith, nat_tests)

-- two sets with the same members are one
pub same_set : (s t : CodeSet) → s.0 < 2 ^ 64 → t.0 < 2 ^ 64 → ((c : ℕ) → member s c ≡ member t c) → s ≡ t
unfolding member
same_set s t p q same = ap (λ n. record { 0 = n }) (same_from_bits_below 64 s.0 t.0 p q (λ c low. grind (arith, nat_tests, same c)))

-- x is the first code of s
abbrev IsFirst : CodeSet → ℕ → Type 0
IsFirst s x = (member s x ≡ true) × ((c : ℕ) → c < x → member s c ≡ false)

-- where q passes the others, the list is x and then what q passes
pub first_and_others : (s : CodeSet) (x : ℕ) (q : ℕ → Bool) → IsFirst s x → ((c : ℕ) → q c ≡ (member s c && not (c == x))) → members s ≡ x ∷ filter q (range_with_len 0 64)
unfolding members
first_and_others s x q first others =
    let low = member_below s x first.0 in
    first_and_rest (member s) q 0 64 x low first.0 (λ c _. first.1 c) others ∙ cond-true _ _ _ (le-leb 0 x (omega arith))

-- the list has what the set has
members_listed : (s : CodeSet) (c : ℕ) → IsTrue (member s c) ↔ Contains (members s) c
unfolding members
members_listed s c = listed (member s) 64 c (member_below s c)

pub in_members : (s : CodeSet) (c : ℕ) → member s c ≡ is_member nat_eq (members s) c
in_members s c = same_from_decides _ _ (members_listed s c) (is_member-Decides Decides-eqb _ c)

pub listing : (s : CodeSet) → Listing s (members s)
unfolding members
listing s = record {
  all = refl;
  exact = members_listed s;
  rising = listed_climbs (member s) 0 64;
}

module _ (s : CodeSet) (fits : s.0 < 2 ^ 64) where
  -- the lowest digit of a word that is not 0 is the set's first code
  pub lowest : 0 < s.0 → IsFirst s (count_trailing_zeros 64 s.0)
  unfolding member
  lowest some = let z = bit_at-trailing_zeros w64 s.0 some fits in (grind (arith, nat_tests), λ c l. grind (arith, nat_tests, z.2 c))

  -- the word has as many digits that are set as the set has codes
  count : ones s.0 ≡ length (members s)
  unfolding member members
  count = ones_listed (member s) 0 64 s.0 fits (λ c l. grind (arith, nat_tests))

  -- what the word says of the members
  pub word_of : WordOf s s.0
  unfolding member
  word_of = record {
    digits = λ c. refl;
    none = (λ t c. grind (arith, nat_tests, bit_at-zero c), λ h. grind (arith, nat_tests, lowest, h (count_trailing_zeros 64 s.0)));
    nil = (λ t. grind (arith, nat_tests, nil_from_length, ones_le_self, count), λ e. grind (arith, nat_tests, zero_from_ones, count));
    count = count;
  }
