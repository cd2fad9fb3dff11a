-- The set operators on words: what the word of each result says of its members.
use Rattle.std.proofs.Common.{◌≡◌, ℕ, ◌-◌, ◌^◌, ◌<◌, ◌&&◌, arith}
use lib.Bits.{bit_and, bit_or, or_lt, and_le_l}
use Rattle.std.specs.Int.{w64}
use Rattle.std.proofs.lemmas.Nat.Bits.{bit_at_and, bit_at_or, bit_at_not}
use Rattle.std.proofs.lemmas.Bool.Decides.{nat_tests}
use Rattle.codes.specs.declared.set.CodeSet.{CodeSet}
use Rattle.codes.specs.Members.{member}
use Rattle.codes.specs.Words.{Union, Difference}
use Rattle.codes.proofs.Sets.{same_set, member_below}

pub word_or : (s t : CodeSet) → s.0 < 2 ^ 64 → t.0 < 2 ^ 64 → Union s t (record { 0 = bit_or s.0 t.0 })
unfolding member
word_or s t p q = record {
  each = λ k. grind (arith, nat_tests, bit_at_or);
  same = λ h. same_set _ s (or_lt 64 s.0 t.0 p q) p (λ k. grind (arith, nat_tests, bit_at_or, h k));
}

pub word_and : (s t : CodeSet) (code : ℕ) → member (record { 0 = bit_and s.0 t.0 }) code ≡ (member s code && member t code)
unfolding member
word_and s t code = grind (arith, nat_tests, bit_at_and)

pub word_less : (s t : CodeSet) → s.0 < 2 ^ 64 → t.0 < 2 ^ 64 → Difference s t (record { 0 = bit_and s.0 (2 ^ 64 - 1 - t.0) })
unfolding member
word_less s t p q = record {
  each = λ k. grind (arith, nat_tests, bit_at_and, bit_at_not w64);
  same = λ h. same_set _ s (omega (arith, and_le_l)) p (λ k. grind (arith, nat_tests, bit_at_and, bit_at_not w64, h k));
  below = member_below s;
}
