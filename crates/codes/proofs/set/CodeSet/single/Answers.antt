use Rattle.std.proofs.Common.{arith}
use Rattle.std.proofs.lemmas.Nat.{one_shl}
use Rattle.std.proofs.lemmas.Nat.Bits.{bit_at-pow_same, bit_at-pow_other}
use Rattle.std.proofs.lemmas.Bool.Decides.{nat_tests}
use Rattle.codes.specs.Members.{member}
use Rattle.codes.proofs.set.CodeSet.single.Goals as goal

pub returns-then-code-lt64 : goal.returns-then-code-lt64
unfolding member
returns-then-code-lt64 c = λ k. grind (arith, nat_tests, one_shl c.args.code 64 c.if-code-lt64.true, bit_at-pow_same, bit_at-pow_other)
