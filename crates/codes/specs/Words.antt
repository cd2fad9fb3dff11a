-- What a set's word says of its members, and what the set operators give. Only this crate's own code cites it.
use Rattle.std.specs.Prelude.{◌≡◌, ℕ, ◌<◌, true, false, not, ◌&&◌, ◌||◌, [], length, IsTrue, ◌↔◌, ◌==◌, count_ones, nat_lt}
use Rattle.codes.specs.declared.set.CodeSet.{CodeSet}
use Rattle.codes.specs.Members.{bit, member, members}

-- what the word of a set says of its members
pub record WordOf (s : CodeSet) (word : ℕ) : Type 0 where
  pub digits : (c : ℕ) → member s c ≡ (nat_lt c 64 && bit word c)
  pub none : IsTrue (word == 0) ↔ ((c : ℕ) → member s c ≡ false)
  pub nil : IsTrue (word == 0) ↔ (members s ≡ [])
  pub count : count_ones word ≡ length (members s)

-- r has the codes of s and those of t; where those of t are all in s, it is s
pub record Union (s t r : CodeSet) : Type 0 where
  pub each : (c : ℕ) → member r c ≡ (member s c || member t c)
  pub same : ((c : ℕ) → member t c ≡ true → member s c ≡ true) → r ≡ s

-- r has the codes of s that are not in t; where none of t is in s, it is s
pub record Difference (s t r : CodeSet) : Type 0 where
  pub each : (c : ℕ) → member r c ≡ (member s c && not (member t c))
  pub same : ((c : ℕ) → member t c ≡ true → member s c ≡ false) → r ≡ s
  pub below : (c : ℕ) → member s c ≡ true → c < 64
