-- Which codes a set has as members, and the list of them in rising order.
use Rattle.std.specs.Prelude.{◌≡◌, ℕ, ◌/◌, ◌%◌, ◌^◌, Bool, false, ◌&&◌, ◌||◌, List, [], ◌∷◌, IsTrue, ◌↔◌, Contains, filter, ◌==◌, nat_lt}
use Rattle.std.specs.List.{range_with_len}
use Rattle.std.specs.List.Sorted.{IsStrictlyIncreasing}
use Rattle.codes.specs.declared.set.CodeSet.{CodeSet}

-- the binary digit of n at place c
abbrev pub bit : ℕ → ℕ → Bool
bit n c = n / 2 ^ c % 2 == 1

-- a code above 63 is in no set
unfoldable pub member : CodeSet → ℕ → Bool
member s c = nat_lt c 64 && bit s.0 c

unfoldable pub members : CodeSet → List ℕ
members s = filter (member s) (range_with_len 0 64)

-- c is one of the numbers of a list
abbrev pub lists : List ℕ → ℕ → Bool
lists [] c = false
lists (n ∷ ns) c = c == n || lists ns c

-- xs has the members of s and no other code, and rises
pub record Listing (s : CodeSet) (xs : List ℕ) : Type 0 where
  pub all : xs ≡ members s
  pub exact : (c : ℕ) → (IsTrue (member s c) ↔ Contains xs c)
  pub rising : IsStrictlyIncreasing xs
