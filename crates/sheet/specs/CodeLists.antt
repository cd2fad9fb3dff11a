-- What is kept of a list of numbers.
use Rattle.std.specs.Prelude.{◌≡◌, ℕ, Bool, false, ◌&&◌, ◌||◌, nat_lt, List, [], ◌∷◌}
use Rattle.codes.specs.Members.{member, lists}
use Rattle.sheet.specs.declared.code_list.CodeList.{CodeList}

-- some number is above the codes
abbrev pub goes_above : List ℕ → Bool
goes_above [] = false
goes_above (n ∷ ns) = nat_lt 63 n || goes_above ns

-- what is kept: the codes among the numbers, and whether some number is none
pub record Lists (kept : CodeList) (ns : List ℕ) : Type 0 where
  pub codes : (c : ℕ) → member kept.codes c ≡ (nat_lt c 64 && lists ns c)
  pub above : kept.goes_above ≡ goes_above ns
