-- A loop over the codes of a set: what came, and then what is to come, is the whole list.
use Rattle.std.proofs.Common.{◌≡◌, ℕ, List, [], ◌∷◌, ◌++◌}
use Rattle.std.specs.Iterator.{Yields}
use Rattle.codes.specs.declared.iter.Codes.{Codes}
use Rattle.codes.specs.Coming.{coming, Gives}

pub came : (i : Codes) (xs : List ℕ) (j : Codes) → Yields Gives i xs j → coming i ≡ xs ++ coming j
came i [] j y = cc
came i (x ∷ xs) j (k, step, y) = cc (came k xs j y)
