-- The lightest and the heaviest weight that an entry holds, worked out and by what they mean.
use Rattle.std.specs.Prelude.{◌≡◌, ℕ, ◌≤◌, min, max, true, false, List, [], ◌∷◌, map, fold, filter}
use Rattle.entry.specs.Cells.{Meaning, held, weigh}

-- the weights of the held codes
unfoldable pub held_weights : Meaning → List ℕ
held_weights m = map (λ cell. cell.weight) (filter (λ cell. cell.held) m)

-- some numbers, folded by a choice of one of two; 0 of none
unfoldable pub chosen : (ℕ → ℕ → ℕ) → List ℕ → ℕ
chosen pick [] = 0
chosen pick (n ∷ ns) = fold pick n ns

abbrev pub lightest : Meaning → ℕ
lightest m = chosen min (held_weights m)

abbrev pub heaviest : Meaning → ℕ
heaviest m = chosen max (held_weights m)

-- some held code weighs w, and w is ahead of the weight of each; 0 where no code is held
pub record Extreme (Ahead : ℕ → ℕ → Type 0) (m : Meaning) (w : ℕ) : Type 0 where
  pub none : ((c : ℕ) → held m c ≡ false) → w ≡ 0
  pub some : (c : ℕ) → held m c ≡ true → (k : ℕ) × (held m k ≡ true) × (weigh m k ≡ w)
  pub every : (c : ℕ) → held m c ≡ true → Ahead w (weigh m c)

-- no held code weighs less
abbrev pub Lightest : Meaning → ℕ → Type 0
Lightest = Extreme (λ w v. w ≤ v)

-- no held code weighs more
abbrev pub Heaviest : Meaning → ℕ → Type 0
Heaviest = Extreme (λ w v. v ≤ w)
