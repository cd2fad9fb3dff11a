-- Two of more numbers than there are places are the same.
use Rattle.std.proofs.Common.{◌≡◌, ℕ, zero, suc, pred, ◌<◌, ◌≤◌, cond, ltb, ◌⊎◌, ap, sym, ◌∙◌, inl, inr, ⊎_elim, arith}
use Rattle.std.proofs.lemmas.Bool.{cases_eq}
use Rattle.std.proofs.lemmas.Bool.Decides.{nat_tests}

-- some number up to n that f takes to x, or none
seek : (n : ℕ) (f : ℕ → ℕ) (x : ℕ) → ((i : ℕ) × (i ≤ n) × (f i ≡ x)) ⊎ ((i : ℕ) → i ≤ n → f i ≡ x → ⊥)
seek zero f x = ⊎_elim
    (λ e. inl (0, omega arith, e))
    (λ d. inr (λ i h e. let z : i ≡ 0 = omega arith in d (ap f (sym z) ∙ e)))
    (cases_eq (f 0) x)
seek (suc n) f x = ⊎_elim
    (λ e. inl (suc n, omega arith, e))
    (λ d. ⊎_elim (λ p. inl (p.0, omega (arith, p.1), p.2)) (λ none. inr (more d none)) (seek n f x))
    (cases_eq (f (suc n)) x)
  where
    more : (f (suc n) ≡ x → ⊥) → ((i : ℕ) → i ≤ n → f i ≡ x → ⊥) → (i : ℕ) → i ≤ suc n → f i ≡ x → ⊥
    more d none i h e = ⊎_elim (λ z. d (ap f (sym z) ∙ e)) (λ z. none i (omega (arith, z)) e) (cases_eq i (suc n))

-- the numbers but x, moved together
abbrev closer : ℕ → ℕ → ℕ
closer x y = cond (ltb y x) y (pred y)

-- where f takes the last number alone to its place, the places of the others move together
module _ (n : ℕ) (f : ℕ → ℕ) where
  abbrev last : ℕ
  last = f (suc (suc n))

  abbrev Alone : Type 0
  Alone = (i : ℕ) → i ≤ suc n → f i ≡ last → ⊥

  -- the moved numbers are up to n
  small : ((i : ℕ) → i ≤ suc (suc n) → f i ≤ suc n) → Alone → (i : ℕ) → i ≤ suc n → closer last (f i) ≤ n
  small h alone i hi =
      let a = h i (omega arith) in let b = h (suc (suc n)) (omega arith) in let c = alone i hi in grind (arith, nat_tests)

  -- numbers other than x that move to the same place are the same
  same : (x y z : ℕ) → (y ≡ x → ⊥) → (z ≡ x → ⊥) → closer x y ≡ closer x z → y ≡ z
  same x y z c d e = grind (arith, nat_tests)

-- two of n + 2 numbers up to n are the same
pub pigeons : (n : ℕ) (f : ℕ → ℕ) → ((i : ℕ) → i ≤ suc n → f i ≤ n) → (i : ℕ) × (j : ℕ) × (i < j) × (j ≤ suc n) × (f i ≡ f j)
pigeons zero f h = (0, 1, omega arith, omega arith, omega (arith, h 0 (omega arith), h 1 (omega arith)))
pigeons (suc n) f h = ⊎_elim
    (λ p. (p.0, suc (suc n), omega (arith, p.1), omega arith, p.2))
    (λ alone. lift alone (pigeons n (λ i. closer (last n f) (f i)) (small n f h alone)))
    (seek (suc n) f (last n f))
  where
    lift : Alone n f → ((i : ℕ) × (j : ℕ) × (i < j) × (j ≤ suc n) × (closer (last n f) (f i) ≡ closer (last n f) (f j)))
        → (i : ℕ) × (j : ℕ) × (i < j) × (j ≤ suc (suc n)) × (f i ≡ f j)
    lift alone (i, j, l, m, e) = (i, j, l, omega arith, same n f (last n f) (f i) (f j) (alone i (omega arith)) (alone j m) e)
