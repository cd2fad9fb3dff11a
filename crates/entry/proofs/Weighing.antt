-- The lightest and the heaviest weight that are worked out are those by what they mean, which no others are.
use Rattle.std.proofs.Common.{◌≡◌, ℕ, zero, suc, ◌≤◌, min, max, Bool, true, false, ◌⊎◌, [], ◌∷◌, fold, sym, subst, ◌∙◌, refl, inl, inr, arith}
use Rattle.std.proofs.lemmas.Bool.{cases_Bool}
use Rattle.entry.specs.Cells.{Cell, Meaning, weigh, held}
use Rattle.entry.specs.Weights.{held_weights, chosen, lightest, heaviest, Extreme, Lightest, Heaviest}

-- a held code's weight, ahead of that of each held code
pub attained : {Ahead : ℕ → ℕ → Type 0} {m : Meaning} {w : ℕ} (k : ℕ) → held m k ≡ true → weigh m k ≡ w → ((c : ℕ) → held m c ≡ true → Ahead w (weigh m c)) → Extreme Ahead m w
attained k h e every = record { none = λ never. cc (never k); some = λ _ _. (k, h, e); every = every }

-- where each held code weighs 0, as where none is held
pub weightless : (m : Meaning) → ((c : ℕ) → held m c ≡ true → weigh m c ≡ 0) → Lightest m 0 × Heaviest m 0
weightless m weighs = (
  record { none = λ _. refl; some = λ c t. (c, t, weighs c t); every = λ c t. omega arith },
  record { none = λ _. refl; some = λ c t. (c, t, weighs c t); every = λ c t. omega (arith, weighs c t) },
)

abbrev cell : ℕ → Bool → Cell
cell weight holds = record { weight = weight; held = holds }

-- which codes are held, none or some
any_held : (m : Meaning) → ((c : ℕ) → held m c ≡ false) ⊎ ((c : ℕ) × (held m c ≡ true))
any_held [] = inl (λ c. refl)
any_held (x ∷ m) =
    elim (cases_Bool x.held) [
      | inl h ↦ inr (0, h)
      | inr h ↦ elim (any_held m) [ inl never ↦ inl (elim [ zero ↦ h | suc c ↦ never c ]) | inr found ↦ inr (suc found.0, found.1) ]
    ]

-- no two weights are
one_extreme : {Ahead : ℕ → ℕ → Type 0} → ((a b : ℕ) → Ahead a b → Ahead b a → a ≡ b)
    → (m : Meaning) (w v : ℕ) → Extreme Ahead m w → Extreme Ahead m v → w ≡ v
one_extreme {Ahead} same m w v p q =
    elim (any_held m) [
      | inl never ↦ p.none never ∙ sym (q.none never)
      | inr (c, h) ↦
          let (k, s, e) = p.some c h in
          let (j, t, f) = q.some c h in
          same w v (subst (Ahead w) f (p.every j t)) (subst (Ahead v) e (q.every k s))
    ]

-- some held code weighs w
abbrev Weighs : Meaning → ℕ → Type 0
Weighs m w = (k : ℕ) × (held m k ≡ true) × (weigh m k ≡ w)

-- and does where there is one cell more after the first
later : (x y : Cell) (m : Meaning) (w : ℕ) → Weighs (x ∷ m) w → Weighs (x ∷ y ∷ m) w
later x y m w (zero, h, e) = (0, h, e)
later x y m w (suc k, h, e) = (suc (suc k), h, e)

-- where one of two weights is picked that is ahead of both
module _ (pick : ℕ → ℕ → ℕ) (Ahead : ℕ → ℕ → Type 0)
    (picks : (a b : ℕ) → Ahead (pick a b) a × Ahead (pick a b) b × ((pick a b ≡ a) ⊎ (pick a b ≡ b)))
    (level : (a : ℕ) → Ahead a a) (onward : (a b c : ℕ) → Ahead a b → Ahead b c → Ahead a c) where
  -- of a held code's weight and of those of the codes after it
  abbrev Folded : ℕ → Meaning → Type 0
  Folded n m = Extreme Ahead (cell n true ∷ m) (fold pick n (held_weights m))

  one_more : (n v : ℕ) (holds : Bool) (m : Meaning) → ((k : ℕ) → Folded k m) → Folded n (cell v holds ∷ m)
  unfolding held_weights
  one_more n v true m rest =
      let k = pick n v in
      let p = rest k in
      let (first, second, one) = picks n v in
      let ahead = λ (a : ℕ). onward _ k a (p.every 0 refl) in
      let weighs : ℕ → Type 0 = λ a. Weighs (cell a true ∷ m) (fold pick k (held_weights m)) in
      let found : weighs k = p.some 0 refl in
      record {
        none = λ never. cc (never 0);
        some = λ _ _. elim one [
          | inl e ↦ later _ _ m _ (subst weighs e found)
          | inr e ↦ let (j, h, f) = subst weighs e found in (suc j, h, f)
        ];
        every = elim [ zero ↦ λ _. ahead n first | suc zero ↦ λ _. ahead v second | suc (suc c) ↦ p.every (suc c) ];
      }
  one_more n v false m rest =
      let p = rest n in
      record {
        none = λ never. cc (never 0);
        some = λ _ _. later _ _ m _ (p.some 0 refl);
        every = elim [ zero ↦ p.every 0 | suc zero ↦ λ h. cc | suc (suc c) ↦ p.every (suc c) ];
      }

  folded : (m : Meaning) (n : ℕ) → Folded n m
  unfolding held_weights
  folded [] n = attained 0 refl refl (elim [ zero ↦ λ _. level n | suc c ↦ λ h. cc ])
  folded (x ∷ m) n = one_more n x.weight x.held m (folded m)

  from_first : (v : ℕ) (holds : Bool) (m : Meaning) → Extreme Ahead m (chosen pick (held_weights m))
      → Extreme Ahead (cell v holds ∷ m) (chosen pick (held_weights (cell v holds ∷ m)))
  unfolding held_weights chosen
  from_first v true m rest = folded m v
  from_first v false m rest = record {
    none = λ never. rest.none (λ c. never (suc c));
    some = elim [ zero ↦ λ h. cc | suc c ↦ λ h. let (k, t, e) = rest.some c h in (suc k, t, e) ];
    every = elim [ zero ↦ λ h. cc | suc c ↦ rest.every c ];
  }

  chosen_means : (m : Meaning) → Extreme Ahead m (chosen pick (held_weights m))
  unfolding held_weights chosen
  chosen_means [] = record { none = λ _. refl; some = λ c h. cc; every = λ c h. cc }
  chosen_means (x ∷ m) = from_first x.weight x.held m (chosen_means m)

pub lightest_means : (m : Meaning) → Lightest m (lightest m)
lightest_means =
    chosen_means min (λ w v. w ≤ v) (λ a b. (omega arith, omega arith, grind arith)) (λ a. omega arith)
    (λ a b c p q. omega arith)

pub heaviest_means : (m : Meaning) → Heaviest m (heaviest m)
heaviest_means =
    chosen_means max (λ w v. v ≤ w) (λ a b. (omega arith, omega arith, grind arith)) (λ a. omega arith)
    (λ a b c p q. omega arith)

pub lightest_is : (m : Meaning) (w : ℕ) → Lightest m w → w ≡ lightest m
lightest_is m w p = one_extreme (λ a b p q. omega arith) m w _ p (lightest_means m)

pub heaviest_is : (m : Meaning) (w : ℕ) → Heaviest m w → w ≡ heaviest m
heaviest_is m w p = one_extreme (λ a b p q. omega arith) m w _ p (heaviest_means m)
