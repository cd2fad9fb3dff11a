-- The tests of the refusals decide what they are named for.
use Rattle.std.proofs.Common.{◌≡◌, ◌≢◌, ◌↔◌, ℕ, ◌<◌, ◌≤◌, ◌==◌, IsTrue, Bool, true, ◌&&◌, length, refl, arith}
use Rattle.std.proofs.lemmas.List.{get_or_past}
use Rattle.std.proofs.lemmas.Bool.{iff_false, true_from_ne_false}
use Rattle.std.proofs.lemmas.Bool.Decides.{Decides-below_or, Decides-and, Decides-not, Decides-like, Decides-ltb, Decides-eqb}
use Rattle.entry.specs.Cells.{Meaning, weigh, held, Holds, NoGap}
use Rattle.entry.specs.Edits.{some, only, missing, gapless}

-- some number below n passes, where one is as P says
pub decides_some : (p : ℕ → Bool) (P : ℕ → Type 0) → ((k : ℕ) → IsTrue (p k) ↔ P k) → (n : ℕ) → IsTrue (some p n) ↔ ((k : ℕ) × (k < n) × P k)
unfolding some
decides_some p P each = Decides-below_or p P (some p) each refl (λ _. refl)

module _ (m : Meaning) (long : length m ≡ 64) where
  -- a held code is one of the 64
  held_below : (c : ℕ) → held m c ≡ true → c < 64
  held_below c h = grind (arith, get_or_past)

  -- some held code passes
  decides_held : (p : ℕ → Bool) (P : ℕ → Type 0) → ((k : ℕ) → IsTrue (p k) ↔ P k) → IsTrue (some (λ c. held m c && p c) 64) ↔ ((c : ℕ) × (held m c ≡ true) × P c)
  decides_held p P each =
      Decides-like _ (λ f. (f.0, f.2.0, f.2.1)) (λ f. (f.0, held_below f.0 f.1, (f.1, f.2)))
      (decides_some _ (λ c. (held m c ≡ true) × P c) (λ c. Decides-and (held m c) (p c) (λ e. e, λ e. e) (each c)) 64)

  -- some code is held
  pub decides_holds : IsTrue (some (held m) 64) ↔ Holds m
  decides_holds =
      Decides-like _ (λ f. (f.0, f.2)) (λ f. (f.0, held_below f.0 f.1, f.1))
      (decides_some (held m) (λ c. held m c ≡ true) (λ c. (λ e. e, λ e. e)) 64)

  -- c is held, and no other code is
  pub decides_only : (c : ℕ) → IsTrue (only m c) ↔ ((held m c ≡ true) × ((k : ℕ) → held m k ≡ true → k ≡ c))
  unfolding only
  decides_only c =
      Decides-and (held m c) _ (λ e. e, λ e. e)
      (Decides-like _ (λ f k h. grind (arith, f)) (λ o f. f.2 (o f.0 f.1))
      (Decides-not _ (decides_held _ (λ k. k ≢ c) (λ k. Decides-not (k == c) (Decides-eqb k c)))))

  -- some held code weighs w
  weighing : (w : ℕ) → IsTrue (some (λ c. held m c && weigh m c == w) 64) ↔ ((c : ℕ) × (held m c ≡ true) × (weigh m c ≡ w))
  weighing w = decides_held _ (λ c. weigh m c ≡ w) (λ c. Decides-eqb (weigh m c) w)

  -- held codes weigh less and more than w, and none weighs w
  abbrev Missing : ℕ → Type 0
  Missing w =
      ((c : ℕ) × (held m c ≡ true) × (weigh m c < w))
      × (((c : ℕ) × (held m c ≡ true) × (w < weigh m c)) × ¬ ((c : ℕ) × (held m c ≡ true) × (weigh m c ≡ w)))

  decides_missing : (w : ℕ) → IsTrue (missing m w) ↔ Missing w
  decides_missing w =
      Decides-and _ _ (decides_held _ (λ c. weigh m c < w) (λ c. Decides-ltb (weigh m c) w))
      (Decides-and _ _ (decides_held _ (λ c. w < weigh m c) (λ c. Decides-ltb w (weigh m c))) (Decides-not _ (weighing w)))

  -- no weight is missing, where the no-gap law holds
  pub decides_gapless : ((c : ℕ) → weigh m c ≤ 63) → IsTrue (gapless m) ↔ NoGap m
  unfolding gapless
  decides_gapless low =
      Decides-like _
      (λ none a b w ha hb la lb. (weighing w).0
      (true_from_ne_false _ (λ f. none (w, omega (arith, low b), ((a, ha, la), ((b, hb, lb), iff_false (weighing w) f))))))
      (λ whole f. let (w, l, ((a, ha, la), ((b, hb, lb), never))) = f in never (whole a b w ha hb la lb))
      (Decides-not _ (decides_some (missing m) Missing decides_missing 64))
