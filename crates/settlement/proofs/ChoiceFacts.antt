-- What settling chooses on each day, and lists with one item for each day.
use Rattle.std.proofs.Common.{◌≡◌, ℕ, ◌<◌, ◌+◌, ◌==◌, Bool, true, false, ◌&&◌, ◌||◌, nat_lt, List, [], ◌∷◌, ◌++◌, length, map, slice_index_or, ◌⊎◌, ⊎_elim, refl, sym, ap, ◌∙◌, arith}
use Rattle.std.specs.Prelude.{slice_get, Some}
use Rattle.std.specs.Option.{option_map}
use Rattle.std.proofs.lemmas.List.{length_push}
use Rattle.std.proofs.lemmas.Option.{slice_get-map, slice_get_read, same_Some, gets}
use Rattle.std.proofs.lemmas.Grind.{common_steps}
use Rattle.std.proofs.lemmas.Bool.Decides.{nat_tests}
use Rattle.codes.specs.declared.set.CodeSet.{CodeSet}
use Rattle.codes.specs.Members.{member}
use Rattle.entry.specs.Cells.{Meaning}
use Rattle.settlement.specs.Choices.{Daily}

-- the set has the codes below n that pass
abbrev pub Passed : (ℕ → Bool) → ℕ → CodeSet → Type 0
Passed p n set = (c : ℕ) → member set c ≡ (nat_lt c n && p c)

module _ (p : ℕ → Bool) (n : ℕ) (set : CodeSet) (passed : Passed p n set) where
  -- n passes and comes in
  pub passed_in : (more : CodeSet) → n < 64 → ((c : ℕ) → member more c ≡ (member set c || (nat_lt c 64 && c == n)))
      → p n ≡ true → Passed p (n + 1) more
  passed_in more low each t c = grind (arith, nat_tests, passed c, each c)

  -- n does not pass
  pub passed_by : p n ≡ false → Passed p (n + 1) set
  passed_by f c = grind (arith, nat_tests, passed c)

-- an item of a list with one more is of the list, or is the last
pushed : {X : Type 0} (xs : List X) (x : X) (k : ℕ) (y : X)
    → slice_get (xs ++ x ∷ []) k ≡ Some y → (slice_get xs k ≡ Some y) ⊎ ((k ≡ length xs) × (x ≡ y))
pushed xs x k y e = grind (arith, common_steps, gets)

module _ {E : Type 0} (f : E → Meaning) (entries : List E) (i : ℕ) (entry : E)
    (low : i < length entries) (is : entry ≡ slice_index_or entries i entry) where
  -- what the entry of a day means
  pub meant : slice_get (map f entries) i ≡ Some (f entry)
  meant = slice_get-map f entries i ∙ ap (option_map f) (slice_get_read entries (length entries) i entry refl low is)

  -- a day more
  pub day_more : {X : Type 0} (P : ℕ → Meaning → X → Type 0) (xs : List X) (x : X) → P i (f entry) x
      → Daily P (map f entries) i xs → Daily P (map f entries) (i + 1) (xs ++ x ∷ [])
  day_more P xs x p daily = record {
    long = omega (arith, length_push xs x, daily.long);
    item = λ k m y d e.
        ⊎_elim (daily.item k m y d)
        (λ h.
        let place : i ≡ k = omega (arith, daily.long, h.0) in
        rw (← place, ← h.1, same_Some _ _ (sym (rw (← place) at d) ∙ meant)) p)
        (pushed xs x k y e);
  }
