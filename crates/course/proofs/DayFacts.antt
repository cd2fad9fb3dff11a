-- What a strike or a grant keeps of a day's meaning.
use Rattle.std.specs.Prelude.{◌≡◌, ℕ, ◌≤◌, Bool, true, false, not, ◌&&◌, ◌==◌, length}
use Rattle.std.proofs.Common.{sym, ◌∙◌, subst, inl, inr, arith, length-set}
use Rattle.std.proofs.lemmas.List.{set_past}
use Rattle.std.proofs.lemmas.Bool.{cases_eq, cases_lt}
use Rattle.std.proofs.lemmas.Bool.Decides.{nat_tests}
use Rattle.entry.specs.Cells.{Meaning, Holds, held, weigh, Sized}
use Rattle.entry.specs.Edits.{only, gapless, marked, struck, granted}
use Rattle.entry.proofs.CellFacts.{weigh-marked, held-marked_other, granted_stays}
use Rattle.entry.proofs.Tested.{decides_some, decides_gapless}
use Rattle.course.specs.Runs.{Whole}

module _ (m : Meaning) (c : ℕ) where
  -- an edit that passes the test of the no-gap law keeps it
  pub marked_whole : (holds : Bool) → gapless (marked m c holds) ≡ true → Sized m → Whole (marked m c holds)
  marked_whole holds whole sized =
      let new = marked m c holds in
      let long : length new ≡ 64 = length-set m c _ ∙ sized.0 in
      let low : (k : ℕ) → weigh new k ≤ 63 = λ k. omega (arith, weigh-marked m c holds k, sized.1 k) in
      ((long, low), (decides_gapless new long low).0 whole)

  -- where a code is held and c is not the only one, a code other than c is held
  other_held : only m c ≡ false → Holds m → (k : ℕ) × (held m k ≡ true) × (k ≡ c → ⊥)
  unfolding only
  other_held more h =
      elim (cases_eq h.0 c) [
        | inl e ↦
            let p : ℕ → Bool = λ k. held m k && not (k == c) in
            let found = (decides_some p (λ k. p k ≡ true) (λ k. (λ t. t, λ t. t)) 64).0 (grind arith) in
            (found.0, grind (arith, nat_tests), λ same. grind (arith, nat_tests))
        | inr n ↦ (h.0, h.1, n)
      ]

  -- a strike of a code that is not the only one leaves a code held, and so does a grant
  pub struck_holds : only m c ≡ false → Holds m → Holds (struck m c)
  struck_holds more h = let o = other_held more h in (o.0, held-marked_other m c false o.0 o.2 ∙ o.1)

  pub granted_holds : Holds m → Holds (granted m c)
  granted_holds h =
      elim (cases_lt c (length m)) [
        | inl below ↦ (h.0, granted_stays m c below h.0 (inl h.1))
        | inr past ↦ subst Holds (sym (set_past m c _ past)) h
      ]
