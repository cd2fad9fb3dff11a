-- What a strike or a grant of a code answers and leaves, case by case, for an entry of any kind.
use Rattle.std.proofs.Common.{◌≡◌, ◌≢◌, ◌↔◌, ℕ, Bool, true, false, Some, None, Ok, Err, IsTrue, sym, refl, arith, length-set}
use Rattle.std.proofs.lemmas.List.{set-get_or}
use Rattle.std.proofs.lemmas.Bool.{false_from_ne_true}
use Rattle.entry.specs.declared.refusal.Refusal.{Refusal}
use Rattle.entry.specs.declared.refusal.Refusal.TheVariants.{UnknownCode, OnlyCode, WeightGap}
use Rattle.entry.specs.Refusals.{Rows, row_of, topmost}
use Rattle.entry.specs.Cells.{Meaning, vacant, held, NoGap, Sized}
use Rattle.entry.specs.Edits.{marked, struck, granted, only, gapless, Edited, Strikes, Grants}
use Rattle.entry.proofs.CellFacts.{weigh-marked, held-marked_other}
use Rattle.entry.proofs.Tested.{decides_only, decides_gapless}

-- a flag set to what it is
marked_same : (m : Meaning) (c : ℕ) (holds : Bool) → held m c ≡ holds → marked m c holds ≡ m
marked_same m c holds e = rw (← e) (set-get_or m c vacant)

module _ {X : Type 0} (meaning : X → Meaning) (known : ℕ → Bool) (c : ℕ) (x : X) (sized : Sized (meaning x)) where
  -- the test of the no-gap law decides it after an edit
  whole_after : (holds : Bool) → IsTrue (gapless (marked (meaning x) c holds)) ↔ NoGap (marked (meaning x) c holds)
  whole_after holds = decides_gapless _ (rw length-set sized.0) (λ k. rw weigh-marked (sized.1 k))

  -- a row refuses, and something was to be altered
  declined : (rows : Rows) (holds : Bool) (Already : Type 0) (e : Refusal) → topmost rows ≡ Some (row_of e) → ¬ Already → Edited meaning c rows (marked (meaning x) c holds) Already x (Err e) x
  declined rows holds Already e top never = record {
    answer = rw top refl;
    after = rw top refl;
    weights = λ k. refl;
    others = λ k n. refl;
    refused = λ _. refl;
    idle = λ a. absurd (never a);
    whole = whole_after holds;
  }

  -- no row refuses
  accepted : (rows : Rows) (holds : Bool) (Already : Type 0) (y : X) → topmost rows ≡ None → meaning y ≡ marked (meaning x) c holds → (Already → y ≡ x) → Edited meaning c rows (marked (meaning x) c holds) Already x (Ok tt) y
  accepted rows holds Already y top new idle = record {
    answer = rw top refl;
    after = rw top new;
    weights = λ k. rw new (weigh-marked (meaning x) c holds k);
    others = λ k n. rw new (held-marked_other (meaning x) c holds k n);
    refused = λ f. cc;
    idle = λ a. (refl, idle a);
    whole = whole_after holds;
  }

  only_one : IsTrue (only (meaning x) c) ↔ ((held (meaning x) c ≡ true) × ((k : ℕ) → held (meaning x) k ≡ true → k ≡ c))
  only_one = decides_only (meaning x) sized.0 c

  -- a code is not the only one where another is held
  not-only : (held (meaning x) c ≡ true → (k : ℕ) × (held (meaning x) k ≡ true) × (k ≢ c)) → only (meaning x) c ≡ false
  not-only others = grind (arith, only_one.0, others)

  -- where the no-gap law would break, its test fails
  gapless_torn : (holds : Bool) → ¬ NoGap (marked (meaning x) c holds) → gapless (marked (meaning x) c holds) ≡ false
  gapless_torn holds torn = false_from_ne_true _ (λ t. torn ((whole_after holds).0 t))

  pub strikes_unknown : known c ≡ false → Strikes meaning known c x (Err UnknownCode) x
  strikes_unknown u = (declined _ false _ UnknownCode (rw u refl) (λ a. cc), only_one)

  pub strikes_only : known c ≡ true → held (meaning x) c ≡ true → ((k : ℕ) → held (meaning x) k ≡ true → k ≡ c) → Strikes meaning known c x (Err OnlyCode) x
  strikes_only k h alone = (declined _ false _ OnlyCode (rw (k, only_one.1 (h, alone)) refl) (λ a. cc), only_one)

  pub strikes_gap : known c ≡ true → held (meaning x) c ≡ true → ((k : ℕ) × (held (meaning x) k ≡ true) × (k ≢ c)) → ¬ NoGap (struck (meaning x) c) → Strikes meaning known c x (Err WeightGap) x
  strikes_gap k h other torn = (declined _ false _ WeightGap (rw (k, not-only (λ _. other), gapless_torn false torn) refl) (λ a. cc), only_one)

  pub strikes_taken : (y : X) → known c ≡ true → (held (meaning x) c ≡ true → (k : ℕ) × (held (meaning x) k ≡ true) × (k ≢ c)) → NoGap (meaning y) → meaning y ≡ struck (meaning x) c → (held (meaning x) c ≡ false → y ≡ x) → Strikes meaning known c x (Ok tt) y
  strikes_taken y k others whole new idle =
      (accepted _ false _ y (rw (k, not-only others, (whole_after false).1 (rw (← new) whole)) refl) new (λ a. idle a.1), only_one)

  pub strikes_idle : known c ≡ true → held (meaning x) c ≡ false → NoGap (meaning x) → Strikes meaning known c x (Ok tt) x
  strikes_idle k h whole = strikes_taken x k (λ t. cc) whole (sym (marked_same (meaning x) c false h)) (λ _. refl)

  pub grants_unknown : known c ≡ false → (held (meaning x) c ≡ true → known c ≡ true) → Grants meaning known c x (Err UnknownCode) x
  grants_unknown u law = declined _ true _ UnknownCode (rw u refl) (λ h. cc (law h))

  pub grants_gap : known c ≡ true → held (meaning x) c ≡ false → ¬ NoGap (granted (meaning x) c) → Grants meaning known c x (Err WeightGap) x
  grants_gap k h torn = declined _ true _ WeightGap (rw (k, gapless_torn true torn) refl) (λ t. cc)

  pub grants_taken : (y : X) → known c ≡ true → NoGap (meaning y) → meaning y ≡ granted (meaning x) c → (held (meaning x) c ≡ true → y ≡ x) → Grants meaning known c x (Ok tt) y
  grants_taken y k whole new idle = accepted _ true _ y (rw (k, (whole_after true).1 (rw (← new) whole)) refl) new idle

  pub grants_idle : known c ≡ true → held (meaning x) c ≡ true → NoGap (meaning x) → Grants meaning known c x (Ok tt) x
  grants_idle k h whole = grants_taken x k whole (sym (marked_same (meaning x) c true h)) (λ _. refl)
