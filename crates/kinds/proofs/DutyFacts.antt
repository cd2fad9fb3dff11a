-- What a duty entry holds, and what a strike or a grant makes of it.
use mir.Val.{bool_byte}
use Rattle.std.specs.Prelude.{◌≡◌, ℕ, ◌&&◌, nat_lt, Bool, true, false, not, IsTrue, ◌↔◌, if◌then◌else◌, Ok, Err, ◌==◌, ◌≢◌, refl}
use Rattle.std.specs.Cmp.{both_ways}
use Rattle.std.proofs.Common.{sym, ap, ◌∙◌, inl, inr, arith}
use Rattle.std.proofs.lemmas.Bool.{cases_Bool, le-ltb}
use Rattle.std.proofs.lemmas.Bool.Decides.{nat_tests}
use Rattle.codes.specs.declared.set.CodeSet.{CodeSet}
use Rattle.codes.specs.Members.{member, members, lists}
use Rattle.entry.specs.Cells.{Meaning, weigh, held, cells, NoGap, Sized}
use Rattle.entry.specs.Edits.{Strikes, Grants}
use Rattle.entry.specs.Weights.{lightest, heaviest, Lightest, Heaviest}
use Rattle.entry.proofs.CellFacts.{held-cells, weigh-cells, cells-struck, cells-granted, cells-gapless}
use Rattle.entry.proofs.Weighing.{lightest_is, heaviest_is, attained, weightless}
use Rattle.entry.proofs.Verdicts.{strikes_only, strikes_taken, strikes_unknown, grants_taken, grants_unknown}
use Rattle.entry.specs.declared.refusal.Refusal.TheVariants.{OnlyCode, UnknownCode}
use Rattle.kinds.specs.declared.duty.Duty.{Duty}
use Rattle.kinds.specs.Laws.{duty_light, held-duty_code}
use Rattle.kinds.specs.Duties.{duty_code, duties, duty_of, duty_weight, either}
use Rattle.kinds.specs.Listings.{all_known}
use Rattle.kinds.proofs.LightFacts.{light_sized, level}
use Rattle.kinds.proofs.ListingFacts.{all_taken, listed-known, all_known-listed, lists-members}

module _ (off on : Bool) where
  abbrev m : Meaning
  m = cells duty_weight (either off on)

  pub sized : Sized m
  sized = light_sized duty_weight (either off on) duty_light

  pub no_gap : NoGap m
  no_gap = cells-gapless duty_weight (either off on) duty_light

  -- what is held, and what it weighs
  cell_of : (c : ℕ) → (held m c ≡ (nat_lt c 64 && either off on c)) × (weigh m c ≡ (if nat_lt c 64 then duty_weight c else 0))
  cell_of c = (held-cells duty_weight (either off on) c, weigh-cells duty_weight (either off on) c)

  -- where 1 is held it is the heaviest, and what is held without it weighs 0
  pub heaviest_flag : (w : ℕ) → w ≡ bool_byte on → Heaviest m w
  heaviest_flag w e =
      elim (cases_Bool on) [
        | inl t ↦ attained 1 ((cell_of 1).0 ∙ t) (grind (arith, cell_of 1)) (λ c _. grind (arith, nat_tests, cell_of c))
        | inr f ↦ let none : w ≡ 0 = grind arith in rw none (weightless m (λ c t. grind (arith, nat_tests, cell_of c))).1
      ]

  pub lightest_off : off ≡ true → Lightest m 0
  lightest_off t = attained 0 ((cell_of 0).0 ∙ t) (cell_of 0).1 (λ c h. omega arith)

  -- where 0 is not held, the heaviest is the lightest
  pub lightest_on : off ≡ false → (w : ℕ) → Heaviest m w → Lightest m w
  lightest_on f w = level m 1 w (λ c t. grind (arith, nat_tests, cell_of c))

-- what each method of the kind says, case by case
module _ (d : Duty) where
  pub says_heaviest : (w : ℕ) → w ≡ bool_byte d.on → w ≡ heaviest (duties d)
  says_heaviest w e = heaviest_is _ _ (heaviest_flag d.off d.on w e)

  pub says_off_lightest : d.off ≡ true → 0 ≡ lightest (duties d)
  says_off_lightest t = lightest_is _ _ (lightest_off d.off d.on t)

  pub says_on_lightest : (w : ℕ) → d.off ≡ false → Heaviest (duties d) w → w ≡ lightest (duties d)
  says_on_lightest w f h = lightest_is _ _ (lightest_on d.off d.on f w h)

module _ (d : Duty) (c : ℕ) where
  pub says_off : c ≡ 0 → d.off ≡ held (duties d) c
  says_off z = grind (arith, nat_tests, cell_of d.off d.on c)

  pub says_on : c ≡ 1 → d.on ≡ held (duties d) c
  says_on o = grind (arith, nat_tests, cell_of d.off d.on c)

  pub says_neither : c ≢ 0 → c ≢ 1 → false ≡ held (duties d) c
  says_neither z o = grind (arith, nat_tests, cell_of d.off d.on c)

  pub weighs_one : (w : ℕ) → w ≡ bool_byte (c == 1) → w ≡ weigh (duties d) c
  weighs_one w e = grind (arith, nat_tests, cell_of d.off d.on c)

-- a strike and a grant, code by code
module _ (d : Duty) (c : ℕ) where
  fits : Sized (duties d)
  fits = sized d.off d.on

  off_is : held (duties d) 0 ≡ d.off
  off_is = (cell_of d.off d.on 0).0

  on_is : held (duties d) 1 ≡ d.on
  on_is = (cell_of d.off d.on 1).0

  pub strikes_last_off : c ≡ 0 → d.off ≡ true → d.on ≡ false → Strikes duties duty_code c d (Err OnlyCode) d
  strikes_last_off z t f =
      rw z (strikes_only duties duty_code 0 d fits refl (off_is ∙ t) (λ k h. grind (arith, nat_tests, cell_of d.off d.on k)))

  pub strikes_last_on : c ≡ 1 → d.on ≡ true → d.off ≡ false → Strikes duties duty_code c d (Err OnlyCode) d
  strikes_last_on o t f =
      rw o (strikes_only duties duty_code 1 d fits refl (on_is ∙ t) (λ k h. grind (arith, nat_tests, cell_of d.off d.on k)))

  pub strikes_off : c ≡ 0 → (d.off ≡ true → d.on ≡ true) → Strikes duties duty_code c d (Ok tt) (record { off = false; on = d.on })
  strikes_off z both =
      rw z (strikes_taken duties duty_code 0 d fits _ refl (λ t. (1, on_is ∙ both (sym off_is ∙ t), λ e. omega arith))
      (no_gap false d.on)
      (cells-struck duty_weight (either d.off d.on) (either false d.on) 0 (omega arith) (λ k h. grind (arith, nat_tests)))
      (λ f i. record { off = (sym f ∙ off_is) i; on = d.on }))

  pub strikes_on : c ≡ 1 → (d.on ≡ true → d.off ≡ true) → Strikes duties duty_code c d (Ok tt) (record { off = d.off; on = false })
  strikes_on o both =
      rw o (strikes_taken duties duty_code 1 d fits _ refl (λ t. (0, off_is ∙ both (sym on_is ∙ t), λ e. omega arith))
      (no_gap d.off false)
      (cells-struck duty_weight (either d.off d.on) (either d.off false) 1 (omega arith) (λ k h. grind (arith, nat_tests)))
      (λ f i. record { off = d.off; on = (sym f ∙ on_is) i }))

  pub strikes_neither : c ≢ 0 → c ≢ 1 → Strikes duties duty_code c d (Err UnknownCode) d
  strikes_neither z o = strikes_unknown duties duty_code c d fits (le-ltb c 2 (omega arith))

  pub grants_off : c ≡ 0 → Grants duties duty_code c d (Ok tt) (record { off = true; on = d.on })
  grants_off z =
      rw z (grants_taken duties duty_code 0 d fits _ refl (no_gap true d.on)
      (cells-granted duty_weight (either d.off d.on) (either true d.on) 0 (omega arith) (λ k h. grind (arith, nat_tests)))
      (λ t i. record { off = (sym t ∙ off_is) i; on = d.on }))

  pub grants_on : c ≡ 1 → Grants duties duty_code c d (Ok tt) (record { off = d.off; on = true })
  grants_on o =
      rw o (grants_taken duties duty_code 1 d fits _ refl (no_gap d.off true)
      (cells-granted duty_weight (either d.off d.on) (either d.off true) 1 (omega arith) (λ k h. grind (arith, nat_tests)))
      (λ t i. record { off = d.off; on = (sym t ∙ on_is) i }))

  pub grants_neither : c ≢ 0 → c ≢ 1 → Grants duties duty_code c d (Err UnknownCode) d
  grants_neither z o =
      grants_unknown duties duty_code c d fits (le-ltb c 2 (omega arith)) (held-duty_code d.off d.on c)

-- the test that a set has no other codes than 0 and 1
pub known_alone : (s t u : CodeSet) → ((c : ℕ) → member t c ≡ (member s c && not (c == 0)))
    → ((c : ℕ) → member u c ≡ (member t c && not (c == 1)))
    → (empty : Bool) → (IsTrue empty ↔ ((c : ℕ) → member u c ≡ false)) → empty ≡ all_known duty_code (members s)
known_alone s t u first second empty none =
    let others : (c : ℕ) → member u c ≡ (member s c && not (duty_code c)) = λ c. grind (arith, nat_tests, first c, second c) in
    both_ways _ _
    (λ e. all_known-listed duty_code (members s) (λ c l. grind (arith, nat_tests, others c, none.0 e c, lists-members s c)))
    (λ all. none.1 (λ c. grind (arith, nat_tests, others c, lists-members s c, listed-known duty_code (members s) c all)))

-- the entry of a set's codes
pub built : (s : CodeSet) (off on : Bool) → off ≡ member s 0 → on ≡ member s 1 → all_known duty_code (members s) ≡ true
    → Ok (duties (record { off = off; on = on })) ≡ duty_of (members s)
built s off on e o all =
    let ns = members s in
    let same : (k : ℕ) → either off on k ≡ lists ns k =
    λ k. grind (arith, nat_tests, listed-known duty_code ns k all, lists-members s k) in
    ap (λ f. Ok (cells duty_weight f)) (λ i k. same k i) ∙ sym (all_taken duty_code ns (cells duty_weight (lists ns)) all)

-- of each method, the cases that its body goes through
pub ruleset holds_cases = (says_off, says_on, says_neither)

pub ruleset lightest_cases = (lightest_off, lightest_on, says_off_lightest, says_on_lightest)

pub ruleset heaviest_cases = (heaviest_flag, says_heaviest)
