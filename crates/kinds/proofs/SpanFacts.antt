-- What a run of codes holds, and what a strike or a grant makes of it.
use Rattle.std.specs.Prelude.{◌≡◌, ℕ, ◌+◌, ◌<◌, ◌≤◌, Bool, true, false, if◌then◌else◌, not, ◌&&◌, ◌||◌, length, Ok, Err, ◌==◌, ◌≢◌, nat_le, nat_lt, refl}
use Rattle.std.proofs.Common.{sym, ◌∙◌, subst, inl, inr, arith}
use Rattle.std.proofs.lemmas.Bool.{cases_lt, cases_eq, ltb-true}
use Rattle.std.proofs.lemmas.Bool.Decides.{nat_tests}
use Rattle.entry.specs.Cells.{Meaning, weigh, held, NoGap, Sized}
use Rattle.entry.specs.Edits.{marked, struck, granted, Strikes, Grants}
use Rattle.entry.specs.Weights.{lightest, heaviest, Lightest, Heaviest}
use Rattle.entry.specs.declared.refusal.Refusal.TheVariants.{OnlyCode, WeightGap}
use Rattle.entry.proofs.CellFacts.{length-cells, weigh_below, held-cells, weigh-cells, weigh-marked, cells-struck, cells-granted, struck_stays, struck_was, granted_stays, granted_was}
use Rattle.entry.proofs.Verdicts.{strikes_only, strikes_gap, strikes_taken, grants_gap, grants_taken}
use Rattle.entry.proofs.Weighing.{lightest_is, heaviest_is, attained, weightless}
use Rattle.kinds.specs.declared.boxes.Boxes.{Boxes}
use Rattle.kinds.specs.Codes.{any_code}
use Rattle.kinds.specs.Laws.{in_run, run_in, no_gap}
use Rattle.kinds.specs.Spans.{spans, spanned, boxed}

module _ (low high : ℕ) where
  abbrev m : Meaning
  m = spanned low high

  pub sized : Sized m
  sized = (length-cells (λ c. c) (spans low high), weigh_below (λ c. c) (spans low high) 63 (λ c h. omega arith))

  -- a run without codes holds no weight
  pub empty_weightless : high < low → Lightest m 0 × Heaviest m 0
  empty_weightless p = weightless m (λ c t. let at = in_run low high c t in absurd (omega arith))

  module _ (c : ℕ) (below : c < 64) where
    inside : c < length m
    inside = omega (arith, sized.0)

    -- a number between two codes that an edited run without gaps holds is such a code
    filled : (flag : Bool) (a b w : ℕ) → NoGap (marked m c flag) → held (marked m c flag) a ≡ true
        → held (marked m c flag) b ≡ true → a < w → w < b → b < 64 → held (marked m c flag) w ≡ true
    filled flag a b w whole ha hb la lb top =
        let new = marked m c flag in
        let weighs : (k : ℕ) → weigh new k ≡ (if nat_lt k 64 then k else 0) =
        λ k. weigh-marked m c flag k ∙ weigh-cells (λ k. k) (spans low high) k in
        let found = whole a b w ha hb (grind (arith, nat_tests, weighs a)) (grind (arith, nat_tests, weighs b)) in
        subst (λ k. held new k ≡ true) (grind (arith, nat_tests, weighs found.0, found.2)) found.1

    -- a code between the ends cannot go
    pub inner_struck : low < c → c < high → high ≤ 63 → NoGap (struck m c) → ⊥
    inner_struck p q top whole =
        let first = struck_stays m c inside low (run_in low high low (omega arith) (omega arith) (omega arith)) (λ e. omega arith) in
        let last = struck_stays m c inside high (run_in low high high (omega arith) (omega arith) (omega arith)) (λ e. omega arith) in
        (struck_was m c inside c (filled false low high c whole first last p q (omega arith))).1 refl

    -- nor can one come that is not beside an end
    pub outer_granted : low ≤ high → high ≤ 63 → held m c ≡ false → c + 1 ≢ low → high + 1 ≢ c → NoGap (granted m c) → ⊥
    outer_granted p top out before after whole =
        let here = granted_stays m c inside c (inr refl) in
        let first = granted_stays m c inside low (inl (run_in low high low (omega arith) p (omega arith))) in
        let last = granted_stays m c inside high (inl (run_in low high high p (omega arith) (omega arith))) in
        elim (cases_lt c low) [
          | inl s ↦ elim (granted_was m c inside (c + 1) (filled true c low (c + 1) whole here first (omega arith) (omega arith) (omega arith))) [
            | inl h ↦ let at = in_run low high (c + 1) h in omega arith
            | inr e ↦ omega arith
          ]
          | inr s ↦
              let past : high < c = grind (arith, nat_tests, held-cells (λ k. k) (spans low high) c) in
              elim (granted_was m c inside (high + 1) (filled true high c (high + 1) whole last here (omega arith) (omega arith) below)) [
                | inl h ↦ let at = in_run low high (high + 1) h in omega arith
                | inr e ↦ omega arith
              ]
        ]

-- a strike and a grant of a known code
module _ (b : Boxes) (c : ℕ) (known : any_code c ≡ true) where
  fits : Sized (boxed b)
  fits = sized b.low b.high

  below : c < 64
  below = ltb-true c 64 known

  module _ (there : held (boxed b) c ≡ true) where
    -- the only code of a run stays
    pub strikes_last : b.low ≡ b.high → Strikes boxed any_code c b (Err OnlyCode) b
    strikes_last e =
        let here = in_run b.low b.high c there in
        strikes_only boxed any_code c b fits known there (λ k t. let at = in_run b.low b.high k t in omega arith)

    module _ (longer : b.low ≢ b.high) where
      -- the other end
      other : (k : ℕ) × (held (boxed b) k ≡ true) × (k ≢ c)
      other =
          let here = in_run b.low b.high c there in
          let top = b.codes in
          elim (cases_eq c b.low) [
            | inl e ↦ (b.high, run_in b.low b.high b.high (omega arith) (omega arith) (omega arith), λ s. omega arith)
            | inr n ↦ (b.low, run_in b.low b.high b.low (omega arith) (omega arith) (omega arith), λ s. omega arith)
          ]

      -- of a longer run an end goes, and the run y is left
      pub strikes_end : (y : Boxes) → ((k : ℕ) → k < 64 → spans y.low y.high k ≡ (spans b.low b.high k && not (k == c)))
          → Strikes boxed any_code c b (Ok tt) y
      strikes_end y shorter =
          strikes_taken boxed any_code c b fits y known (λ _. other) (no_gap y.low y.high)
          (cells-struck (λ k. k) (spans b.low b.high) (spans y.low y.high) c below shorter) (λ f. cc)

      -- a code between the ends stays
      pub strikes_inner : c ≢ b.low → c ≢ b.high → Strikes boxed any_code c b (Err WeightGap) b
      strikes_inner p q =
          let here = in_run b.low b.high c there in
          strikes_gap boxed any_code c b fits known there other (inner_struck b.low b.high c below (omega arith) (omega arith) b.codes.1)

  module _ (gone : held (boxed b) c ≡ false) where
    -- a code comes with which those held are the run y
    pub grants_end : (y : Boxes) → ((k : ℕ) → k < 64 → spans y.low y.high k ≡ (spans b.low b.high k || k == c))
        → Grants boxed any_code c b (Ok tt) y
    grants_end y longer =
        grants_taken boxed any_code c b fits y known (no_gap y.low y.high)
        (cells-granted (λ k. k) (spans b.low b.high) (spans y.low y.high) c below longer) (λ t. cc)

    -- one that is beside neither end does not
    pub grants_outer : b.low ≤ b.high → c + 1 ≢ b.low → b.high + 1 ≢ c → Grants boxed any_code c b (Err WeightGap) b
    grants_outer p before after =
        grants_gap boxed any_code c b fits known gone (outer_granted b.low b.high c below p b.codes.1 gone before after)

-- what the methods say of a code
module _ (b : Boxes) (c : ℕ) where
  pub says_held : (high : ℕ) → high ≡ b.high → b.low ≤ c → nat_le c high ≡ held (boxed b) c
  says_held high h from = sym (held-cells (λ k. k) (spans b.low b.high) c ∙ grind (arith, nat_tests, b.codes.1))

  pub says_below : (low : ℕ) → low ≡ b.low → c < low → nat_le low c ≡ held (boxed b) c
  says_below low l before = sym (held-cells (λ k. k) (spans b.low b.high) c ∙ grind (arith, nat_tests))

  pub says_weight : (known : Bool) → known ≡ any_code c → known ≡ true → c ≡ weigh (boxed b) c
  says_weight known k t = sym (weigh-cells (λ k. k) (spans b.low b.high) c ∙ grind (arith, nat_tests))

  pub says_nothing : (known : Bool) → known ≡ any_code c → known ≡ false → 0 ≡ weigh (boxed b) c
  says_nothing known k f = sym (weigh-cells (λ k. k) (spans b.low b.high) c ∙ grind (arith, nat_tests))

-- and of the weights that are held
module _ (b : Boxes) where
  pub lightest_low : (w : ℕ) → w ≡ b.low → b.low ≤ b.high → Lightest (boxed b) w
  lightest_low w e p =
      let top = b.codes in
      let h = run_in b.low b.high b.low (omega arith) p (omega arith) in
      attained b.low h ((in_run b.low b.high b.low h).3 ∙ sym e) (λ c t. let at = in_run b.low b.high c t in omega arith)

  pub heaviest_high : (w : ℕ) → w ≡ b.high → b.low ≤ b.high → Heaviest (boxed b) w
  heaviest_high w e p =
      let top = b.codes in
      let h = run_in b.low b.high b.high p (omega arith) (omega arith) in
      attained b.high h ((in_run b.low b.high b.high h).3 ∙ sym e) (λ c t. let at = in_run b.low b.high c t in omega arith)

  pub lightest_none : b.high < b.low → Lightest (boxed b) 0
  lightest_none p = (empty_weightless b.low b.high p).0

  pub heaviest_none : b.high < b.low → Heaviest (boxed b) 0
  heaviest_none p = (empty_weightless b.low b.high p).1

  pub says_lightest : (w : ℕ) → w ≡ b.low → b.low ≤ b.high → w ≡ lightest (boxed b)
  says_lightest w e p = lightest_is _ _ (lightest_low w e p)

  pub says_heaviest : (w : ℕ) → w ≡ b.high → b.low ≤ b.high → w ≡ heaviest (boxed b)
  says_heaviest w e p = heaviest_is _ _ (heaviest_high w e p)

  pub says_no_lightest : b.high < b.low → 0 ≡ lightest (boxed b)
  says_no_lightest p = lightest_is _ _ (lightest_none p)

  pub says_no_heaviest : b.high < b.low → 0 ≡ heaviest (boxed b)
  says_no_heaviest p = heaviest_is _ _ (heaviest_none p)

-- a held code lies in the run
pub within : (b : Boxes) (c : ℕ) → held (boxed b) c ≡ true → (b.low ≤ c) × (c ≤ b.high)
within b c t = let at = in_run b.low b.high c t in (at.0, at.1)

-- of each method, the cases that its body goes through
pub ruleset holds_cases = (says_held, says_below)

pub ruleset weight_cases = (says_weight, says_nothing)

pub ruleset lightest_cases = (lightest_low, lightest_none, says_lightest, says_no_lightest)

pub ruleset heaviest_cases = (heaviest_high, heaviest_none, says_heaviest, says_no_heaviest)
