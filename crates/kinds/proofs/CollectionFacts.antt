-- What a collection entry holds, and what a strike or a grant makes of it.
use mir.Val.{bool_byte}
use Rattle.std.specs.Prelude.{◌≡◌, ℕ, ◌<◌, ◌≤◌, Bool, true, false, if◌then◌else◌, not, ◌&&◌, ◌||◌, ◌==◌, ◌≢◌, nat_lt, IsTrue, ◌↔◌, refl}
use Rattle.std.proofs.Common.{sym, ◌∙◌, inl, inr, arith}
use Rattle.std.proofs.lemmas.Bool.{both_ways, cases_Bool, true_from_ne_false, false_from_ne_true}
use Rattle.std.proofs.lemmas.Bool.Decides.{nat_tests}
use Rattle.codes.specs.declared.set.CodeSet.{CodeSet}
use Rattle.codes.specs.Members.{member}
use Rattle.codes.proofs.Sets.{member_below}
use Rattle.entry.specs.Cells.{Meaning, weigh, held, NoGap, Sized}
use Rattle.entry.specs.Edits.{some, struck, granted}
use Rattle.entry.specs.Weights.{Lightest, Heaviest}
use Rattle.entry.proofs.CellFacts.{held-cells, weigh-cells, cells-struck, cells-granted, cells-gapless}
use Rattle.entry.proofs.Tested.{decides_some}
use Rattle.entry.proofs.Weighing.{attained, weightless}
use Rattle.kinds.specs.declared.collection.Collection.{Collection}
use Rattle.kinds.specs.Collections.{weight_in, collected}
use Rattle.kinds.specs.Laws.{counted_light}
use Rattle.kinds.proofs.LightFacts.{light_sized, level}

-- a set that is not empty has a member
pub found : (s : CodeSet) (empty : Bool) → empty ≡ false → (((c : ℕ) → member s c ≡ false) → empty ≡ true) → (c : ℕ) × (member s c ≡ true)
found s empty f none =
    let any = decides_some (member s) (λ c. member s c ≡ true) (λ c. (λ t. t, λ t. t)) 64 in
    let one = any.0 (true_from_ne_false (some (member s) 64)
    (λ no. both_ways empty f (none (λ c. false_from_ne_true (member s c) (λ t. both_ways _ no (any.1 (c, member_below s c t, t))))))) in
    (one.0, one.2)

module _ (x : Collection) where
  abbrev m : Meaning
  m = collected x

  abbrev holds : ℕ → Bool
  holds = member x.held

  abbrev counted : ℕ → Bool
  counted = member x.counted

  abbrev pub weighs : ℕ → ℕ
  weighs = weight_in counted

  low : (c : ℕ) → weighs c ≤ 1
  low c = counted_light (counted c)

  pub sized : Sized m
  sized = light_sized weighs holds low

  pub no_gap : NoGap m
  no_gap = cells-gapless weighs holds low

  -- the cells say what the sets do, of every number
  pub held_is : (c : ℕ) → held m c ≡ holds c
  held_is c = held-cells weighs holds c ∙ grind (arith, nat_tests, member_below x.held c)

  pub counted_is : (c : ℕ) → weigh m c ≡ (if counted c then 1 else 0)
  counted_is c = weigh-cells weighs holds c ∙ grind (arith, nat_tests, member_below x.counted c)

  -- what the methods say of a code
  pub says_held : (c : ℕ) (b : Bool) → b ≡ holds c → b ≡ held m c
  says_held c b e = e ∙ sym (held_is c)

  pub says_counted : (c w : ℕ) (b : Bool) → w ≡ bool_byte b → b ≡ counted c → w ≡ weigh m c
  says_counted c w b e f = grind (arith, nat_tests, counted_is c)

  -- where a counted code is held it is the heaviest, and what is held without one weighs 0
  pub heaviest_flag : (s : CodeSet) → ((c : ℕ) → member s c ≡ (holds c && counted c)) → (empty : Bool)
      → (IsTrue empty ↔ ((c : ℕ) → member s c ≡ false)) → (w : ℕ) → w ≡ bool_byte (not empty) → Heaviest m w
  heaviest_flag s both empty none w e =
      elim (cases_Bool empty) [
        | inl t ↦
            let nothing : w ≡ 0 = grind arith in
            rw nothing (weightless m (λ c h. grind (arith, nat_tests, counted_is c, held_is c, both c, none.0 t c))).1
        | inr f ↦
            let one = found s empty f none.1 in
            attained one.0 (grind (arith, nat_tests, held_is one.0, both one.0, one.1))
            (grind (arith, nat_tests, counted_is one.0, both one.0, one.1)) (λ k _. grind (arith, nat_tests, counted_is k))
      ]

  -- the set of the held codes that do not count
  module _ (s : CodeSet) (free : (c : ℕ) → member s c ≡ (holds c && not (counted c))) where
    -- such a code weighs nothing
    pub lightest_free : (((c : ℕ) → member s c ≡ false) → false ≡ true) → (w : ℕ) → w ≡ 0 → Lightest m w
    lightest_free full w nothing =
        let one = found s false refl full in
        attained one.0 (grind (arith, nat_tests, held_is one.0, free one.0, one.1))
        (grind (arith, nat_tests, counted_is one.0, free one.0, one.1)) (λ _ _. omega arith)

    -- where each held code counts, the heaviest is the lightest
    pub lightest_counted : ((c : ℕ) → member s c ≡ false) → (v : ℕ) → Heaviest m v → (w : ℕ) → w ≡ v → Lightest m w
    lightest_counted never v most w same =
        rw same (level m 1 v (λ k t. grind (arith, nat_tests, counted_is k, held_is k, free k, never k)) most)

  -- the entry with other codes held
  abbrev pub holding : CodeSet → Collection
  holding s = record { held = s; counted = x.counted }

  module _ (s : CodeSet) (c : ℕ) (below : c < 64) where
    pub now_struck : ((k : ℕ) → member s k ≡ (holds k && not (k == c))) → collected (holding s) ≡ struck m c
    now_struck agree = cells-struck weighs holds (member s) c below (λ k _. agree k)

    pub now_granted : ((k : ℕ) → member s k ≡ (holds k || (nat_lt k 64 && k == c))) → collected (holding s) ≡ granted m c
    now_granted agree = cells-granted weighs holds (member s) c below (λ k h. grind (arith, nat_tests, agree k))

    -- what a strike of c leaves: nothing, or some other code
    module _ (agree : (k : ℕ) → member s k ≡ (holds k && not (k == c))) where
      pub alone : ((k : ℕ) → member s k ≡ false) → (k : ℕ) → held m k ≡ true → k ≡ c
      alone empty k t = grind (arith, nat_tests, agree k, empty k, held_is k)

      pub other : (k : ℕ) → member s k ≡ true → (held m k ≡ true) × (k ≢ c)
      other k t = (grind (arith, nat_tests, agree k, held_is k), λ e. grind (arith, nat_tests, agree k))

      pub some_other : (empty : Bool) → empty ≡ false → (((k : ℕ) → member s k ≡ false) → empty ≡ true)
          → (k : ℕ) × (held m k ≡ true) × (k ≢ c)
      some_other empty f none =
          let one = found s empty f none in
          let (there, another) = other one.0 one.1 in (one.0, there, another)
