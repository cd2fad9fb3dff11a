-- What stands in the cells of an entry, and in those that an edit leaves.
use Rattle.std.proofs.Common.{◌≡◌, ℕ, ◌<◌, ◌≤◌, ◌==◌, ◌≢◌, nat_lt, if◌then◌else◌, Bool, true, false, not, ◌&&◌, ◌||◌, ◌⊎◌, length, slice_index_or, arith}
use Rattle.std.proofs.lemmas.List.FromFn.{length-map-range_with_len, get_or-map-range_with_len}
use Rattle.std.proofs.lemmas.List.{ext_get_or, get_or_past, set_past}
use Rattle.std.proofs.lemmas.Bool.Decides.{nat_tests}
use Rattle.std.proofs.lemmas.Grind.{common_steps}
use Rattle.entry.specs.Cells.{Cell, Meaning, vacant, weigh, held, cells, NoGap}
use Rattle.entry.specs.Edits.{marked, struck, granted}

module _ (weighs : ℕ → ℕ) (holds : ℕ → Bool) where
  abbrev made : ℕ → Cell
  made c = record { weight = weighs c; held = holds c }

  pub length-cells : length (cells weighs holds) ≡ 64
  unfolding cells
  length-cells = length-map-range_with_len made 0 64

  -- a code's cell is as it was made, and any other is vacant
  cells_at : (c : ℕ) → slice_index_or (cells weighs holds) c vacant ≡ if nat_lt c 64 then made c else vacant
  unfolding cells
  cells_at c =
      grind (arith, nat_tests, get_or-map-range_with_len made 0 64 c c vacant, get_or_past (cells weighs holds) c vacant, length-cells)

  pub held-cells : (c : ℕ) → held (cells weighs holds) c ≡ (nat_lt c 64 && holds c)
  held-cells c = grind (arith, nat_tests, cells_at)

  pub weigh-cells : (c : ℕ) → weigh (cells weighs holds) c ≡ if nat_lt c 64 then weighs c else 0
  weigh-cells c = grind (arith, nat_tests, cells_at)

  -- of a code, the cells say what they were made from
  pub held_code : (c : ℕ) → held (cells weighs holds) c ≡ true → (c < 64) × (holds c ≡ true) × (weigh (cells weighs holds) c ≡ weighs c)
  held_code c t = grind (arith, nat_tests, cells_at)

  pub code_held : (c : ℕ) → c < 64 → holds c ≡ true → held (cells weighs holds) c ≡ true
  code_held c h t = grind (arith, nat_tests, cells_at)

  pub weigh_below : (n : ℕ) → ((c : ℕ) → c < 64 → weighs c ≤ n) → (c : ℕ) → weigh (cells weighs holds) c ≤ n
  weigh_below n low c = grind (arith, nat_tests, cells_at, low)

  -- of a kind that knows all 64 codes
  pub held-known : (c : ℕ) → held (cells weighs holds) c ≡ true → nat_lt c 64 ≡ true
  held-known c t = grind (arith, nat_tests, cells_at)

  pub weigh_unknown : (c : ℕ) → nat_lt c 64 ≡ false → weigh (cells weighs holds) c ≡ 0
  weigh_unknown c u = grind (arith, nat_tests, cells_at)

  -- between weights of 0 and 1 there is none
  pub cells-gapless : ((c : ℕ) → weighs c ≤ 1) → NoGap (cells weighs holds)
  cells-gapless light a b w ha hb la lb = grind (arith, nat_tests, cells_at, light)

-- an edit alters one flag and no weight
module _ (m : Meaning) (c : ℕ) (holds : Bool) where
  pub held-marked_other : (k : ℕ) → k ≢ c → held (marked m c holds) k ≡ held m k
  held-marked_other k n = grind (arith, common_steps)

  pub weigh-marked : (k : ℕ) → weigh (marked m c holds) k ≡ weigh m k
  weigh-marked k = grind (arith, common_steps, set_past)

-- cells that differ from others in one flag are those edited
module _ (weighs : ℕ → ℕ) (holds after : ℕ → Bool) (c : ℕ) (below : c < 64) where
  one_flag : (flag : Bool) → ((k : ℕ) → k < 64 → after k ≡ if k == c then flag else holds k) → cells weighs after ≡ marked (cells weighs holds) c flag
  one_flag flag agree =
      ext_get_or vacant _ _ (grind (arith, common_steps, length-cells))
      (λ k h. grind (arith, common_steps, nat_tests, cells_at, agree, length-cells))

  pub cells-struck : ((k : ℕ) → k < 64 → after k ≡ (holds k && not (k == c))) → cells weighs after ≡ struck (cells weighs holds) c
  cells-struck agree = one_flag false (λ k h. grind (arith, nat_tests, agree))

  pub cells-granted : ((k : ℕ) → k < 64 → after k ≡ (holds k || k == c)) → cells weighs after ≡ granted (cells weighs holds) c
  cells-granted agree = one_flag true (λ k h. grind (arith, nat_tests, agree))

-- what an edit leaves held, as facts
module _ (m : Meaning) (c : ℕ) (below : c < length m) where
  pub struck_stays : (k : ℕ) → held m k ≡ true → k ≢ c → held (struck m c) k ≡ true
  struck_stays k h n = grind (arith, common_steps)

  pub struck_was : (k : ℕ) → held (struck m c) k ≡ true → (held m k ≡ true) × (k ≢ c)
  struck_was k t = grind (arith, common_steps)

  pub granted_stays : (k : ℕ) → (held m k ≡ true) ⊎ (k ≡ c) → held (granted m c) k ≡ true
  granted_stays k which = grind (arith, common_steps)

  pub granted_was : (k : ℕ) → held (granted m c) k ≡ true → (held m k ≡ true) ⊎ (k ≡ c)
  granted_was k t = grind (arith, common_steps)
