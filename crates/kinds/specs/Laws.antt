-- Why the kinds keep the laws of an entry. An `impl` can cite only what stands in this folder, so these proofs do.
use Rattle.std.specs.Prelude.{◌≡◌, ℕ, ◌<◌, ◌≤◌, Bool, true, if◌then◌else◌}
use Rattle.std.proofs.Common.{arith}
use Rattle.std.proofs.lemmas.Bool.Decides.{nat_tests}
use Rattle.entry.specs.Cells.{weigh, held, cells, NoGap}
use Rattle.entry.proofs.CellFacts.{held_code, code_held}
use Rattle.kinds.specs.Duties.{duty_code, duty_weight, either}
use Rattle.kinds.specs.Spans.{spans, spanned}

-- no code of duty weighs more than 1, and a held one is known
pub duty_light : (c : ℕ) → duty_weight c ≤ 1
duty_light c = grind (arith, nat_tests)

pub held-duty_code : (off on : Bool) (c : ℕ) → held (cells duty_weight (either off on)) c ≡ true → duty_code c ≡ true
held-duty_code off on c t = let h = (held_code duty_weight (either off on) c t).1 in grind (arith, nat_tests)

-- nor does one of a collection
pub counted_light : (b : Bool) → (if b then 1 else 0) ≤ 1
counted_light b = grind (arith, nat_tests)

module _ (low high : ℕ) where
  -- a held code lies in the run and weighs its number
  pub in_run : (c : ℕ) → held (spanned low high) c ≡ true → (low ≤ c) × (c ≤ high) × (c < 64) × (weigh (spanned low high) c ≡ c)
  in_run c t =
      let code = held_code (λ k. k) (spans low high) c t in (grind (arith, nat_tests), grind (arith, nat_tests), code.0, code.2)

  pub run_in : (c : ℕ) → low ≤ c → c ≤ high → c < 64 → held (spanned low high) c ≡ true
  run_in c p q h = code_held (λ k. k) (spans low high) c h (grind (arith, nat_tests))

  -- so a weight between two held ones is the code of that number
  pub no_gap : NoGap (spanned low high)
  no_gap a b w ha hb la lb =
      let p = in_run a ha in
      let q = in_run b hb in
      let h = run_in w (omega arith) (omega arith) (omega arith) in
      (w, h, (in_run w h).3)
