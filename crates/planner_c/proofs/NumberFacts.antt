-- From what carry answers to the number for C.
use Rattle.std.proofs.Common.{◌≡◌, ℕ, ◌+◌, ◌*◌, ◌<◌, ◌≤◌, List, ◌++◌, length, take, drop, sym, ap, subst, ◌∙◌, arith}
use Rattle.std.proofs.lemmas.Nat.{div-mul-add}
use Rattle.std.proofs.Math.Nat.{mul-add-mod_self_right, mod-eq_of_lt}
use Rattle.carry.specs.Carrying.{Carries}
use Rattle.carry.specs.Ends.{End, number}
use Rattle.planner_c.specs.Numbers.{Tells, refusal_in, count_in}

module _ (sheet before after : List ℕ) (e : End) (refusal count : ℕ) (is : refusal ≡ number e) (few : count < 4294967296)
    (works : Carries sheet (length before) (take count after) e)
    (only : (bytes : List ℕ) (f : End) → Carries sheet (length before) bytes f → (bytes ≡ take count after) × (f ≡ e))
    (within : count ≤ length before) (beyond : after ≡ take count after ++ drop count before) where
  same_refusal : refusal_in (refusal * 4294967296 + count) ≡ refusal
  same_refusal = div-mul-add refusal 4294967296 count few

  same_count : count_in (refusal * 4294967296 + count) ≡ count
  same_count = mul-add-mod_self_right refusal 4294967296 count ∙ mod-eq_of_lt few

  pub tells : Tells sheet before (refusal * 4294967296 + count) after
  tells =
      let front : take count after ≡ take (count_in (refusal * 4294967296 + count)) after = ap (λ n. take n after) (sym same_count) in
      record {
        answers = ∣ (e, sym is ∙ sym same_refusal, subst (λ bs. Carries sheet (length before) bs e) front works) ∣₁;
        only = λ bytes f carries.
            let (are, ends) = only bytes f carries in
            (are ∙ front, ap number ends ∙ sym is ∙ sym same_refusal);
        within = omega (arith, same_count, within);
        beyond = beyond ∙ ap (λ n. take n after ++ drop n before) (sym same_count);
      }
