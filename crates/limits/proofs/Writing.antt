-- A list that is written from one place on: numbers of a row, or rows.
use Rattle.std.proofs.Common.{◌≡◌, ℕ, ◌+◌, ◌<◌, ◌≤◌, List, length, slice_set, slice_index_or, sym, subst, ◌∙◌, ⊎_elim, arith}
use Rattle.std.proofs.Math.Seq.{get_or-set_same, get_or-set_other}
use Rattle.std.proofs.Math.ListN.{length-set}
use Rattle.std.proofs.lemmas.Bool.{cases_lt}

-- what stands from start on and below n is as P says, and the rest as it was before
pub record Written {X : Type 0} (default : X) (start n : ℕ) (P : ℕ → X → Type 0) (before now : List X) : Type 0 where
  pub done : (at : ℕ) → start ≤ at → at < n → P at (slice_index_or now at default)
  pub left : (at : ℕ) → (start ≤ at → n ≤ at) → slice_index_or now at default ≡ slice_index_or before at default
  pub long : length now ≡ length before

-- one more is written
pub written_more : {X : Type 0} (default : X) (start n : ℕ) (P : ℕ → X → Type 0) (before now : List X) (value : X)
    → start ≤ n → n < length now → P n value
    → Written default start n P before now → Written default start (n + 1) P before (slice_set now n value)
written_more {X} default start n P before now value from fits is w = record {
  done = λ at h lt.
      ⊎_elim
      (λ below. subst (P at) (sym (get_or-set_other now n at value default (omega arith))) (w.done at h below))
      (λ here. last at (omega arith))
      (cases_lt at n);
  left = λ at h.
      get_or-set_other now n at value default (λ e. let past = h (omega arith) in omega arith)
      ∙ w.left at (λ from'. let past = h from' in omega arith);
  long = length-set now n value ∙ w.long;
}
  where
    last : (at : ℕ) → at ≡ n → P at (slice_index_or (slice_set now n value) at default)
    last at e = rw e (subst (P n) (sym (get_or-set_same now n value default fits)) is)
