-- Whether an entry holds a code.
use Rattle.std.proofs.Common.{◌≡◌, ℕ, zero, suc, Bool, [], ◌∷◌, refl, arith}
use Rattle.std.specs.List.{list_any, range_with_len}
use Rattle.std.proofs.lemmas.List.{map-id}
use Rattle.std.proofs.lemmas.List.FromFn.{map-range_with_len_more}
use Rattle.std.proofs.lemmas.List.Folds.{list_any-append}
use Rattle.entry.specs.Edits.{some}

-- whichever end the numbers are gone through from
pub some_in_range : (p : ℕ → Bool) (n : ℕ) → list_any p (range_with_len 0 n) ≡ some p n
unfolding some
some_in_range p zero = refl
some_in_range p (suc n) =
    let more = map-range_with_len_more (λ k. k) 0 n n (omega arith) in
    grind (arith, more, map-id, list_any-append p (range_with_len 0 n) (n ∷ []), some_in_range p n)
