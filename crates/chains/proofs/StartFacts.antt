-- The first layer.
use Rattle.std.proofs.Common.{◌≡◌, ℕ, zero, suc, List, length, replicate, refl, ⊎_elim, arith}
use Rattle.std.specs.Prelude.{ℤ, pos}
use Rattle.std.proofs.lemmas.Bool.{cases_lt}
use Rattle.std.proofs.lemmas.Int.{ints}
use Rattle.std.proofs.lemmas.List.{get_or_past}
use Rattle.limits.specs.Systems.{System, Bounds, at_mark}
use Rattle.limits.proofs.SystemFacts.{totals_small}
use Rattle.chains.specs.Layers.{InRange}

-- a zero wherever it is read
pub zeros : (n mark : ℕ) → at_mark (replicate n (pos 0)) mark ≡ pos 0
zeros zero mark = refl
zeros (suc n) zero = refl
zeros (suc n) (suc mark) = zeros n mark

-- the totals of the lightest days are in range
pub starts_in_range : (s : System) (layer : List ℤ) → Bounds s → ((mark : ℕ) → at_mark layer mark ≡ at_mark s.lightest mark) → InRange 0 layer
starts_in_range s layer bounds same mark =
    let here = same mark in
    ⊎_elim
    (λ inside. let small = (totals_small s bounds mark inside).0 in (omega (arith, ints), omega (arith, ints)))
    (λ past. let none = get_or_past s.lightest mark (pos 0) past in (omega (arith, ints), omega (arith, ints)))
    (cases_lt mark (length s.lightest))
