-- A link's sum, as the code makes it.
use Rattle.std.proofs.Common.{◌≡◌, ℕ, List, ap, sym, ◌∙◌, to_z, of_z, w16, w32, SFits, arith}
use Rattle.std.specs.Prelude.{ℤ, ◌+ℤ◌}
use Rattle.std.proofs.lemmas.Int.{ints, to_z-of_z}
use Rattle.limits.specs.declared.link.Link.{Link}
use Rattle.limits.specs.Systems.{Within, at_mark}
use Rattle.chains.specs.Layers.{InRange}

-- the sum before it is known to fit
abbrev pub coded : List ℤ → ℕ → ℤ → ℤ
coded layer from allowance = to_z w32 (of_z w32 (at_mark layer from)) +ℤ to_z w32 (of_z w32 allowance)

module _ (layer : List ℤ) (l : Link) where
  -- the sum fits
  pub sum_fits : InRange 128 layer → Within 128 l → SFits w32 (at_mark layer l.from.0 +ℤ l.allowance)
  sum_fits near within = let close = near l.from.0 in omega (arith, ints)

  module _ (from : ℕ) (allowance : ℤ) (start : from ≡ l.from.0) (is : allowance ≡ to_z w16 (of_z w16 l.allowance))
      (near : InRange 128 layer) (within : Within 128 l) where
    -- what the code makes is the sum
    pub coded_is : coded layer from allowance ≡ at_mark layer l.from.0 +ℤ l.allowance
    coded_is = let same = ap (at_mark layer) start in let close = near from in omega (arith, ints)

    -- where the code finds the sum
    pub found : (s : ℤ) → SFits w32 s → of_z w32 (coded layer from allowance) ≡ of_z w32 s → at_mark layer l.from.0 +ℤ l.allowance ≡ s
    found s fits e =
        sym (to_z-of_z w32 _ (sum_fits near within)) ∙ ap (λ z. to_z w32 (of_z w32 z)) (sym coded_is) ∙ ap (to_z w32) e ∙ to_z-of_z w32 s fits

    -- where it does not
    pub passed : (s : ℤ) → (of_z w32 (coded layer from allowance) ≡ of_z w32 s → ⊥) → at_mark layer l.from.0 +ℤ l.allowance ≡ s → ⊥
    passed s not e = not (ap (of_z w32) (coded_is ∙ e))
