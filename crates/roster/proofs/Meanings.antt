-- What entries mean, beside the codes of their days and in a stretch.
use Rattle.std.proofs.Common.{◌≡◌, ℕ, ◌-◌, List, [], ◌∷◌, map, take, drop, Option, sym, ap, ◌∙◌}
use Rattle.std.specs.Iterator.{AlwaysYields}
use Rattle.std.specs.Iterator.Adapters.{zip_first, zip_second}
use Rattle.std.specs.List.{zip}
use Rattle.std.specs.Slice.Iter.{iter_rest}
use Rattle.std.proofs.iter.Yields.{fronts}
use Rattle.std.proofs.lemmas.List.{take-map, drop-map}
use Rattle.std.proofs.lemmas.Iterator.{YieldsList, YieldsList-from_slice, YieldsList-from_zip, zips}
use Rattle.ledger.specs.declared.rule.Rule.{Rule}
use Rattle.ledger.specs.Rosters.{stretch}

module _ {S A B C : Type 0} (steps : S → Option A → S → Type 0) (v : A → B) (f : B → C) where
  -- what the items mean
  meant : (ys : List B) (s : S) → AlwaysYields steps v s ys → AlwaysYields steps (λ x. f (v x)) s (map f ys)
  meant [] s none = none
  meant (y ∷ ys) s all = (all.0, λ x t step. let more = all.1 x t step in (ap f more.0, meant ys t more.1))

-- the chain goes through what the entries mean, each beside its day's code
pub yields_meanings : {X Y : Type 0} (f : X → Y) {s : _} (xs : List X) (codes : List ℕ)
    → iter_rest (zip_first s) ≡ xs → iter_rest (zip_second s) ≡ codes
    → YieldsList (zips fronts fronts) (λ p. (f p.0.now, p.1.now)) s (zip (map f xs) codes)
yields_meanings f {s} xs codes first second =
    let entries : YieldsList fronts (λ x. f x.now) (zip_first s) (map f xs) =
    record { runs = meant fronts (λ x. x.now) f xs (zip_first s) (YieldsList-from_slice xs first).runs } in
    YieldsList-from_zip entries (YieldsList-from_slice codes second)

-- what the entries of a stretch mean is that stretch of what all entries mean
pub map_stretch : {X Y : Type 0} (f : X → Y) (rule : Rule) (xs : List X) → map f (stretch rule xs) ≡ stretch rule (map f xs)
map_stretch f rule xs =
    let from = rule.first - 1 in
    let n = rule.last - from in
    sym (take-map f n (drop from xs)) ∙ ap (take n) (sym (drop-map f from xs))
