-- Layers on top of each other.
use Rattle.std.proofs.Common.{◌≡◌, ℕ, zero, suc, ◌+◌, ◌*◌, ◌<◌, ◌≤◌, List, [], All, Contains, length, set, slice_index_or, ap, subst, ⊎_elim, arith}
use Rattle.std.specs.Prelude.{ℤ, pos, neg_ℤ, ◌≤ℤ◌, ◌<ℤ◌}
use Rattle.std.proofs.lemmas.Bool.{cases_lt}
use Rattle.std.proofs.lemmas.Int.{ints, by_lt_z}
use Rattle.std.proofs.lemmas.List.{get_or-set_same, get_or-set_other}
use Rattle.std.proofs.lemmas.List.Elements.{All-contains}
use Rattle.limits.specs.declared.link.Link.{Link}
use Rattle.limits.specs.Systems.{System, Solvable, Within, at_mark}
use Rattle.chains.specs.Layers.{layer_of, Lowers, Layered, FallsFrom, Makes, InRange}

-- the layer after one that is near by k links is near by one more
range_next : (links : List Link) (k days : ℕ) (layer next : List ℤ) → All (Within days) links → Lowers links layer next → InRange k layer → InRange (suc k) next
range_next links k days layer next within lowers near mark = (
  by_lt_z (at_mark next mark) (at_mark layer mark) (λ fell. low fell (lowers.made mark fell)) (λ kept. omega (arith, ints, near mark)),
  omega (arith, ints, near mark, lowers.falls mark),
)
  where
    low : at_mark next mark <ℤ at_mark layer mark → ((l : Link) × Contains links l × Makes layer mark (at_mark next mark) l) → neg_ℤ (pos (8064 * suc k)) ≤ℤ at_mark next mark
    low fell (l, known, (leads, makes)) =
        let a = near l.from.0 in let b = All-contains (Within days) links l within known in omega (arith, ints)

-- the k-th layer is near by k links
pub range_at : (links : List Link) (days n : ℕ) (layers : List (List ℤ)) → All (Within days) links → Layered links n layers
    → (k : ℕ) → k ≤ n → InRange k (layer_of layers k)
range_at links days n layers within layered zero h = layered.starts
range_at links days n layers within layered (suc k) h =
    let e : layer_of layers (k + 1) ≡ layer_of layers (suc k) = ap (layer_of layers) (omega arith) in
    subst (InRange (suc k)) e
    (range_next links k days _ _ within (layered.lowers k (omega arith)) (range_at links days n layers within layered k (omega arith)))

-- what is near by few links is near by 128
pub range_128 : (k : ℕ) (layer : List ℤ) → k ≤ 128 → InRange k layer → InRange 128 layer
range_128 k layer few near mark = let h = near mark in (omega (arith, ints), omega (arith, ints))

-- a layer from which no mark falls is a solution
pub settled_solves : (s : System) (layer next : List ℤ) → Lowers s.links layer next → ((mark : ℕ) → at_mark layer mark ≤ℤ at_mark next mark) → Solvable s
settled_solves s layer next lowers settled =
    (at_mark layer, λ k d h. omega (arith, ints, lowers.below k d h, settled (slice_index_or s.links k d).to.0))

-- ---- one layer more
module _ (links : List Link) (k : ℕ) (layers : List (List ℤ)) (next : List ℤ) (room : k + 1 < length layers) where
  -- the new layer
  more_here : layer_of (set layers (k + 1) next) (k + 1) ≡ next
  more_here = get_or-set_same layers (k + 1) next [] room

  -- the others stay
  more_before : (i : ℕ) → i < k + 1 → layer_of (set layers (k + 1) next) i ≡ layer_of layers i
  more_before i h = get_or-set_other layers (k + 1) i next [] (omega arith)

  -- the layers with the new one
  pub layered_more : Layered links k layers → Lowers links (layer_of layers k) next → Layered links (k + 1) (set layers (k + 1) next)
  layered_more layered lowers = record {
    starts = rw (more_before 0 (omega arith)) layered.starts;
    lowers = λ i h. ⊎_elim (older i) (newest i h) (cases_lt i k);
  }
    where
      older : (i : ℕ) → i < k → Lowers links (layer_of (set layers (k + 1) next) i) (layer_of (set layers (k + 1) next) (i + 1))
      older i h = rw (more_before i (omega arith), more_before (i + 1) (omega arith)) (layered.lowers i h)

      newest : (i : ℕ) → i < k + 1 → k ≤ i → Lowers links (layer_of (set layers (k + 1) next) i) (layer_of (set layers (k + 1) next) (i + 1))
      newest i h m = let e : i ≡ k = omega arith in rw (e, more_before k (omega arith), more_here) lowers

  -- a mark that falls into the new one
  pub falls_more : (mark : ℕ) → at_mark next mark <ℤ at_mark (layer_of layers k) mark → FallsFrom (set layers (k + 1) next) k mark
  falls_more mark fell = rw (more_here, more_before k (omega arith)) fell
