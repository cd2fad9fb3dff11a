-- The walk back, one step more at a time.
use Rattle.std.proofs.Common.{◌≡◌, ℕ, suc, ◌+◌, ◌-◌, ◌<◌, ◌≤◌, List, ◌∷◌, All, Contains, length, take, drop, set, ap, sym, refl, ◌∙◌, subst, w32, SFits, arith}
use Rattle.std.specs.Prelude.{ℤ, ◌+ℤ◌, ◌≤ℤ◌}
use Rattle.std.proofs.lemmas.Int.{ints}
use Rattle.std.proofs.lemmas.List.{drop-set, drop-take}
use Rattle.std.proofs.lemmas.List.Elements.{All-contains}
use Rattle.limits.specs.declared.link.Link.{Link}
use Rattle.limits.specs.Systems.{Within, at_mark}
use Rattle.chains.specs.Chains.{Leads}
use Rattle.chains.specs.Layers.{layer_of, Makes, Layered, FallsFrom}
use Rattle.chains.specs.Walks.{Fells, Descends}
use Rattle.chains.proofs.LayerFacts.{range_at}

-- from the mark in the k-th layer the links lead to the end, and each made its mark fall; the mark too fell into its layer
pub record Walk (links : List Link) (layers : List (List ℤ)) (end k mark : ℕ) (chain : List Link) : Type 0 where
  pub leads : Leads mark chain end
  pub descends : Descends links layers k chain
  pub falls : (i : ℕ) → i + 1 ≡ k → FallsFrom layers i mark

-- the links from the k-th on are those after it, and before them the one that is put there
pub walk_push : (k marks : ℕ) (steps : List Link) (l : Link) → k < marks → marks ≤ length steps
    → drop k (take marks (set steps k l)) ≡ l ∷ drop (k + 1) (take marks steps)
walk_push k marks steps l inside room =
    let m = marks - (k + 1) in
    let more : k + suc m ≡ marks = omega arith in
    let next : k + 1 + m ≡ marks = omega arith in
    ap (λ n. drop k (take n (set steps k l))) (sym more)
    ∙ drop-take k (suc m) (set steps k l)
    ∙ ap (take (suc m)) (drop-set steps k l (omega arith))
    ∙ ap (◌∷◌ l) (sym (drop-take (k + 1) m steps) ∙ ap (λ n. drop (k + 1) (take n steps)) next)

module _ (links : List Link) (marks : ℕ) (layers : List (List ℤ)) (within : All (Within 128) links) (layered : Layered links marks layers)
    (k mark : ℕ) (inside : k < marks) (fell : FallsFrom layers k mark) where
  -- a link leads to each mark that falls
  pub falls_within : mark ≤ 128
  falls_within =
      let (l, known, (leads, makes)) = (layered.lowers k inside).made mark fell in
      let (from, to, near) = All-contains (Within 128) links l within known in
      omega arith

  -- the mark's total fits
  pub total_fits_next : marks ≤ 129 → SFits w32 (at_mark (layer_of layers (k + 1)) mark)
  total_fits_next few = let near = range_at links 128 marks layers within layered (k + 1) (omega arith) mark in omega (arith, ints)

  module _ (l : Link) (known : Contains links l) (made : Makes (layer_of layers k) mark (at_mark (layer_of layers (k + 1)) mark) l) where
    -- the link made the mark at its end fall
    fells_step : Fells links layers k l
    fells_step = record {
      known = known;
      made = (refl, made.1 ∙ ap (at_mark (layer_of layers (k + 1))) (sym made.0));
      falls = subst (FallsFrom layers k) (sym made.0) fell;
    }

    -- where the link starts, the mark fell one layer before
    falls_before : (i : ℕ) → i + 1 ≡ k → FallsFrom layers i l.from.0
    falls_before i e =
        let below : at_mark (layer_of layers (i + 1)) l.to.0 ≤ℤ (at_mark (layer_of layers i) l.from.0 +ℤ l.allowance) =
        All-contains (λ m. at_mark (layer_of layers (i + 1)) m.to.0 ≤ℤ (at_mark (layer_of layers i) m.from.0 +ℤ m.allowance)) links l (layered.lowers i (omega arith)).below known in
        let there : at_mark (layer_of layers (i + 1)) l.to.0 ≡ at_mark (layer_of layers k) mark = ap (λ n. at_mark (layer_of layers n) l.to.0) e ∙ ap (at_mark (layer_of layers k)) made.0 in
        let here : at_mark (layer_of layers (i + 1)) l.from.0 ≡ at_mark (layer_of layers k) l.from.0 = ap (λ n. at_mark (layer_of layers n) l.from.0) e in
        omega (arith, ints, made.1)

    -- the walk with the link before the others
    pub walk_more : (end n start : ℕ) (chain : List Link) → n ≡ k + 1 → start ≡ l.from.0
        → Walk links layers end n mark chain → Walk links layers end k start (l ∷ chain)
    walk_more end n start chain e from walk = record {
      leads = (sym from, subst (λ m. Leads m chain end) (sym made.0) walk.leads);
      descends = (fells_step, subst (λ j. Descends links layers j chain) e walk.descends);
      falls = λ i h. rw from (falls_before i h);
    }
