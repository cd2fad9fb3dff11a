-- A closed part of the walk blocks the system, and what blocks it rules out every solution.
use Rattle.std.proofs.Common.{◌≡◌, ℕ, zero, suc, ◌+◌, ◌<◌, ◌≤◌, List, [], ◌∷◌, ◌++◌, All, Contains, length, ap, sym, ◌∙◌, subst, arith, length-append}
use Rattle.std.specs.Prelude.{ℤ, pos, ◌+ℤ◌, ◌≤ℤ◌, ◌<ℤ◌}
use Rattle.std.proofs.lemmas.Int.{ints}
use Rattle.std.proofs.lemmas.List.Elements.{All-nil, All-cons, All-head, All-tail, All-contains, All-weaker}
use Rattle.limits.specs.declared.link.Link.{Link}
use Rattle.limits.specs.Links.{Totals, Keeps, Solves}
use Rattle.limits.specs.Systems.{System, days, marks, Within, at_mark}
use Rattle.chains.specs.Chains.{Leads, sum, Sound, Blocks}
use Rattle.chains.specs.Layers.{layer_of, Layered, FallsFrom}
use Rattle.chains.specs.Walks.{Descends, ClosedPart}

-- ---- what blocks a system rules out every solution
-- along a chain whose links they keep, totals rise by what these allow together at the most
leads_bound : (y : Totals) (u : ℕ) (chain : List Link) (v : ℕ) → All (Keeps y) chain → Leads u chain v → y v ≤ℤ (y u +ℤ sum chain)
leads_bound y u [] v keeps e = let same : y u ≡ y v = ap y e in omega (arith, ints)
leads_bound y u (l ∷ chain) v keeps (e, more) =
    let same : y l.from.0 ≡ y u = ap y e in
    let first = All-head (Keeps y) l chain keeps in
    let rest = leads_bound y l.to.0 chain v (All-tail (Keeps y) l chain keeps) more in
    omega (arith, ints)

-- so no totals keep every known link where a closed chain of such links has a sum below zero
pub sound_excludes : (Known : Link → Type 0) (most : ℕ) (chain : List Link) → Sound Known most chain
    → (y : Totals) → ((k : Link) → Known k → Keeps y k) → ⊥
sound_excludes Known most chain sound y keeps =
    let all = All-weaker Known (Keeps y) keeps chain sound.known in
    omega (arith, ints, leads_bound y sound.mark chain sound.mark all sound.closed, sound.negative)

pub blocks_all : (s : System) (chain : List Link) → Blocks s chain → (y : Totals) → Solves s.links y → ⊥
blocks_all s chain blocks y solves =
    sound_excludes (Contains s.links) (marks s) chain blocks y (λ k. All-contains (Keeps y) s.links k solves)

-- ---- chains that descend
module _ (links : List Link) (layers : List (List ℤ)) where
  -- its links are among those known
  pub descends_known : (k : ℕ) (chain : List Link) → Descends links layers k chain → All (Contains links) chain
  descends_known k [] h = All-nil (Contains links)
  descends_known k (l ∷ chain) (fells, rest) = All-cons (Contains links) l chain fells.known (descends_known (k + 1) chain rest)

  -- without its first links it descends from the layer that they lead to
  descends_after : (k : ℕ) (xs ys : List Link) → Descends links layers k (xs ++ ys) → Descends links layers (k + length xs) ys
  descends_after k [] ys h = subst (λ n. Descends links layers n ys) (omega arith) h
  descends_after k (l ∷ xs) ys (fells, rest) =
      subst (λ n. Descends links layers n ys) (omega arith) (descends_after (k + 1) xs ys rest)

  -- its first links descend from the same layer
  descends_front : (k : ℕ) (xs ys : List Link) → Descends links layers k (xs ++ ys) → Descends links layers k xs
  descends_front k [] ys h = tt
  descends_front k (l ∷ xs) ys (fells, rest) = (fells, descends_front (k + 1) xs ys rest)

  abbrev layer_total : ℕ → ℕ → ℤ
  layer_total k mark = at_mark (layer_of layers k) mark

  -- what its links allow is what its last mark's sum is above that of its first
  descends_sum : (k u : ℕ) (chain : List Link) (v : ℕ) → Leads u chain v → Descends links layers k chain
      → layer_total (k + length chain) v ≡ layer_total k u +ℤ sum chain
  descends_sum k u [] v e h =
      let same : layer_total (k + 0) v ≡ layer_total k u = ap (λ n. layer_total n v) (omega arith) ∙ ap (layer_total k) (sym e) in omega (arith, ints)
  descends_sum k u (l ∷ chain) v (e, more) (fells, rest) =
      let after = descends_sum (k + 1) l.to.0 chain v more rest in
      let same : layer_total (k + suc (length chain)) v ≡ layer_total (k + 1 + length chain) v = ap (λ n. layer_total n v) (omega arith) in
      let start : layer_total k l.from.0 ≡ layer_total k u = ap (layer_total k) e in
      omega (arith, ints, fells.made.1)

  -- its last mark fell into its layer
  descends_falls : (k u : ℕ) (l : Link) (chain : List Link) (v : ℕ) → Leads u (l ∷ chain) v → Descends links layers k (l ∷ chain)
      → FallsFrom layers (k + length chain) v
  descends_falls k u l [] v (e, more) (fells, rest) =
      let here : k + 0 ≡ k = omega arith in rw (here, ← more) fells.falls
  descends_falls k u l (m ∷ chain) v (e, more) (fells, rest) =
      subst (λ n. FallsFrom layers n v) (omega arith) (descends_falls (k + 1) l.to.0 m chain v more rest)

  module _ (n : ℕ) (layered : Layered links n layers) where
    -- no mark rises over several layers
    layers_fall : (i d mark : ℕ) → i + d ≤ n → layer_total (i + d) mark ≤ℤ layer_total i mark
    layers_fall i zero mark h = let same : layer_total (i + 0) mark ≡ layer_total i mark = ap (λ k. layer_total k mark) (omega arith) in omega (arith, ints)
    layers_fall i (suc d) mark h =
        let same : layer_total (i + suc d) mark ≡ layer_total (i + d + 1) mark = ap (λ k. layer_total k mark) (omega arith) in
        let before = layers_fall i d mark (omega arith) in
        let falls = (layered.lowers (i + d) (omega arith)).falls mark in
        omega (arith, ints)

    -- closed, it has a sum below zero
    negative : (k mark : ℕ) (chain : List Link) → 0 < length chain → k + length chain ≤ n → Leads mark chain mark → Descends links layers k chain
        → sum chain <ℤ pos 0
    negative k mark [] some h leads descends = absurd (omega arith)
    negative k mark (l ∷ chain) some h leads descends =
        let rise = descends_sum k mark (l ∷ chain) mark leads descends in
        let same : layer_total (k + suc (length chain)) mark ≡ layer_total (k + length chain + 1) mark = ap (λ n. layer_total n mark) (omega arith) in
        let fell = descends_falls k mark l chain mark leads descends in
        let before = layers_fall k (length chain) mark (omega arith) in
        omega (arith, ints)

-- a closed part of the walk blocks the system
pub part_blocks : (s : System) (layers : List (List ℤ)) (steps part : List Link) → Layered s.links (days s + 1) layers → length steps ≡ days s + 1
    → Descends s.links layers 0 steps → ClosedPart steps part → Blocks s part
part_blocks s layers steps part layered long descends closed =
    let before = closed.before in
    let after = closed.after in
    let whole = subst (Descends s.links layers 0) (sym closed.whole) descends in
    let rest = descends_after s.links layers 0 before (part ++ after) whole in
    let own = descends_front s.links layers (0 + length before) part after rest in
    let size = ap length closed.whole in
    let fits : length before + (length part + length after) ≡ days s + 1 = omega (arith, length-append before (part ++ after), length-append part after) in
    record {
      known = descends_known s.links layers (0 + length before) part own;
      mark = closed.mark;
      closed = closed.closed;
      few = omega arith;
      negative = negative s.links layers (days s + 1) layered (0 + length before) closed.mark part closed.some (omega arith) closed.closed own;
    }

-- links of the system run between its marks
pub known_within : (days : ℕ) (links chain : List Link) → All (Within days) links → All (Contains links) chain → All (Within days) chain
known_within days links chain within known =
    All-weaker (Contains links) (Within days) (λ l h. All-contains (Within days) links l within h) chain known
