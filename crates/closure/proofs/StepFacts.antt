-- Allowances that come closer to the closure, one link and one mark after another.
use Rattle.std.proofs.Common.{◌≡◌, ℕ, ◌+◌, ◌<◌, ℤ, pos, ◌+ℤ◌, ◌≤ℤ◌, List, [], length, slice_set, ap, sym, subst, ◌∙◌, ◌≢◌, ⊎_elim, arith}
use Rattle.std.specs.Int.{int_min}
use Rattle.std.proofs.Math.Seq.{get_or-set_same, get_or-set_other}
use Rattle.std.proofs.lemmas.Bool.{cases_lt, cases_eq}
use Rattle.std.proofs.lemmas.Int.{ints, clamps}
use Rattle.limits.specs.declared.link.Link.{Link}
use Rattle.limits.specs.Links.{Totals}
use Rattle.limits.specs.Systems.{at_mark}
use Rattle.closure.specs.Allowances.{Allowances, cell, Obeys, Covers, Passes}

-- no way by a mark below so many allows less
abbrev pub Triangles : ℕ → ℕ → Allowances → Type 0
Triangles marks n allowed =
    (from via to : ℕ) → from < marks → via < n → to < marks → allowed from to ≤ℤ (allowed from via +ℤ allowed via to)

-- ---- one mark more
module _ (marks via : ℕ) (old new : Allowances) (inside : via < marks) (passes : Passes marks via old new) where
  pub passes_falls : (from to : ℕ) → from < marks → to < marks → new from to ≤ℤ old from to
  passes_falls from to hf ht = omega (arith, ints, clamps, passes from to hf ht)

  pub passes_obeyed : (y : Totals) → Obeys marks old y → Obeys marks new y
  passes_obeyed y obeys from to hf ht =
      let direct = obeys from to hf ht in
      let there = obeys from via hf inside in
      let on = obeys via to inside ht in
      omega (arith, ints, clamps, passes from to hf ht)

  -- ways by earlier marks, and by this one, allow no less: row and column of this mark stand still
  pub passes_triangles : pos 0 ≤ℤ old via via → Triangles marks via old → Triangles marks (via + 1) new
  passes_triangles start triangles from mid to hf hm ht =
      ⊎_elim earlier (λ le. this mid (omega arith)) (cases_lt mid via)
    where
      earlier : mid < via → new from to ≤ℤ (new from mid +ℤ new mid to)
      earlier lt =
          let a = triangles from mid to hf lt ht in
          let b = triangles via mid to inside lt ht in
          let c = triangles from mid via hf lt inside in
          let d = triangles via mid via inside lt inside in
          omega (arith, ints, clamps, passes from to hf ht, passes from mid hf (omega arith), passes mid to (omega arith) ht)

      this : (mark : ℕ) → mark ≡ via → new from to ≤ℤ (new from mark +ℤ new mark to)
      this mark e =
          rw e (omega (arith, ints, clamps, passes from to hf ht, passes from via hf inside, passes via to inside ht))

-- the row of a mark after the ways by another are taken
abbrev pub Lowered : ℕ → ℕ → List (List ℤ) → ℕ → List ℤ → Type 0
Lowered marks via cells from row =
    (to : ℕ) → to < marks → at_mark row to ≡ int_min (cell cells from to) (cell cells from via +ℤ cell cells via to)

-- ---- one link more
module _ (l : Link) (cells : List (List ℤ)) (row : List ℤ) (inside : l.from.0 < length cells)
    (lowered : at_mark row l.to.0 ≡ int_min (cell cells l.from.0 l.to.0) l.allowance)
    (rest : (other : ℕ) → other ≢ l.to.0 → at_mark row other ≡ cell cells l.from.0 other) where
  abbrev after : List (List ℤ)
  after = slice_set cells l.from.0 row

  -- the row of the link's start is the new one, the others are as they were
  row_after : (to : ℕ) → cell after l.from.0 to ≡ at_mark row to
  row_after to = ap (λ xs. at_mark xs to) (get_or-set_same cells l.from.0 row [] inside)

  other_after : (from to : ℕ) → from ≢ l.from.0 → cell after from to ≡ cell cells from to
  other_after from to differs = ap (λ xs. at_mark xs to) (get_or-set_other cells l.from.0 from row [] differs)

  -- a cell is the link's, or as it was
  by_cell : (P : ℕ → ℕ → Type 0) → P l.from.0 l.to.0 → ((from to : ℕ) → cell after from to ≡ cell cells from to → P from to)
      → (from to : ℕ) → P from to
  by_cell P link other from to =
      ⊎_elim
      (λ e. ⊎_elim
      (λ f. subst (λ mark. P mark to) (sym e) (subst (P l.from.0) (sym f) link))
      (λ differs. subst (λ mark. P mark to) (sym e) (other l.from.0 to (row_after to ∙ rest to differs)))
      (cases_eq to l.to.0))
      (λ differs. other from to (other_after from to differs))
      (cases_eq from l.from.0)

  pub link_covered : Covers l (cell cells) (cell after)
  link_covered = record {
    falls = by_cell (λ from to. cell after from to ≤ℤ cell cells from to)
        (omega (arith, ints, clamps, row_after l.to.0)) (λ from to e. omega (arith, ints));
    covers = omega (arith, ints, clamps, row_after l.to.0);
    obeyed = λ marks y keeps obeys.
        by_cell (λ from to. from < marks → to < marks → y to ≤ℤ (y from +ℤ cell after from to))
        (λ hf ht. let old = obeys l.from.0 l.to.0 hf ht in omega (arith, ints, clamps, row_after l.to.0))
        (λ from to e hf ht. omega (arith, ints, obeys from to hf ht));
  }
