-- From what the days allow to the closure: one link after another, then the ways by one mark after another.
use Rattle.std.proofs.Common.{◌≡◌, ℕ, ◌+◌, ◌<◌, ◌≤◌, pos, neg_ℤ, ◌≤ℤ◌, length, slice_index_or, ⊎_elim, arith}
use Rattle.std.proofs.lemmas.Bool.{cases_lt}
use Rattle.std.proofs.lemmas.Grind.{not_there}
use Rattle.std.proofs.lemmas.Int.{ints, by_lt_z}
use Rattle.std.proofs.lemmas.List.{get_or_default}
use Rattle.limits.specs.declared.link.Link.{Link}
use Rattle.limits.specs.Links.{Totals, Solves}
use Rattle.limits.specs.Systems.{System, Solvable, Bounds, marks}
use Rattle.closure.specs.Closures.{Closes}
use Rattle.closure.specs.Allowances.{Allowances, AllNear, Covered, Obeys, Covers, Passes}
use Rattle.closure.proofs.DayFacts.{solution_near}
use Rattle.closure.proofs.StepFacts.{Triangles, passes_falls, passes_obeyed, passes_triangles}

-- so many links are covered, and ways by so many marks are taken
pub record Closing (s : System) (links via : ℕ) (allowed : Allowances) : Type 0 where
  pub covers : (k : ℕ) (d : Link) → k < links → Covered allowed (slice_index_or s.links k d)
  pub implied : (y : Totals) → Solves s.links y → Obeys (marks s) allowed y
  pub triangles : Triangles (marks s) via allowed
  pub below : (from to : ℕ) → from < marks s → to < marks s → allowed from to ≤ℤ pos 8064
  pub diagonal : (mark : ℕ) → mark < marks s → allowed mark mark ≤ℤ pos 0

module _ (s : System) (bounds : Bounds s) (solvable : ∥ Solvable s ∥₁) where
  -- a solution keeps the numbers from falling too far
  module _ (links via : ℕ) (allowed : Allowances) (closing : Closing s links via allowed) where
    pub closing_near : AllNear (marks s) allowed
    closing_near from to hf ht = (
      by_lt_z (allowed from to) (neg_ℤ (pos 8064))
          (λ low. absurd (not_there solvable (λ (y, solves).
          let obeys = closing.implied y solves from to hf ht in
          let near = solution_near s bounds y solves from to hf ht in
          omega (arith, ints))))
          (λ le. le),
      closing.below from to hf ht,
    )

    -- and the way from a mark back to it at 0
    pub closing_diagonal : (mark : ℕ) → mark < marks s → pos 0 ≤ℤ allowed mark mark
    closing_diagonal mark h =
        by_lt_z (allowed mark mark) (pos 0)
        (λ low. absurd (not_there solvable (λ (y, solves). let obeys = closing.implied y solves mark mark h h in omega (arith, ints))))
        (λ le. le)

  -- ---- one link more
  module _ (k : ℕ) (d : Link) (old new : Allowances) (inside : k < length s.links) (covers : Covers (slice_index_or s.links k d) old new) where
    this : (at : ℕ) (e : Link) → at ≡ k → Covered new (slice_index_or s.links at e)
    this at e is = rw (is, get_or_default s.links k e d inside) covers.covers

    pub closing_covers : Closing s k 0 old → Closing s (k + 1) 0 new
    closing_covers closing = record {
      covers = λ at e h.
          ⊎_elim
          (λ lt. omega (arith, ints, closing.covers at e lt, covers.falls (slice_index_or s.links at e).from.0 (slice_index_or s.links at e).to.0))
          (λ le. this at e (omega arith))
          (cases_lt at k);
      implied = λ y solves. covers.obeyed (marks s) y (solves k d inside) (closing.implied y solves);
      triangles = λ from mid to hf hm ht. absurd (omega arith);
      below = λ from to hf ht. omega (arith, ints, covers.falls from to, closing.below from to hf ht);
      diagonal = λ mark h. omega (arith, ints, covers.falls mark mark, closing.diagonal mark h);
    }

  -- ---- one mark more
  module _ (via : ℕ) (old new : Allowances) (inside : via < marks s) (passes : Passes (marks s) via old new) where
    falls : (from to : ℕ) → from < marks s → to < marks s → new from to ≤ℤ old from to
    falls = passes_falls (marks s) via old new inside passes

    pub closing_passes : Closing s (length s.links) via old → Closing s (length s.links) (via + 1) new
    closing_passes closing = record {
      covers = λ k d h.
          let within = bounds.within k d h in
          let lower = falls (slice_index_or s.links k d).from.0 (slice_index_or s.links k d).to.0 (omega arith) (omega arith) in
          omega (arith, ints, closing.covers k d h);
      implied = λ y solves. passes_obeyed (marks s) via old new inside passes y (closing.implied y solves);
      triangles = passes_triangles (marks s) via old new inside passes
          (closing_diagonal (length s.links) via old closing via inside) closing.triangles;
      below = λ from to hf ht. omega (arith, ints, falls from to hf ht, closing.below from to hf ht);
      diagonal = λ mark h. omega (arith, ints, falls mark mark h h, closing.diagonal mark h);
    }

  -- all links are covered, and ways by all marks are taken
  pub closing_ends : (via : ℕ) (allowed : Allowances) → marks s ≤ via → Closing s (length s.links) via allowed → Closes s allowed
  closing_ends via allowed all closing = record {
    covers = closing.covers;
    implied = closing.implied;
    triangle = λ from mid to hf hm ht. closing.triangles from mid to hf (omega arith) ht;
    diagonal = λ mark h.
        omega (arith, ints, closing.diagonal mark h, closing_diagonal (length s.links) via allowed closing mark h);
  }
