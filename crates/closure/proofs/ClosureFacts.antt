-- What the closure tells of the solutions.
use Rattle.std.proofs.Common.{◌≡◌, ℕ, ◌<◌, ℤ, neg_ℤ, ◌+ℤ◌, ◌-ℤ◌, ◌≤ℤ◌, List, length, slice_index_or, arith}
use Rattle.std.specs.Int.{int_min}
use Rattle.std.proofs.lemmas.Int.{ints, clamps}
use Rattle.limits.specs.Links.{Totals, Solves}
use Rattle.limits.specs.Systems.{System, at_mark, Bounds, marks}
use Rattle.closure.specs.Closures.{Closes, Starts, Smallest, Largest, Reaches}
use Rattle.closure.specs.Allowances.{Allowances}

module _ (s : System) (bounds : Bounds s) where
  -- only the totals at the marks count
  pub solves_same : (y z : Totals) → ((mark : ℕ) → mark < marks s → z mark ≡ y mark) → Solves s.links y → Solves s.links z
  solves_same y z same solves k d h =
      let within = bounds.within k d h in
      let from = same (slice_index_or s.links k d).from.0 (omega arith) in
      let to = same (slice_index_or s.links k d).to.0 (omega arith) in
      let keeps = solves k d h in
      omega (arith, ints)

  -- nor does it count where all of them start
  pub solves_moved : (y : Totals) (by : ℤ) → Solves s.links y → Solves s.links (λ mark. y mark -ℤ by)
  solves_moved y by solves k d h = omega (arith, ints, solves k d h)

module _ (s : System) (allowed : Allowances) (bounds : Bounds s) (closes : Closes s allowed) where
  -- ---- the smallest and the largest
  smallest_solves : Solves s.links (λ mark. neg_ℤ (allowed mark 0))
  smallest_solves k d h =
      let within = bounds.within k d h in
      let covers = closes.covers k d h in
      let l = slice_index_or s.links k d in
      let way = closes.triangle l.from.0 l.to.0 0 (omega arith) (omega arith) (omega arith) in
      omega (arith, ints)

  largest_solves : Solves s.links (λ mark. allowed 0 mark)
  largest_solves k d h =
      let within = bounds.within k d h in
      let covers = closes.covers k d h in
      let l = slice_index_or s.links k d in
      let way = closes.triangle 0 l.from.0 l.to.0 (omega arith) (omega arith) (omega arith) in
      omega (arith, ints)

  -- such totals are the smallest
  pub is_smallest : (totals : List ℤ) → length totals ≡ marks s
      → ((mark : ℕ) → mark < marks s → at_mark totals mark ≡ neg_ℤ (allowed mark 0)) → Smallest s totals
  is_smallest totals long is = record {
    long = long;
    solves = (
      solves_same s bounds (λ mark. neg_ℤ (allowed mark 0)) (at_mark totals) is smallest_solves,
      omega (arith, ints, is 0 (omega arith), closes.diagonal 0 (omega arith)),
    );
    smallest = λ y starts mark h.
        let obeys = closes.implied y starts.0 mark 0 h (omega arith) in
        omega (arith, ints, is mark h, starts.1);
  }

  -- such totals are the largest
  pub is_largest : (totals : List ℤ) → length totals ≡ marks s
      → ((mark : ℕ) → mark < marks s → at_mark totals mark ≡ allowed 0 mark) → Largest s totals
  is_largest totals long is = record {
    long = long;
    solves = (
      solves_same s bounds (λ mark. allowed 0 mark) (at_mark totals) is largest_solves,
      omega (arith, ints, is 0 (omega arith), closes.diagonal 0 (omega arith)),
    );
    largest = λ y starts mark h.
        let obeys = closes.implied y starts.0 0 mark (omega arith) h in
        omega (arith, ints, is mark h, starts.1);
  }

  -- ---- from a mark to another
  module _ (from to : ℕ) (inside : (from < marks s) × (to < marks s)) where
    pub rise_within : (y : Totals) → Starts s y
        → (neg_ℤ (allowed to from) ≤ℤ (y to -ℤ y from)) × ((y to -ℤ y from) ≤ℤ allowed from to)
    rise_within y starts =
        let up = closes.implied y (starts.0) from to (inside.0) (inside.1) in
        let down = closes.implied y (starts.0) to from (inside.1) (inside.0) in
        (omega (arith, ints), omega (arith, ints))

    -- as far up as the two marks allow, where the one is so much above the other
    towards : ℤ → Totals
    towards rise mark = int_min (allowed from mark) (rise +ℤ allowed to mark)

    module _ (rise : ℤ) (low : neg_ℤ (allowed to from) ≤ℤ rise) (high : rise ≤ℤ allowed from to) where
      towards_solves : Solves s.links (towards rise)
      unfolding towards
      towards_solves k d h =
          let within = bounds.within k d h in
          let covers = closes.covers k d h in
          let l = slice_index_or s.links k d in
          let a = closes.triangle from l.from.0 l.to.0 (inside.0) (omega arith) (omega arith) in
          let b = closes.triangle to l.from.0 l.to.0 (inside.1) (omega arith) (omega arith) in
          omega (arith, ints, clamps)

      towards_rises : towards rise to -ℤ towards rise from ≡ rise
      unfolding towards
      towards_rises =
          let a = closes.diagonal from (inside.0) in
          let b = closes.diagonal to (inside.1) in
          omega (arith, ints, clamps)

      pub rise_reached : (y : Totals) × Starts s y × (y to -ℤ y from ≡ rise)
      rise_reached = (
        (λ mark. towards rise mark -ℤ towards rise 0),
        (solves_moved s bounds (towards rise) (towards rise 0) towards_solves, omega (arith, ints)),
        omega (arith, ints, towards_rises),
      )

    -- these are exactly the rises
    pub reaches : Reaches s from to (neg_ℤ (allowed to from)) (allowed from to)
    reaches = record { within = rise_within; reached = rise_reached }
