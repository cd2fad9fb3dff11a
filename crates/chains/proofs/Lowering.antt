-- One link more in the layer after another.
use Rattle.std.proofs.Common.{◌≡◌, ℕ, ◌+◌, ◌<◌, List, [], ◌∷◌, ◌++◌, Contains, length, take, set, get_or, ap, sym, refl, ◌∙◌, subst, ⊎_elim, to_z, of_z, w16, w32, SFits, arith}
use Rattle.std.specs.Prelude.{ℤ, pos, ◌+ℤ◌, ◌≤ℤ◌, ◌<ℤ◌}
use Rattle.std.specs.Int.{int_min}
use Rattle.std.proofs.lemmas.Bool.{cases_eq}
use Rattle.std.proofs.lemmas.Int.{ints, clamps, by_lt_z, to_z-of_z}
use Rattle.std.proofs.lemmas.List.{get_or-set_same, get_or-set_other, length-set, take_more}
use Rattle.std.proofs.lemmas.List.Elements.{All-push, All-weaker, Contains-append_left, Contains-push}
use Rattle.limits.specs.declared.link.Link.{Link}
use Rattle.limits.specs.Systems.{Within, at_mark}
use Rattle.chains.specs.Layers.{Makes, Lowers, InRange}
use Rattle.chains.proofs.Sums.{coded, coded_is, sum_fits}

-- the mark at the link's end takes the lower of its sum and the link's
module _ (links : List Link) (l : Link) (layer next : List ℤ) (low : ℤ) (fits : l.to.0 < length next)
    (is : low ≡ int_min (at_mark next l.to.0) (at_mark layer l.from.0 +ℤ l.allowance)) (before : Lowers links layer next) where
  abbrev Under : List ℤ → Link → Type 0
  Under now m = at_mark now m.to.0 ≤ℤ (at_mark layer m.from.0 +ℤ m.allowance)

  abbrev after : List ℤ
  after = set next l.to.0 low

  -- what the mark takes
  after_here : at_mark after l.to.0 ≡ low
  after_here = get_or-set_same next l.to.0 low (pos 0) fits

  -- no mark rises
  after_falls : (mark : ℕ) → at_mark after mark ≤ℤ at_mark next mark
  after_falls mark = ⊎_elim
      (λ e. rw e (omega (arith, ints, clamps, after_here)))
      (λ d. omega (arith, ints, get_or-set_other next l.to.0 mark low (pos 0) d))
      (cases_eq mark l.to.0)

  abbrev Made : ℕ → Type 0
  Made mark = (m : Link) × Contains (links ++ l ∷ []) m × Makes layer mark (at_mark after mark) m

  -- where nothing changed, the link is the one from before
  made_before : (mark : ℕ) → at_mark after mark ≡ at_mark next mark → at_mark after mark <ℤ at_mark layer mark → Made mark
  made_before mark same fell =
      let (m, known, (leads, makes)) = before.made mark (rw (← same) fell) in
      (m, Contains-append_left links (l ∷ []) m known, (leads, makes ∙ sym same))

  -- at the mark it is the new link, or the one from before
  made_here : at_mark after l.to.0 <ℤ at_mark layer l.to.0 → Made l.to.0
  made_here fell = by_lt_z (at_mark layer l.from.0 +ℤ l.allowance) (at_mark next l.to.0)
      (λ lower. (l, Contains-push links l, (refl, omega (arith, ints, clamps, after_here))))
      (λ not. made_before l.to.0 (omega (arith, ints, clamps, after_here)) fell)

  -- the layer after one link more
  lowers_push : Lowers (links ++ l ∷ []) layer after
  lowers_push = record {
    falls = λ mark. omega (arith, ints, after_falls mark, before.falls mark);
    below = All-push (Under after) links l
        (All-weaker (Under next) (Under after) (λ m h. omega (arith, ints, after_falls m.to.0)) links before.below)
        (omega (arith, ints, clamps, after_here));
    made = λ mark fell. ⊎_elim
        (λ e. subst (λ m. at_mark after m <ℤ at_mark layer m → Made m) (sym e) made_here fell)
        (λ d. made_before mark (get_or-set_other next l.to.0 mark low (pos 0) d) fell)
        (cases_eq mark l.to.0);
  }

-- the lower of the mark's sum and the link's, as the code makes it
pub low_is : (layer next : List ℤ) (l : Link) (from to : ℕ) (allowance low : ℤ) → from ≡ l.from.0 → allowance ≡ to_z w16 (of_z w16 l.allowance)
    → InRange 128 layer → Within 128 l → SFits w32 (at_mark next to) → SFits w32 low
    → low ≡ int_min (to_z w32 (of_z w32 (at_mark next to))) (to_z w32 (of_z w32 (coded layer from allowance)))
    → to_z w32 (of_z w32 low) ≡ int_min (at_mark next to) (at_mark layer l.from.0 +ℤ l.allowance)
low_is layer next l from to allowance low start is near within old new e =
    let before = to_z-of_z w32 (at_mark next to) old in
    let sum = ap (λ z. to_z w32 (of_z w32 z)) (coded_is layer l from allowance start is near within) ∙ to_z-of_z w32 _ (sum_fits layer l near within) in
    to_z-of_z w32 low new ∙ rw (← before, ← sum) e

-- the layer after one link more of a list, by the link's place there
pub lowers_more : (links : List Link) (i : ℕ) (d : Link) (layer next : List ℤ) (to : ℕ) (low : ℤ) → i < length links → Within 128 (get_or links i d)
    → to ≡ (get_or links i d).to.0 → low ≡ int_min (at_mark next to) (at_mark layer (get_or links i d).from.0 +ℤ (get_or links i d).allowance)
    → Lowers (take i links) layer next × (length next ≡ 129)
    → Lowers (take (i + 1) links) layer (set next to low) × (length (set next to low) ≡ 129)
lowers_more links i d layer next to low inside within e is (before, long) = (
  rw (take_more links i d inside, e)
      (lowers_push (take i links) (get_or links i d) layer next low (omega arith) (rw (← e) is) before),
  length-set next to low ∙ long,
)
