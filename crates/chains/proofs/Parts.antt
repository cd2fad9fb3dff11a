-- Parts of a chain, and a mark that comes twice on it.
use Rattle.std.proofs.Common.{◌≡◌, ℕ, zero, suc, ◌+◌, ◌<◌, ◌≤◌, List, [], ◌∷◌, ◌++◌, All, length, get_or, take, drop, ap, sym, refl, ◌∙◌, subst, arith}
use Rattle.std.proofs.lemmas.List.Edits.{between_more, get_or-between, length-between, split_between}
use Rattle.std.specs.List.{between}
use Rattle.limits.specs.declared.link.Link.{Link}
use Rattle.limits.specs.Systems.{Within}
use Rattle.chains.specs.Chains.{Leads}
use Rattle.chains.specs.Walks.{ClosedPart}
use Rattle.chains.proofs.Pigeons.{pigeons}

-- a chain of two parts: the one ends where the other starts
leads_split : (u : ℕ) (xs ys : List Link) (w : ℕ) → Leads u (xs ++ ys) w → (v : ℕ) × Leads u xs v × Leads v ys w
leads_split u [] ys w h = (u, refl, h)
leads_split u (l ∷ xs) ys w (e, h) = let (v, a, b) = leads_split l.to.0 xs ys w h in (v, (e, a), b)

-- a chain ends where its last link does
leads_end : (u : ℕ) (xs : List Link) (l : Link) (w : ℕ) → Leads u (xs ++ l ∷ []) w → l.to.0 ≡ w
leads_end u xs l w h = let (v, a, (e, b)) = leads_split u xs (l ∷ []) w h in b

-- the mark that comes before the i-th link
trail : ℕ → List Link → Link → ℕ → ℕ
trail u steps d zero = u
trail u steps d (suc i) = (get_or steps i d).to.0

-- without the first link
trail_shift : (l : Link) (xs : List Link) (d : Link) (i : ℕ) → trail l.to.0 xs d i ≡ (get_or (l ∷ xs) i d).to.0
unfolding trail
trail_shift l xs d zero = refl
trail_shift l xs d (suc i) = refl

-- the i-th link starts at the mark before it
leads_at : (u : ℕ) (steps : List Link) (w : ℕ) → Leads u steps w → (i : ℕ) (d : Link) → i < length steps → (get_or steps i d).from.0 ≡ trail u steps d i
unfolding trail
leads_at u [] w h i d lt = absurd (omega arith)
leads_at u (l ∷ xs) w (e, h) zero d lt = e
leads_at u (l ∷ xs) w (e, h) (suc i) d lt = leads_at l.to.0 xs w h i d (omega arith) ∙ trail_shift l xs d i

-- on a chain of more links than there are days a mark comes twice
module _ (days u w : ℕ) (steps : List Link) (d : Link) (leads : Leads u steps w) (within : All (Within days) steps) (long : length steps ≡ days + 1) where
  -- the marks are of those days
  trail_small : (i : ℕ) → i ≤ suc days → trail u steps d i ≤ days
  unfolding trail
  trail_small zero h = let at = leads_at u steps w leads 0 d (omega arith) in let start = (within 0 d (omega arith)).0 in omega arith
  trail_small (suc i) h = (within i d (omega arith)).1

  abbrev Apart : Type 0
  Apart = (j : ℕ) → j < length steps → (i : ℕ) → i < j + 1 → (get_or steps i d).from.0 ≡ (get_or steps j d).to.0 → ⊥

  -- where no link ends at a mark from before, no two marks are the same
  never : Apart → (i j : ℕ) → i < j → j ≤ suc days → trail u steps d i ≡ trail u steps d j → ⊥
  unfolding trail
  never apart i zero o m e = omega arith
  never apart i (suc j) o m e = apart j (omega arith) i (omega arith) (leads_at u steps w leads i d (omega arith) ∙ e)

  -- there are more marks on the chain than marks of those days
  pub comes_twice : Apart → ⊥
  comes_twice apart = let (i, j, o, m, e) = pigeons days (trail u steps d) trail_small in never apart i j o m e

-- the part from one place to another is closed if its last link ends where its first starts
module _ (u w : ℕ) (steps : List Link) (d : Link) (leads : Leads u steps w) (start end : ℕ) (order : start < end + 1) (inside : end < length steps)
    (meet : (get_or steps start d).from.0 ≡ (get_or steps end d).to.0) where
  abbrev part : List Link
  part = between start (end + 1) steps

  -- it is not empty
  part_some : 0 < length part
  part_some = omega (arith, length-between steps start (end + 1) (omega arith))

  -- it leads from a mark back to it
  pub closed_between : ClosedPart steps (between start (end + 1) steps)
  unfolding trail
  closed_between =
      let whole = split_between steps start (end + 1) (omega arith) in
      let (p, front, rest) = leads_split u (take start steps) (part ++ drop (end + 1) steps) w (subst (λ xs. Leads u xs w) whole leads) in
      let (q, middle, back) = leads_split p part (drop (end + 1) steps) w rest in
      let first : p ≡ (get_or steps start d).from.0 =
      sym (leads_at p part q middle 0 d part_some) ∙ ap (λ (l : Link). l.from.0) (get_or-between steps start (end + 1) 0 d (omega arith)) ∙ ap (λ i. (get_or steps i d).from.0) (omega arith) in
      let last : (get_or steps end d).to.0 ≡ q =
      leads_end p (between start end steps) (get_or steps end d) q (subst (λ xs. Leads p xs q) (between_more steps start end d (omega arith) inside) middle) in
      record {
        before = take start steps;
        after = drop (end + 1) steps;
        whole = sym whole;
        some = part_some;
        mark = p;
        closed = subst (λ m. Leads p part m) (sym (first ∙ meet ∙ last)) middle;
      }
