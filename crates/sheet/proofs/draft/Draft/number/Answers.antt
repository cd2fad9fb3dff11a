use Rattle.std.proofs.Common.{arith, refl, sym, ◌∙◌, ◌≡◌, ℕ, ◌<◌, ◌≤◌, length, length-append, List, [], ◌∷◌, ◌++◌, slice_set}
use Rattle.sheet.specs.Drafts.{first_four, value_of}
use Rattle.sheet.proofs.draft.Draft.number.Goals as goal

-- the next of the first four single numbers is put in its place
next_in_place : (ns : List ℕ) (n : ℕ) → length ns < 4 → slice_set (first_four ns) (length ns) n ≡ first_four (ns ++ (n ∷ []))
next_in_place [] n h = refl
next_in_place (a ∷ []) n h = refl
next_in_place (a ∷ b ∷ []) n h = refl
next_in_place (a ∷ b ∷ c ∷ []) n h = refl
next_in_place (a ∷ b ∷ c ∷ d ∷ ns) n h = absurd (omega arith)

-- and a later one changes none of them
later_left_out : (ns : List ℕ) (n : ℕ) → 4 ≤ length ns → first_four ns ≡ first_four (ns ++ (n ∷ []))
later_left_out (a ∷ b ∷ c ∷ d ∷ ns) n h = refl
later_left_out ns n h = absurd (omega arith)

pub returns-then-self-lt4 : goal.returns-then-self-lt4
returns-then-self-lt4 c = λ g h.
    let n = value_of c.args.digits.now in
    let place : c.args.self.now.count ≡ length g.single = omega (arith, h.count) in
    let next = next_in_place g.single n (omega arith) in
    rw (sym h.part ∙ c.in-Single.is) (record {
      name = h.name;
      part = c.in-Single.is;
      single = cc c.value-number.ensures;
      count = omega (arith, length-append g.single (n ∷ []));
      codes = h.codes;
      counts = h.counts;
    })

pub returns-else-self-lt4 : goal.returns-else-self-lt4
returns-else-self-lt4 c = λ g h.
    let n = value_of c.args.digits.now in
    rw (sym h.part ∙ c.in-Single.is) (record {
      name = h.name;
      part = c.in-Single.is;
      single = h.single ∙ later_left_out g.single n (omega arith);
      count = omega (arith, length-append g.single (n ∷ []));
      codes = h.codes;
      counts = h.counts;
    })
