-- Verdicts that are true of one plan show the same.
use Rattle.std.proofs.Common.{◌≡◌, ℕ, ◌+◌, ◌-◌, ◌<◌, ◌≤◌, Bool, List, [], ◌∷◌, length, get_or, slice_get, slice_index_or, refl, sym, ap, ◌∙◌, arith}
use Rattle.std.specs.Prelude.{filter}
use Rattle.std.specs.Cmp.{both_ways}
use Rattle.std.specs.List.{range_with_len}
use Rattle.std.proofs.lemmas.Grind.{same_number_lists}
use Rattle.std.proofs.lemmas.Option.{slice_get-get_or}
use Rattle.codes.specs.declared.set.CodeSet.{CodeSet}
use Rattle.codes.specs.Members.{member, members}
use Rattle.entry.specs.Cells.{Meaning, weigh}
use Rattle.ledger.specs.Ledgers.{Ledger}
use Rattle.ledger.specs.Rosters.{Roster, total}
use Rattle.plan.specs.Tables.{IsDay}
use Rattle.settlement.specs.declared.verdict.Agreement.{Agreement}
use Rattle.settlement.specs.declared.verdict.Verdict.TheVariants.{Agreed}
use Rattle.settlement.specs.Settlements.{Foremost, Meets, possible, among}
use Rattle.settlement.proofs.Following.{follows_itself}
use Rattle.settlement.proofs.WeightSums.{total_more}

filter_alike : {X : Type 0} (p q : X → Bool) (xs : List X) → ((x : X) → p x ≡ q x) → filter p xs ≡ filter q xs
filter_alike p q [] h = refl
filter_alike p q (x ∷ xs) h = let rest = filter_alike p q xs h in let first = h x in grind arith

members_alike : (s t : CodeSet) → ((c : ℕ) → member s c ≡ member t c) → members s ≡ members t
unfolding members
members_alike s t h = filter_alike (member s) (member t) (range_with_len 0 64) h

module _ (l : Ledger) where
  -- two rosters that are each ahead of the other are one
  one_foremost : (Ahead : ℕ → ℕ → Type 0) → ((m n : ℕ) → Ahead m n → Ahead n m → m ≡ n)
      → (r s : Roster) → Foremost Ahead l r → Foremost Ahead l s → r ≡ s
  one_foremost Ahead order r s a b =
      same_number_lists r s (a.lawful.long ∙ sym b.lawful.long) (λ k within.
      let before : k + 1 - 1 ≡ k = omega arith in
      let inner : k < length l.days = omega (arith, a.lawful.long) in
      let m : Meaning = slice_index_or l.days k [] in
      let c = get_or r k 0 in
      let d = get_or s k 0 in
      let day = slice_get-get_or l.days k [] inner in
      let of_r = slice_get-get_or r k 0 within in
      let of_s = slice_get-get_or s k 0 (omega (arith, a.lawful.long, b.lawful.long)) in
      let same : (mark : ℕ) → mark ≤ length l.days → total l.days r mark ≡ total l.days s mark =
      λ mark le. order _ _ (a.ahead s b.lawful mark le) (b.ahead r a.lawful mark le) in
      let weighs : weigh m c ≡ weigh m d =
      omega (arith, same k (omega arith), same (k + 1) (omega arith), total_more l.days r k c m day of_r, total_more l.days s k d m day of_s) in
      let held_c = ((follows_itself l r a.lawful).item k m c day of_r).0 in
      let held_d = ((follows_itself l s b.lawful).item k m d day of_s).0 in
      let such : IsDay l (k + 1) = (omega arith, omega arith) in
      let up = a.smallest (k + 1) c d such (rw before of_r) (rw before held_d) (rw before (sym weighs)) in
      let down = b.smallest (k + 1) d c such (rw before of_s) (rw before held_c) (rw before weighs) in
      omega (arith, up, down))

  module _ (a b : Agreement) (of_a : Meets l (Agreed a)) (of_b : Meets l (Agreed b)) where
    reads : (x : Agreement) → length x.possible ≡ length l.days → (k c : ℕ) (d : CodeSet) → k < length l.days
        → possible (Agreed x) (k + 1) c ≡ member (get_or x.possible k d) c
    reads x long k c d inner =
        let before : k + 1 - 1 ≡ k = omega arith in
        ap (λ i. among (slice_get x.possible i) c) before ∙ ap (λ o. among o c) (slice_get-get_or x.possible k d (omega (arith, long)))

    pub same_members : (k : ℕ) (d : CodeSet) → k < length l.days → members (get_or a.possible k d) ≡ members (get_or b.possible k d)
    same_members k d inner =
        members_alike _ _ (λ c.
        let such : IsDay l (k + 1) = (omega arith, omega arith) in
        let p = of_a.possible (k + 1) c such in
        let q = of_b.possible (k + 1) c such in
        sym (reads a (of_a.daily refl) k c d inner)
        ∙ both_ways _ _ (λ t. q.1 (p.0 t)) (λ t. p.1 (q.0 t))
        ∙ reads b (of_b.daily refl) k c d inner)

    pub same_lean : a.lean ≡ b.lean
    same_lean = one_foremost (λ m n. m ≤ n) (λ m n le ge. omega arith) a.lean b.lean (of_a.lean refl) (of_b.lean refl)

    pub same_full : a.full ≡ b.full
    same_full = one_foremost (λ m n. n ≤ m) (λ m n le ge. omega arith) a.full b.full (of_a.full refl) (of_b.full refl)
