-- Where a byte stands, by the byte before it.
use Rattle.std.specs.Prelude.{◌≡◌, ◌≢◌, ℕ, ◌+◌, ◌-◌, ◌≤◌, ◌==◌, nat_lt, List, slice_get, Option, Some, None}
use Rattle.std.proofs.Common.{arith, sym, ap, ◌∙◌, inl, inr}
use Rattle.std.proofs.lemmas.Bool.{cases_Bool, cond-false, ne_eqb}
use Rattle.std.proofs.lemmas.List.Sums.{fold_more}
use Rattle.std.proofs.lemmas.Option.{slice_get_within, get_or_from_slice_get}
use Rattle.reader.specs.declared.place.Place.{Place}
use Rattle.reader.specs.Places.{moved, spot, position_of, byte_at, longest}

module _ (text : List ℕ) (n b : ℕ) (e : byte_at text n ≡ Some b) where
  read : slice_get text n ≡ Some b
  read =
      elim (cases_Bool (nat_lt n longest)) [
        | inl t ↦ rw t at e
        | inr f ↦ let none : ◌≡◌ {A = Option ℕ} None (Some b) = rw f at e in cc
      ]

  onward : (p : Place) → p ≡ position_of text n → moved p b ≡ position_of text (n + 1)
  onward p is = ap (λ q. moved q b) is ∙ sym (fold_more moved _ text n 0 (slice_get_within text n b read) ∙ ap (moved (position_of text n)) (get_or_from_slice_get text n b 0 read))

  pub beside : (line begun : ℕ) → begun ≤ n → spot line begun n ≡ position_of text n → b ≢ 10
      → spot line begun (n + 1) ≡ position_of text (n + 1)
  beside line begun from is ne =
      let column : n + 1 - begun + 1 ≡ n - begun + 1 + 1 = omega arith in
      ap (λ k. record { line = line; column = k }) column ∙ sym (cond-false (b == 10) _ _ (ne_eqb b 10 ne)) ∙ onward (spot line begun n) is

pub below : (text : List ℕ) (n : ℕ) → byte_at text n ≡ Some 10 → (line begun : ℕ) → spot line begun n ≡ position_of text n
    → spot (line + 1) (n + 1) (n + 1) ≡ position_of text (n + 1)
below text n e line begun is =
    let column : n + 1 - (n + 1) + 1 ≡ 1 = omega arith in
    ap (λ k. record { line = line + 1; column = k }) column ∙ onward text n 10 e (spot line begun n) is
