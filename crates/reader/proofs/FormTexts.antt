-- What a byte does to a form that is held as text.
use Rattle.std.specs.Prelude.{◌≡◌, ◌≢◌, ℕ, ◌≤◌, ◌<◌, ◌-◌, ◌⊎◌, true, ◌==◌, List, [], ◌∷◌, length, take, drop, slice_index, refl}
use Rattle.std.proofs.Common.{sym, subst, arith, ⊎_elim}
use Rattle.std.proofs.lemmas.Bool.{cond_both, eqb-true}
use Rattle.std.proofs.lemmas.Bool.Decides.{nat_tests}
use Rattle.std.proofs.lemmas.List.{take_rest}
use Rattle.reader.specs.Forms.{lit, num, more, list, Digit, Spells, Goes, Stuck}
use Rattle.reader.specs.Left.{shape, apart}
use Rattle.reader.proofs.Steps.{lit_goes, lit_stuck, num_zero, num_lead, num_stuck, list_blank, list_other, list_stuck, number, listed}

-- what it tells of a text that it is apart
module _ (c : ℕ) (cs : List ℕ) (h : apart (c ∷ cs) ≡ true) where
  no_digit : Digit c → ⊥
  no_digit d = grind (arith, nat_tests)

  pub no_break : c ≢ 10
  no_break e = grind (arith, nat_tests)

  pub rest_apart : apart cs ≡ true
  rest_apart = grind (arith, nat_tests)

  behind_number : c ≡ 35 → slice_index cs 0 ≢ 35
  behind_number e = grind (arith, nat_tests)

  behind_list : c ≡ 42 → slice_index cs 0 ≡ 41
  behind_list e = grind (arith, nat_tests)

-- a text that begins with the byte 41 begins with no other
closing : (b : ℕ) (cs : List ℕ) → slice_index cs 0 ≡ 41 → b ≢ 41 → Stuck b (shape cs)
closing b [] e ne = absurd (omega arith)
closing b (c ∷ cs) e ne = rw e (lit_stuck b 41 (shape cs) ne)

-- behind a number no text begins with a digit
pub digit_stuck : (b : ℕ) (cs : List ℕ) → apart (35 ∷ cs) ≡ true → Digit b → Stuck b (shape cs)
digit_stuck b [] h digit = cc
digit_stuck b (c ∷ cs) h (low, high) =
    let rest = rest_apart 35 (c ∷ cs) h in
    let other = no_digit c cs rest in
    cond_both (c == 35) (num (shape cs)) _ (Stuck b)
    (λ e. absurd (behind_number 35 (c ∷ cs) h refl (eqb-true c 35 e)))
    (λ _. cond_both (c == 42) (list (shape cs)) (lit c (shape cs)) (Stuck b)
    (λ e. list_stuck b (shape cs) (λ z. omega arith) (closing b cs (behind_list c cs rest (eqb-true c 42 e)) (λ z. omega arith)))
    (λ _. lit_stuck b c (shape cs) (λ e. other (omega arith, omega arith))))

-- only the empty text as a form spells the empty text
pub over : (cs : List ℕ) → apart cs ≡ true → Spells (shape cs) [] → cs ≡ []
over [] h = λ s. refl
over (c ∷ cs) h =
    cond_both (c == 35) (num (shape cs)) _ (λ f. Spells f [] → c ∷ cs ≡ [])
    (λ _ s. let (b, r, e, parts) = number (shape cs) [] s in cc)
    (λ _. cond_both (c == 42) (list (shape cs)) (lit c (shape cs)) (λ f. Spells f [] → c ∷ cs ≡ [])
    (λ e s. ⊎_elim
    (λ s'.
    let none = over cs (rest_apart c cs h) s' in
    let bad : slice_index [] 0 ≡ 41 = rw none at (behind_list c cs h (eqb-true c 42 e)) in
    absurd (omega arith))
    (λ (r, e', s'). cc)
    (listed (shape cs) [] s))
    (λ _ (r, e, s). cc))

-- a text by its first byte, and by its first two
abbrev tail : List ℕ → List ℕ
tail cs = take (length cs - 1) (drop 1 cs)

first : (c : ℕ) (cs : List ℕ) → slice_index cs 0 ≡ c → 0 < c → cs ≡ c ∷ tail cs
first c [] e some = absurd (omega arith)
first c (x ∷ cs) e some = cc (take_rest (x ∷ cs) 1)

second : (c d : ℕ) (cs : List ℕ) → slice_index cs 0 ≡ c → slice_index cs 1 ≡ d → 0 < d
    → cs ≡ c ∷ (d ∷ take (length cs - 2) (drop 2 cs))
second c d [] e e' some = absurd (omega arith)
second c d (x ∷ []) e e' some = absurd (omega arith)
second c d (x ∷ (y ∷ cs)) e e' some = cc (take_rest (x ∷ (y ∷ cs)) 2)

-- what a byte does to a number or a list that a text begins with
module _ (b : ℕ) (cs : List ℕ) where
  pub at_zero : slice_index cs 0 ≡ 35 → b ≡ 48 → Goes b (shape cs) (more 0 (shape (tail cs)))
  at_zero e z = let rest = tail cs in rw z (subst (λ l. Goes 48 (shape l) (more 0 (shape rest))) (sym (first 35 cs e (omega arith))) (num_zero (shape rest)))

  pub at_lead : slice_index cs 0 ≡ 35 → 49 ≤ b → b ≤ 57 → Goes b (shape cs) (more 5 (shape (tail cs)))
  at_lead e low high = let rest = tail cs in subst (λ l. Goes b (shape l) (more 5 (shape rest))) (sym (first 35 cs e (omega arith))) (num_lead b (shape rest) low high)

  pub at_blank : apart cs ≡ true → slice_index cs 0 ≡ 42 → b ≡ 32 → Goes b (shape cs) (num (shape cs))
  at_blank h e z =
      let is = first 42 cs e (omega arith) in
      let next = behind_list 42 (tail cs) (rw is at h) refl in
      rw z (subst (λ l. Goes 32 (shape l) (num (shape l))) (sym is) (list_blank (shape (tail cs)) (closing 32 (tail cs) next (λ e'. omega arith))))

  pub at_close : slice_index cs 0 ≡ 42 → slice_index cs 1 ≡ 41 → b ≡ 41
      → Goes b (shape cs) (shape (take (length cs - 2) (drop 2 cs)))
  at_close e e' z =
      let rest = take (length cs - 2) (drop 2 cs) in
      rw z (subst (λ l. Goes 41 (shape l) (shape rest)) (sym (second 42 41 cs e e' (omega arith)))
      (list_other 41 (lit 41 (shape rest)) (shape rest) (λ e''. omega arith) (lit_goes 41 41 (shape rest) refl)))

  pub at_other : apart cs ≡ true → (slice_index cs 0 ≡ 35) ⊎ (slice_index cs 0 ≡ 42) → (slice_index cs 0 ≡ 35 → Digit b → ⊥)
      → (slice_index cs 0 ≡ 42 → b ≢ 32) → (slice_index cs 0 ≡ 42 → slice_index cs 1 ≡ 41 → b ≢ 41) → Stuck b (shape cs)
  at_other h begin other blank close =
      ⊎_elim
      (λ e. subst (λ l. Stuck b (shape l)) (sym (first 35 cs e (omega arith))) (num_stuck b (shape (tail cs)) (other e)))
      (λ e.
      let is = first 42 cs e (omega arith) in
      let next = behind_list 42 (tail cs) (rw is at h) refl in
      subst (λ l. Stuck b (shape l)) (sym is) (list_stuck b (shape (tail cs)) (blank e) (closing b (tail cs) next (close e cc))))
      begin
