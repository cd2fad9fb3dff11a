-- What a byte does to each kind of form.
use Rattle.std.specs.Prelude.{◌≡◌, ◌≢◌, ℕ, ◌-◌, ◌<◌, ◌≤◌, List, [], ◌∷◌, ◌++◌, length, ◌⊎◌, refl}
use Rattle.std.proofs.Common.{sym, ap, subst, inl, inr, ⊎_elim, append_assoc, arith}
use Rattle.reader.specs.Forms.{Form, lit, num, more, list, alt, Digit, Digits, Numeral, Numerals, behind_blanks, Spells, Goes, Stuck}

-- a byte, and a choice of two forms
pub lit_goes : (b c : ℕ) (f : Form) → b ≡ c → Goes b (lit c f) f
lit_goes b c f e = record {
  to = λ bs (r, is, h). let same : r ≡ bs = cc in subst (Spells f) same h;
  from = λ bs h. (bs, ap (λ x. x ∷ bs) e, h);
}

pub lit_stuck : (b c : ℕ) (f : Form) → b ≢ c → Stuck b (lit c f)
lit_stuck b c f ne bs (r, is, h) = ne cc

pub alt_left : {b : ℕ} {f h : Form} (g : Form) → Stuck b g → Goes b f h → Goes b (alt f g) h
alt_left g stuck goes = record { to = λ bs. ⊎_elim (goes.to bs) (λ h. absurd (stuck bs h)); from = λ bs h. inl (goes.from bs h) }

pub alt_right : {b : ℕ} {g h : Form} (f : Form) → Stuck b f → Goes b g h → Goes b (alt f g) h
alt_right f stuck goes = record { to = λ bs. ⊎_elim (λ h. absurd (stuck bs h)) (goes.to bs); from = λ bs h. inr (goes.from bs h) }

-- a number is 0, or a digit from 1 to 9 and up to five more
abbrev Number : Form → List ℕ → Type 0
Number f bs = (b : ℕ) × (s : List ℕ) × (bs ≡ b ∷ s) × (((b ≡ 48) × Spells f s) ⊎ ((49 ≤ b) × (b ≤ 57) × Spells (more 5 f) s))

number_parts : (f : Form) (bs ds r : List ℕ) → Numeral ds → bs ≡ ds ++ r → Spells f r → Number f bs
number_parts f bs [] r n e h = absurd n
number_parts f bs (d ∷ ds) r n e h = (
  d,
  ds ++ r,
  e,
  ⊎_elim
      (λ (zero, alone). inl (zero, subst (λ l. Spells f (l ++ r)) (sym alone) h))
      (λ (low, high, digits, few). inr (low, high, (ds, r, (digits, few), refl, h)))
      n,
)

pub number : (f : Form) (bs : List ℕ) → Spells (num f) bs → Number f bs
number f bs (ds, r, n, e, h) = number_parts f bs ds r n e h

-- one more digit, or none
abbrev Further : ℕ → Form → List ℕ → Type 0
Further k f bs = Spells f bs ⊎ ((b : ℕ) × (s : List ℕ) × (bs ≡ b ∷ s) × (0 < k) × Digit b × Spells (more (k - 1) f) s)

further_parts : (k : ℕ) (f : Form) (bs ds r : List ℕ) → Digits ds → length ds ≤ k → bs ≡ ds ++ r → Spells f r → Further k f bs
further_parts k f bs [] r digits few e h = inl (subst (Spells f) (sym e) h)
further_parts k f bs (d ∷ ds) r digits few e h = inr (d, ds ++ r, e, omega arith, digits.0, (ds, r, (digits.1, omega arith), refl, h))

pub further : (k : ℕ) (f : Form) (bs : List ℕ) → Spells (more k f) bs → Further k f bs
further k f bs (ds, r, (digits, few), e, h) = further_parts k f bs ds r digits few e h

no_more : (k : ℕ) (f : Form) (bs : List ℕ) → Spells f bs → Spells (more k f) bs
no_more k f bs h = ([], bs, (tt, omega arith), refl, h)

-- one more number of a list, or none
abbrev Listed : Form → List ℕ → Type 0
Listed f bs = Spells f bs ⊎ ((s : List ℕ) × (bs ≡ 32 ∷ s) × Spells (num (list f)) s)

listed_parts : (f : Form) (bs : List ℕ) (ns : List (List ℕ)) (r : List ℕ) → Numerals ns → bs ≡ behind_blanks ns ++ r → Spells f r
    → Listed f bs
listed_parts f bs [] r ok e h = inl (subst (Spells f) (sym e) h)
listed_parts f bs (n ∷ ns) r (ok, oks) e h = inr ((n ++ behind_blanks ns) ++ r, e, (n, behind_blanks ns ++ r, ok, append_assoc n _ r, (ns, r, oks, refl, h)))

pub listed : (f : Form) (bs : List ℕ) → Spells (list f) bs → Listed f bs
listed f bs (ns, r, ok, e, h) = listed_parts f bs ns r ok e h

-- what a byte does to a number, to its further digits, and to a list
pub num_zero : (f : Form) → Goes 48 (num f) (more 0 f)
num_zero f = record {
  to = λ bs h.
      let (b, s, e, parts) = number f (48 ∷ bs) h in
      let zero : 48 ≡ b = cc in
      let same : s ≡ bs = cc in
      ⊎_elim (λ (is, h'). no_more 0 f bs (subst (Spells f) same h')) (λ (low, high, h'). absurd (omega arith)) parts;
  from = λ bs h. (48 ∷ [], bs, inl (refl, refl), refl, ⊎_elim (λ h'. h') (λ (b, s, e, some, digit, h'). absurd (omega arith)) (further 0 f bs h));
}

pub num_lead : (b : ℕ) (f : Form) → 49 ≤ b → b ≤ 57 → Goes b (num f) (more 5 f)
num_lead b f low high = record {
  to = λ bs h.
      let (d, s, e, parts) = number f (b ∷ bs) h in
      let lead : b ≡ d = cc in
      let same : s ≡ bs = cc in
      ⊎_elim (λ (is, h'). absurd (omega arith)) (λ (l, u, h'). subst (Spells (more 5 f)) same h') parts;
  from = λ bs (ds, r, (digits, few), e, h). (b ∷ ds, r, inr (low, high, digits, few), ap (λ l. b ∷ l) e, h);
}

pub num_stuck : (b : ℕ) (f : Form) → (Digit b → ⊥) → Stuck b (num f)
num_stuck b f other bs h =
    let (d, s, e, parts) = number f (b ∷ bs) h in
    let lead : b ≡ d = cc in
    other (⊎_elim (λ (is, h'). (omega arith, omega arith)) (λ (low, high, h'). (omega arith, omega arith)) parts)

pub more_digit : (k b : ℕ) (f : Form) → 0 < k → Digit b → Stuck b f → Goes b (more k f) (more (k - 1) f)
more_digit k b f some digit stuck = record {
  to = λ bs h. ⊎_elim (λ h'. absurd (stuck bs h')) (λ (d, s, e, left, digit', h'). let same : s ≡ bs = cc in subst (Spells (more (k - 1) f)) same h') (further k f (b ∷ bs) h);
  from = λ bs (ds, r, (digits, few), e, h). (b ∷ ds, r, ((digit, digits), omega arith), ap (λ l. b ∷ l) e, h);
}

-- no further digit is read where none is due, or at another byte
ended : (k b : ℕ) (f : Form) (bs : List ℕ) → (0 < k → Digit b → ⊥) → Spells (more k f) (b ∷ bs) → Spells f (b ∷ bs)
ended k b f bs other h =
    ⊎_elim (λ h'. h') (λ (d, s, e, some, (low, high), h'). let same : b ≡ d = cc in absurd (other some (omega arith, omega arith))) (further k f (b ∷ bs) h)

pub more_other : (k b : ℕ) (f g : Form) → (0 < k → Digit b → ⊥) → Goes b f g → Goes b (more k f) g
more_other k b f g other goes = record { to = λ bs h. goes.to bs (ended k b f bs other h); from = λ bs h. no_more k f (b ∷ bs) (goes.from bs h) }

pub more_stuck : (k b : ℕ) (f : Form) → (0 < k → Digit b → ⊥) → Stuck b f → Stuck b (more k f)
more_stuck k b f other stuck bs h = stuck bs (ended k b f bs other h)

pub list_blank : (f : Form) → Stuck 32 f → Goes 32 (list f) (num (list f))
list_blank f stuck = record {
  to = λ bs h. ⊎_elim (λ h'. absurd (stuck bs h')) (λ (s, e, h'). let same : s ≡ bs = cc in subst (Spells (num (list f))) same h') (listed f (32 ∷ bs) h);
  from = λ bs (n, r, ok, e, (ns, q, oks, e', h)). (n ∷ ns, q, (ok, oks), cc (append_assoc n (behind_blanks ns) q), h);
}

unlisted : (b : ℕ) (f : Form) (bs : List ℕ) → b ≢ 32 → Spells (list f) (b ∷ bs) → Spells f (b ∷ bs)
unlisted b f bs ne h = ⊎_elim (λ h'. h') (λ (s, e, h'). absurd (ne cc)) (listed f (b ∷ bs) h)

pub list_other : (b : ℕ) (f g : Form) → b ≢ 32 → Goes b f g → Goes b (list f) g
list_other b f g ne goes = record { to = λ bs h. goes.to bs (unlisted b f bs ne h); from = λ bs h. ([], b ∷ bs, tt, refl, goes.from bs h) }

pub list_stuck : (b : ℕ) (f : Form) → b ≢ 32 → Stuck b f → Stuck b (list f)
list_stuck b f ne stuck bs h = stuck bs (unlisted b f bs ne h)
