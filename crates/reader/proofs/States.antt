-- What a byte does to what a state of the reader stands for.
use Rattle.std.specs.Prelude.{◌≡◌, ◌≢◌, ℕ, ◌-◌, ◌<◌, ◌≤◌, length, take, drop, slice_index, Bool, true, false, cond, not, ◌||◌, ◌&&◌, ◌==◌, List, [], ◌∷◌, refl}
use Rattle.std.specs.Borrow.{Bor}
use Rattle.std.proofs.Common.{sym, ◌∙◌, ap, arith, ⊎_elim}
use Rattle.std.proofs.lemmas.Bool.{cond_both, eqb-true, eqb-false, or_parts, and_parts, not-true}
use Rattle.std.proofs.lemmas.List.{nil_from_length, take_rest}
use Rattle.reader.specs.Forms.{Form, done, text, lit, alt, Digit, Spells, Goes, Stuck}
use Rattle.reader.specs.Left.{kinds, shape, left, ahead, apart}
use Rattle.reader.specs.declared.state.State.{State}
use Rattle.reader.specs.declared.state.State.TheVariants.{Sheet, Line, Call, CallAfterS, Text, Number, Digits}
use Rattle.reader.proofs.Steps.{num_zero, num_lead, lit_goes, lit_stuck, alt_left, alt_right, more_digit, number, further}
use Rattle.reader.proofs.FormTexts.{rest_apart, no_break, digit_stuck, over}

-- whether the byte begins the form, a text or a choice of texts
abbrev begins : ℕ → Form → Bool
begins b (lit c f) = b == c
begins b (alt f g) = begins b f || begins b g
begins b f = true

-- whether it begins just one of the texts
abbrev alone : ℕ → Form → Bool
alone b (lit c f) = b == c
alone b (alt f g) = cond (begins b f) (alone b f && not (begins b g)) (alone b g)
alone b f = false

-- what is left of that text behind the byte
abbrev behind : ℕ → Form → Form
behind b (lit c f) = f
behind b (alt f g) = cond (begins b f) (behind b f) (behind b g)
behind b f = done

begins_stuck : (b : ℕ) (f : Form) → begins b f ≡ false → Stuck b f
begins_stuck b (lit c f) e = lit_stuck b c f (eqb-false b c e)
begins_stuck b (alt f g) e = let (l, r) = or_parts (begins b f) (begins b g) e in λ bs. ⊎_elim (begins_stuck b f l bs) (begins_stuck b g r bs)
begins_stuck b f e = cc

alone_goes : (b : ℕ) (f : Form) → alone b f ≡ true → Goes b f (behind b f)
alone_goes b (lit c f) = λ e. lit_goes b c f (eqb-true b c e)
alone_goes b (alt f g) =
    cond_both (begins b f) (behind b f) (behind b g) (λ h. cond (begins b f) (alone b f && not (begins b g)) (alone b g) ≡ true → Goes b (alt f g) h)
    (λ t e.
    let (one, other) = and_parts (alone b f) (not (begins b g)) (rw t at e) in
    alt_left g (begins_stuck b g (not-true (begins b g) other)) (alone_goes b f one))
    (λ f' e. alt_right f (begins_stuck b f f') (alone_goes b g (rw f' at e)))
alone_goes b f = λ e. cc

-- the state t follows on s behind the byte b
pub record Follows (s t : State) (b : ℕ) : Type 0 where
  pub inside : b ≢ 10
  pub goes : Goes b (left s) (left t)
  pub apart : apart (ahead t) ≡ true

-- what is left of the head that all sheet forms share
pub head_over : (r : Bor (List ℕ)) → length r.now < 1 → left (Sheet r) ≡ kinds
head_over r few = ap (λ l. text l kinds) (nil_from_length r.now (omega arith))

head_on : (b : ℕ) (cs : List ℕ) → apart cs ≡ true → 1 ≤ length cs → slice_index cs 0 ≡ b
    → (rest : List ℕ) × (rest ≡ take (length cs - 1) (drop 1 cs)) × (b ≢ 10) × Goes b (text cs kinds) (text rest kinds) × (apart rest ≡ true)
head_on b [] h some e = absurd (omega arith)
head_on b (c ∷ cs) h some e = (cs, sym (take_rest (c ∷ cs) 1), rw (← e) (no_break c cs h), lit_goes b c (text cs kinds) (sym e), rest_apart c cs h)

-- a line is complete just where the text of its form is over
head_due : (cs : List ℕ) → Spells (text cs kinds) [] → ⊥
head_due [] s = grind arith
head_due (c ∷ cs) (r, e, s) = cc

pub whole : (s : State) → apart (ahead s) ≡ true → Spells (left s) [] → (r : Bor (List ℕ)) × (s ≡ Text r) × (r.now ≡ [])
whole (Sheet r) h s = absurd (head_due r.now s)
whole Line h (r, e, s) = cc
whole Call h s = absurd (grind arith)
whole CallAfterS h s = absurd (grind arith)
whole (Text r) h s = (r, refl, over r.now h s)
whole (Number r) h s = let (b, q, e, parts) = number (shape r.now) [] s in cc
whole (Digits k r) h s =
    ⊎_elim
    (λ s'. let none = over r.now (rest_apart 35 r.now h) s' in let bad : apart (35 ∷ []) ≡ true = rw none at h in cc)
    (λ (b, q, e, some, digit, s'). cc)
    (further k (shape r.now) [] s)

-- the steps that do not read a text
pub choice : (s t : State) (b : ℕ) (f : Form) → left s ≡ f → alone b f ≡ true → left t ≡ behind b f → b ≢ 10
    → apart (ahead t) ≡ true → Follows s t b
choice s t b f is one next ne h = record { inside = ne; goes = rw (is, next) (alone_goes b f one); apart = h }

pub head : (b : ℕ) (r q : Bor (List ℕ)) → apart r.now ≡ true → 1 ≤ length r.now → slice_index r.now 0 ≡ b
    → q.now ≡ take (length r.now - 1) (drop 1 r.now) → Follows (Sheet r) (Sheet q) b
head b r q h some e rest =
    let (cs, is, ne, goes, after) = head_on b r.now h some e in
    rw (rest ∙ sym is) (record { inside = ne; goes = goes; apart = after })

module _ (b : ℕ) (r : Bor (List ℕ)) (h : apart (35 ∷ r.now) ≡ true) where
  pub zero : b ≡ 48 → Follows (Number r) (Digits 0 r) b
  zero z = rw z (record { inside = λ e. omega arith; goes = num_zero (shape r.now); apart = h })

  pub lead : 49 ≤ b → b ≤ 57 → Follows (Number r) (Digits 5 r) b
  lead low high = record { inside = λ e. omega arith; goes = num_lead b (shape r.now) low high; apart = h }

  pub digit : (k : ℕ) → 0 < k → Digit b → Follows (Digits k r) (Digits (k - 1) r) b
  digit k some (low, high) = record { inside = λ e. omega arith; goes = more_digit k b (shape r.now) some (low, high) (digit_stuck b r.now h (low, high)); apart = h }
