-- The forms of a first line and of a later one spell just the lines that may stand there.
use Rattle.std.proofs.Common.{◌≡◌, ℕ, zero, suc, ◌<◌, ◌↔◌, List, [], ◌∷◌, ◌++◌, Bool, true, false, not, ◌&&◌, refl, sym, ◌∙◌, subst, inl, inr, arith}
use Rattle.std.specs.Prelude.{◌==◌, codes}
use Rattle.std.specs.List.{All}
use Rattle.std.proofs.Math.Bool.{Bool-set}
use Rattle.std.proofs.Math.Logic.{∥∥₁_elim, ∥∥₁_map}
use Rattle.std.proofs.lemmas.Bool.{and_parts, cond_both, not-true, eqb-false}
use Rattle.std.proofs.lemmas.Bool.Decides.{nat_tests}
use Rattle.std.proofs.lemmas.List.Elements.{All-nil, All-cons, All-same, All-append, All-contains, Contains-append_right}
use Rattle.ledger.specs.declared.call.Call.TheVariants.{Rule, Slide, Withdraw, Strike, Grant, Settle}
use Rattle.reader.specs.Forms.{Form, done, lit, num, more, list, alt, text, Digit, Digits, Numerals, behind_blanks, Spells}
use Rattle.reader.specs.Left.{shape, kinds, calls_after_s, calls, first_line, later_line, left}
use Rattle.reader.specs.Places.{foreign}
use Rattle.reader.specs.declared.state.State.{State}
use Rattle.reader.specs.declared.state.State.TheVariants as state
use Rattle.tokens.specs.Lines.{Line, duty, collection, boxes, call, numbers, Stands, Small, written, Says, IsLine}
use Rattle.tokens.proofs.Filled.{Takes, filled, spells_filled, fills_spelled}
use Rattle.tokens.proofs.Numerals.{numeral_parts, small_parts, small_append}

-- each line is what its form is filled to, and a form is filled to lines alone
first_takes : (l : Line) → Stands 0 l → Small (numbers l) → (x : Takes first_line) × (written l ≡ filled first_line x)
first_takes (duty days held) here (d, h) = (inl (days, d, (held, h, tt)), refl)
first_takes (collection days held counts) here (d, s) =
    let (h, c) = small_parts held counts s in (inr (inl (days, d, (held, h, (counts, c, tt)))), refl)
first_takes (boxes days low high) here (d, (l, (h, _))) = (inr (inr (days, d, (low, l, (high, h, tt)))), refl)
first_takes (call c) here small = absurd (omega arith)

first_filled : (x : Takes first_line) → (l : Line) × Says 0 (filled first_line x) l
first_filled (inl (days, d, (held, h, _))) = (duty days held, record { stands = refl; small = (d, h); written = refl })
first_filled (inr (inl (days, d, (held, h, (counts, c, _))))) =
    (collection days held counts, record { stands = refl; small = (d, small_append held counts h c); written = refl })
first_filled (inr (inr (days, d, (low, l, (high, h, _))))) =
    (boxes days low high, record { stands = refl; small = (d, (l, (h, tt))); written = refl })

later_takes : (start : ℕ) → 0 < start → (l : Line) → Stands start l → Small (numbers l)
    → (x : Takes later_line) × (written l ≡ filled later_line x)
later_takes start later (duty days held) here small = absurd (omega arith)
later_takes start later (collection days held counts) here small = absurd (omega arith)
later_takes start later (boxes days low high) here small = absurd (omega arith)
later_takes start later (call (Rule first last least most)) here (f, (l, (m, (n, _)))) =
    (inl (first, f, (last, l, (least, m, (most, n, tt)))), refl)
later_takes start later (call (Slide width least most)) here (w, (m, (n, _))) =
    (inr (inr (inr (inl (width, w, (least, m, (most, n, tt)))))), refl)
later_takes start later (call (Withdraw number)) here (n, _) = (inr (inl (number, n, tt)), refl)
later_takes start later (call (Strike day code)) here (d, (c, _)) = (inr (inr (inr (inr (inl (day, d, (code, c, tt)))))), refl)
later_takes start later (call (Grant day code)) here (d, (c, _)) = (inr (inr (inl (day, d, (code, c, tt)))), refl)
later_takes start later (call Settle) here small = (inr (inr (inr (inr (inr tt)))), refl)

later_filled : (start : ℕ) → 0 < start → (x : Takes later_line) → (l : Line) × Says start (filled later_line x) l
later_filled start later (inl (first, f, (last, l, (least, m, (most, n, _))))) =
    (call (Rule first last least most), record { stands = later; small = (f, (l, (m, (n, tt)))); written = refl })
later_filled start later (inr (inl (number, n, _))) = (call (Withdraw number), record { stands = later; small = (n, tt); written = refl })
later_filled start later (inr (inr (inl (day, d, (code, c, _))))) =
    (call (Grant day code), record { stands = later; small = (d, (c, tt)); written = refl })
later_filled start later (inr (inr (inr (inl (width, w, (least, m, (most, n, _))))))) =
    (call (Slide width least most), record { stands = later; small = (w, (m, (n, tt))); written = refl })
later_filled start later (inr (inr (inr (inr (inl (day, d, (code, c, _))))))) =
    (call (Strike day code), record { stands = later; small = (d, (c, tt)); written = refl })
later_filled start later (inr (inr (inr (inr (inr _))))) = (call Settle, record { stands = later; small = tt; written = refl })

-- so its form spells a line, and nothing else
lines_spelled : (start : ℕ) (f : Form)
    → ((l : Line) → Stands start l → Small (numbers l) → (x : Takes f) × (written l ≡ filled f x))
    → ((x : Takes f) → (l : Line) × Says start (filled f x) l) → (bs : List ℕ) → IsLine start bs ↔ ∥ Spells f bs ∥₁
lines_spelled start f takes fills bs = (
  λ line. ∥∥₁_map line (λ (l, says).
      let (x, e) = takes l says.stands says.small in subst (Spells f) (sym (says.written ∙ e)) (spells_filled f x)),
  λ spelled. ∥∥₁_map spelled (λ s.
      let (x, e) = fills_spelled f bs s in subst (λ t. (l : Line) × Says start t l) (sym e) (fills x)),
)

pub first_is : (bs : List ℕ) → IsLine 0 bs ↔ ∥ Spells first_line bs ∥₁
first_is = lines_spelled 0 first_line first_takes first_filled

pub later_is : (start : ℕ) → 0 < start → (bs : List ℕ) → IsLine start bs ↔ ∥ Spells later_line bs ∥₁
later_is start later = lines_spelled start later_line (later_takes start later) (later_filled start later)

-- wherever it stands
any_line : (start : ℕ) (bs : List ℕ) → IsLine start bs → ∥ Spells (alt first_line later_line) bs ∥₁
any_line zero bs line = ∥∥₁_map ((first_is bs).0 line) inl
any_line (suc n) bs line = ∥∥₁_map ((later_is (suc n) (omega arith) bs).0 line) inr

-- no line is empty
pub not_empty : (start : ℕ) → IsLine start [] → ⊥
not_empty start line = ∥∥₁_elim (any_line start [] line) (hlevel) (λ s. elim s [ inl (r, e, _) ↦ cc | inr (r, e, _) ↦ cc ])

-- a byte that a line may have
abbrev Usual : ℕ → Type 0
Usual b = (foreign b ≡ false) × (b ≡ 10 → ⊥)

digit_usual : (d : ℕ) → Digit d → Usual d
digit_usual d digit = (grind (arith, nat_tests), λ e. omega arith)

digits_usual : (ds : List ℕ) → Digits ds → All Usual ds
digits_usual [] each = All-nil Usual
digits_usual (d ∷ ds) each = All-cons Usual d ds (digit_usual d each.0) (digits_usual ds each.1)

numerals_usual : (dss : List (List ℕ)) → Numerals dss → All Usual (behind_blanks dss)
numerals_usual [] numerals = All-nil Usual
numerals_usual (ds ∷ dss) numerals =
    All-cons Usual 32 _ (refl, λ e. cc)
    (All-append Usual ds _ (digits_usual ds (numeral_parts ds numerals.0).0) (numerals_usual dss numerals.1))

-- the bytes that a form names are such bytes
abbrev all_usual : Form → Bool
all_usual done = true
all_usual (lit c f) = not (foreign c) && not (c == 10) && all_usual f
all_usual (num f) = all_usual f
all_usual (more k f) = all_usual f
all_usual (list f) = all_usual f
all_usual (alt f g) = all_usual f && all_usual g

spelled_usual : (f : Form) → all_usual f ≡ true → (bs : List ℕ) → Spells f bs → All Usual bs
spelled_usual done u bs s = All-same Usual bs [] s (All-nil Usual)
spelled_usual (lit c f) u bs (r, e, s) =
    let (byte, rest) = and_parts _ _ u in
    let (known, inner) = and_parts _ _ byte in
    All-same Usual bs _ e (All-cons Usual c r (not-true _ known, eqb-false c 10 (not-true _ inner)) (spelled_usual f rest r s))
spelled_usual (num f) u bs (ds, r, numeral, e, s) =
    All-same Usual bs _ e (All-append Usual ds r (digits_usual ds (numeral_parts ds numeral).0) (spelled_usual f u r s))
spelled_usual (more k f) u bs (ds, r, few, e, s) =
    All-same Usual bs _ e (All-append Usual ds r (digits_usual ds few.0) (spelled_usual f u r s))
spelled_usual (list f) u bs (dss, r, numerals, e, s) =
    All-same Usual bs _ e (All-append Usual _ r (numerals_usual dss numerals) (spelled_usual f u r s))
spelled_usual (alt f g) u bs (inl s) = spelled_usual f (and_parts _ _ u).0 bs s
spelled_usual (alt f g) u bs (inr s) = spelled_usual g (and_parts _ _ u).1 bs s

pub plain_bytes : (start : ℕ) (p : List ℕ) (b : ℕ) (q : List ℕ) → IsLine start (p ++ (b ∷ q))
    → (foreign b ≡ false) × (b ≡ 10 → ⊥)
plain_bytes start p b q line =
    ∥∥₁_elim (any_line start _ line) (hlevel Bool-set) (λ s.
    All-contains Usual _ b (spelled_usual (alt first_line later_line) refl _ s)
    (Contains-append_right p (b ∷ q) b (0, omega arith, refl)))

-- what is left of a line can always be completed, with a 0 for each number and nothing for each list
abbrev Spellable : Form → Type 0
Spellable f = (bs : List ℕ) × Spells f bs

shape_ends : (cs : List ℕ) → Spellable (shape cs)
shape_ends [] = ([], refl)
shape_ends (c ∷ cs) =
    let (bs, s) = shape_ends cs in
    cond_both (c == 35) _ _ Spellable (λ _. (48 ∷ bs, (48 ∷ [], bs, inl (refl, refl), refl, s))) (λ _.
    cond_both (c == 42) _ _ Spellable (λ _. (bs, ([], bs, tt, refl, s))) (λ _. (c ∷ bs, (bs, refl, s))))

text_ends : (cs : List ℕ) (f : Form) → Spellable f → Spellable (text cs f)
text_ends [] f end = end
text_ends (c ∷ cs) f end = let (bs, s) = text_ends cs f end in (c ∷ bs, (bs, refl, s))

kinds_end : Spellable kinds
kinds_end = let (bs, s) = shape_ends (codes "duty # (codes*))") in (bs, inl s)

calls_after_s_end : Spellable calls_after_s
calls_after_s_end = let (bs, s) = shape_ends (codes "lide # (count # #))") in (bs, inl s)

calls_end : Spellable calls
calls_end = let (bs, s) = shape_ends (codes "rule (days # #) (count # #))") in (bs, inl s)

pub can_end : (s : State) → (bs : List ℕ) × Spells (left s) bs
can_end (state.Sheet r) = text_ends r.now kinds kinds_end
can_end state.Line = text_ends (40 ∷ []) calls calls_end
can_end state.Call = calls_end
can_end state.CallAfterS = calls_after_s_end
can_end (state.Text r) = shape_ends r.now
can_end (state.Number r) = let (bs, s) = shape_ends r.now in (48 ∷ bs, (48 ∷ [], bs, inl (refl, refl), refl, s))
can_end (state.Digits k r) = let (bs, s) = shape_ends r.now in (bs, ([], bs, (tt, omega arith), refl, s))
