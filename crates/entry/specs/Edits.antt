-- Taking a code out of an entry and putting one in: what changes, and when it is refused.
use Rattle.std.specs.Prelude.{◌≡◌, ℕ, zero, suc, Bool, true, false, not, ◌&&◌, ◌||◌, [], ◌∷◌, is_ok, IsTrue, ◌↔◌, Result, ◌==◌, ◌≢◌, nat_lt, slice_set}
use Rattle.entry.specs.declared.refusal.Refusal.{Refusal}
use Rattle.entry.specs.Refusals.{Rows, row, topmost, outcome, answered, unless}
use Rattle.entry.specs.Cells.{Meaning, held, weigh, NoGap}

-- one code held or not, with its weight and all other cells as they are
abbrev pub marked : Meaning → ℕ → Bool → Meaning
marked m c holds = slice_set m c (record { weight = weigh m c; held = holds })

abbrev pub struck : Meaning → ℕ → Meaning
struck m c = marked m c false

abbrev pub granted : Meaning → ℕ → Meaning
granted m c = marked m c true

-- some number below n passes
unfoldable pub some : (ℕ → Bool) → ℕ → Bool
some p zero = false
some p (suc n) = p n || some p n

-- c is held, and no other code is
unfoldable pub only : Meaning → ℕ → Bool
only m c = held m c && not (some (λ k. held m k && not (k == c)) 64)

-- held codes weigh less and more than w, and none weighs w
abbrev pub missing : Meaning → ℕ → Bool
missing m w =
    some (λ c. held m c && nat_lt (weigh m c) w) 64
    && (some (λ c. held m c && nat_lt w (weigh m c)) 64
    && not (some (λ c. held m c && weigh m c == w) 64))

-- the no-gap law as a test: no weight is missing
unfoldable pub gapless : Meaning → Bool
gapless m = not (some (missing m) 64)

abbrev pub strike_rows : (ℕ → Bool) → Meaning → ℕ → Rows
strike_rows known m c =
    (not (known c), row 9) ∷
    (only m c, row 10) ∷
    (not (gapless (struck m c)), row 11) ∷ []

abbrev pub grant_rows : (ℕ → Bool) → Meaning → ℕ → Rows
grant_rows known m c =
    (not (known c), row 9) ∷
    (not (gapless (granted m c)), row 11) ∷ []

-- An edit of code c at the entry x that answers r and leaves y. The rows decide both; a weight never changes, nor does
-- another code; what alters nothing leaves x itself; and the test of the no-gap law decides the law.
pub record Edited {X : Type 0} (meaning : X → Meaning) (c : ℕ) (rows : Rows) (edited : Meaning) (Already : Type 0)
    (x : X) (r : Result (Unit {0}) Refusal) (y : X) : Type 0 where
  pub answer : outcome r ≡ answered (topmost rows) tt
  pub after : meaning y ≡ unless (topmost rows) edited (meaning x)
  pub weights : (k : ℕ) → weigh (meaning y) k ≡ weigh (meaning x) k
  pub others : (k : ℕ) → (k ≢ c) → held (meaning y) k ≡ held (meaning x) k
  pub refused : is_ok r ≡ false → y ≡ x
  pub idle : Already → (is_ok r ≡ true) × (y ≡ x)
  pub whole : IsTrue (gapless edited) ↔ NoGap edited

-- a strike of code c; the test of the only held code passes where c is held and no other is
abbrev pub Strikes : {X : Type 0} → (X → Meaning) → (ℕ → Bool) → ℕ → X → Result (Unit {0}) Refusal → X → Type 0
Strikes meaning known c x r y =
    Edited meaning c (strike_rows known (meaning x) c) (struck (meaning x) c)
    ((known c ≡ true) × (held (meaning x) c ≡ false)) x r y
    × (IsTrue (only (meaning x) c) ↔ ((held (meaning x) c ≡ true) × ((k : ℕ) → held (meaning x) k ≡ true → k ≡ c)))

-- a grant of code c
abbrev pub Grants : {X : Type 0} → (X → Meaning) → (ℕ → Bool) → ℕ → X → Result (Unit {0}) Refusal → X → Type 0
Grants meaning known c x r y =
    Edited meaning c (grant_rows known (meaning x) c) (granted (meaning x) c)
    (held (meaning x) c ≡ true) x r y
