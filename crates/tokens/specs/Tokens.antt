-- The tokens of a line: the parts of the text that they are.
use Rattle.std.specs.Prelude.{◌≡◌, ℕ, ◌+◌, ◌≤◌, ◌<◌, Bool, true, List, slice_index, slice_range, ◌⊎◌, MatchOption, Some}
use Rattle.reader.specs.Places.{byte_at, position_of, letter, digit}
use Rattle.reader.specs.declared.place.Place.{Place}
use Rattle.tokens.specs.Lines.{Line}
use Rattle.tokens.specs.Sheets.{LineAt}
use Rattle.tokens.specs.declared.token.Class.{Class}
use Rattle.tokens.specs.declared.token.Class.TheVariants.{Letters, Digits}
use Rattle.tokens.specs.declared.token.Token.{Token}
use Rattle.tokens.specs.declared.token.Token.TheVariants.{Open, Close, Word, Number, End}

abbrev pub in_class : Class → ℕ → Bool
in_class Letters = letter
in_class Digits = digit

-- P holds of each byte of the text from a to b
pub record Each (P : ℕ → Type 0) (text : List ℕ) (a b : ℕ) : Type 0 where
  pub order : a ≤ b
  pub each : (i : ℕ) → a ≤ i → i < b → P (slice_index text i)

-- from a to b the text has blanks alone
abbrev pub Blanks : List ℕ → ℕ → ℕ → Type 0
Blanks text a b = Each (λ c. c ≡ 32) text a b

-- `part` is the text from `from` to `to`: bytes of one class, as many as stand there
pub record Run (k : Class) (text : List ℕ) (from to : ℕ) (part : List ℕ) : Type 0 where
  pub each : Each (λ c. in_class k c ≡ true) text from to
  pub bytes : part ≡ slice_range text from to
  pub whole : MatchOption (byte_at text to) (Unit {0}) (λ b. in_class k b ≡ true → ⊥)

-- from `from` to `to`, and at `to` too, the text has bytes of one class
pub record GoesOn (k : Class) (text : List ℕ) (from to : ℕ) : Type 0 where
  pub each : Each (λ c. in_class k c ≡ true) text from to
  pub here : MatchOption (byte_at text to) ⊥ (λ b. in_class k b ≡ true)

-- the token's first byte stands at `from`, behind blanks alone
abbrev pub From : List ℕ → ℕ → Place → ℕ → Type 0
From text at place from = Blanks text at from × (place ≡ position_of text from)

-- the text has this token from `at` to `to`
abbrev pub Tells : List ℕ → ℕ → ℕ → Token → Type 0
Tells text at to (Open place) = (from : ℕ) × From text at place from × (byte_at text from ≡ Some 40) × (to ≡ from + 1)
Tells text at to (Close place) = (from : ℕ) × From text at place from × (byte_at text from ≡ Some 41) × (to ≡ from + 1)
Tells text at to (Word part place) = (from : ℕ) × From text at place from × (from < to) × Run Letters text from to part.now
Tells text at to (Number part place) = (from : ℕ) × From text at place from × (from < to) × Run Digits text from to part.now
Tells text at to End = ⊥

-- no token stands whole between `at` and `to`: there are blanks alone, or behind them bytes of one class that go on at `to`
abbrev pub Short : List ℕ → ℕ → ℕ → Type 0
Short text at to = (from : ℕ) × Blanks text at from × ((to ≡ from) ⊎ ((k : Class) × GoesOn k text from to))

-- from `at` the text has blanks alone before it ends the line that began at `start`
pub record Closes (text : List ℕ) (start at next : ℕ) : Type 0 where
  pub line : Line
  pub here : LineAt text start line next
  pub blanks : Blanks text at here.stop
