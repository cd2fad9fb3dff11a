-- The words and numbers of a part of a text, by the text's tokens.
use Rattle.std.specs.Prelude.{◌≡◌, ℕ, ◌+◌, ◌-◌, ◌<◌, ◌≤◌, Bool, true, List, [], ◌∷◌, ◌++◌, length, take, drop, slice_index, slice_range, MatchOption, Some}
use Rattle.std.specs.Borrow.{Bor}
use Rattle.std.specs.List.{All}
use Rattle.std.specs.Bool.{Decides}
use Rattle.std.proofs.lemmas.Slice.{between_is}
use Rattle.std.proofs.lemmas.List.{take-take, get_or_past}
use Rattle.std.proofs.Common.{◌∙◌, ap, sym, refl, ⊎_elim, subst, arith, length-take, length-drop}
use Rattle.std.proofs.lemmas.Bool.Decides.{nat_tests}
use Rattle.std.proofs.lemmas.Bool.{cases_lt, lt-ltb}
use Rattle.std.proofs.lemmas.Option.{slice_get-get_or, get_or_from_slice_get}
use Rattle.reader.specs.declared.place.Place.{Place}
use Rattle.std.proofs.lemmas.List.Elements.{All-from_get_or}
use Rattle.std.proofs.lemmas.List.Folds.{drop_split}
use Rattle.std.proofs.lemmas.List.Edits.{between_none, get_or-between}
use Rattle.reader.specs.Places.{byte_at, longest, letter, digit}
use Rattle.tokens.specs.Tokens.{Blanks, Tells, Closes}
use Rattle.tokens.specs.declared.token.Token.{Token}
use Rattle.tokens.specs.declared.token.Token.TheVariants.{Open, Close, Word, Number, End}
use Rattle.sheet.proofs.Items.{class, items, items_blanks, items_run}

-- a part of a text is two parts that join
range_split : (xs : List ℕ) (a b c : ℕ) → a ≤ b → b ≤ c → slice_range xs a c ≡ slice_range xs a b ++ slice_range xs b c
range_split xs a b c low high =
    grind (arith, drop_split (take c xs) a b low, take-take b c xs high, between_is {X = ℕ})

-- each byte of a part of a text, and the first of them
range_each : (P : ℕ → Type 0) (xs : List ℕ) (a b : ℕ) → ((i : ℕ) → a ≤ i → i < b → P (slice_index xs i))
    → All P (slice_range xs a b)
range_each P xs a b each =
    All-from_get_or P (slice_range xs a b) 0 (λ k fits.
    let short = length-take (b - a) (drop a xs) in
    let shorter = length-drop a xs in
    subst P (sym (get_or-between xs a b k 0 (omega arith))) (each (a + k) (omega arith) (omega arith)))

range_first : (xs : List ℕ) (a b : ℕ) → a < b → slice_index (slice_range xs a b) 0 ≡ slice_index xs a
range_first xs a b some = get_or-between xs a b 0 0 (omega arith) ∙ ap (slice_index xs) (omega arith)

-- blanks and brackets tell nothing
gap_items : (text : List ℕ) (a b stop : ℕ)
    → a ≤ b → b ≤ stop → ((i : ℕ) → a ≤ i → i < b → class (slice_index text i) ≡ 0)
    → items (slice_range text a stop) ≡ items (slice_range text b stop)
gap_items text a b stop low high each =
    ap items (range_split text a b stop low high)
    ∙ items_blanks (slice_range text a b) (slice_range text b stop) (range_each (λ b. class b ≡ 0) text a b each)

-- which tests tell a letter and a digit
letters : (b : ℕ) → Decides (letter b) (class b ≡ 1)
letters b = (λ is. grind (arith, nat_tests), λ is. grind (arith, nat_tests))

digits : (b : ℕ) → Decides (digit b) (class b ≡ 2)
digits b = (λ is. grind (arith, nat_tests), λ is. grind (arith, nat_tests))

-- a run of bytes that pass a test which one class alone passes
module _ (k : ℕ) (some : 0 < k) (test : ℕ → Bool) (tells : (b : ℕ) → Decides (test b) (class b ≡ k)) (text : List ℕ) where
  -- no byte past the text passes
  passes_within : (i : ℕ) → test (slice_index text i) ≡ true → i < length text
  passes_within i passes =
      ⊎_elim
      (λ within. within)
      (λ past. absurd (omega (arith, some, sym (ap class (get_or_past text i 0 past)) ∙ (tells (slice_index text i)).0 passes)))
      (cases_lt i (length text))

  -- where the run is whole, the byte behind it is of another class
  behind : (to stop : ℕ) → to ≤ stop → stop ≤ longest
      → MatchOption (byte_at text to) (Unit {0}) (λ b. test b ≡ true → ⊥)
      → class (slice_index (slice_range text to stop) 0) ≡ k → ⊥
  behind to stop high limit whole same =
      ⊎_elim
      (λ more.
      let passes = (tells (slice_index text to)).1 (sym (ap class (range_first text to stop more)) ∙ same) in
      let here = slice_get-get_or text to 0 (passes_within to passes) in
      let byte : byte_at text to ≡ Some (slice_index text to) = rw (lt-ltb to longest (omega arith)) here in
      (rw byte at whole) passes)
      (λ none. let empty : stop - to ≡ 0 = omega arith in let same' = rw empty at same in absurd (omega (arith, some, same')))
      (cases_lt to stop)

  -- the run has a byte, each is of the class, and the run is one of the words and numbers
  run_bytes : (from to : ℕ) → from < to → ((i : ℕ) → from ≤ i → i < to → test (slice_index text i) ≡ true)
      → (0 < length (slice_range text from to)) × All (λ b. class b ≡ k) (slice_range text from to)
  run_bytes from to more each =
      let within = passes_within from (each from (omega arith) more) in
      let short = length-take (to - from) (drop from text) in
      let shorter = length-drop from text in
      (omega arith, range_each (λ b. class b ≡ k) text from to (λ i a b. (tells (slice_index text i)).0 (each i a b)))

  run_items : (from to stop : ℕ) → from < to → to ≤ stop → stop ≤ longest
      → ((i : ℕ) → from ≤ i → i < to → test (slice_index text i) ≡ true)
      → MatchOption (byte_at text to) (Unit {0}) (λ b. test b ≡ true → ⊥)
      → items (slice_range text from stop) ≡ slice_range text from to ∷ items (slice_range text to stop)
  run_items from to stop more high limit each whole =
      let (one, same) = run_bytes from to more each in
      ap items (range_split text from to stop (omega arith) high)
      ∙ items_run k (slice_range text from to) (slice_range text to stop) some one same (behind to stop high limit whole)

-- what a token tells of the words and numbers
abbrev pub told : Token → List (List ℕ)
told (Open place) = []
told (Close place) = []
told (Word part place) = part.now ∷ []
told (Number part place) = part.now ∷ []
told End = []

-- blanks, and a bracket behind them
blank_items : (text : List ℕ) (at from stop : ℕ) → Blanks text at from → from ≤ stop
    → items (slice_range text at stop) ≡ items (slice_range text from stop)
blank_items text at from stop blanks high =
    gap_items text at from stop blanks.order high (λ i a b. ap class (blanks.each i a b))

bracket_items : (text : List ℕ) (at from bracket stop : ℕ)
    → Blanks text at from → byte_at text from ≡ Some bracket → class bracket ≡ 0 → from + 1 ≤ stop → stop ≤ longest
    → items (slice_range text at stop) ≡ items (slice_range text (from + 1) stop)
bracket_items text at from bracket stop blanks here none high limit =
    let byte = get_or_from_slice_get text from bracket 0 (rw (lt-ltb from longest (omega arith)) at here) in
    blank_items text at from stop blanks (omega arith)
    ∙ gap_items text from (from + 1) stop (omega arith) high (λ i a b. ap class (ap (slice_index text) (omega arith) ∙ byte) ∙ none)

pub token_items : (text : List ℕ) (at to : ℕ) (t : Token) → Tells text at to t
    → (stop : ℕ) → to ≤ stop → stop ≤ longest
    → items (slice_range text at stop) ≡ told t ++ items (slice_range text to stop)
token_items text at to (Open place) (from, is, here, next) stop high limit =
    rw next (bracket_items text at from 40 stop is.0 here refl (omega arith) limit)
token_items text at to (Close place) (from, is, here, next) stop high limit =
    rw next (bracket_items text at from 41 stop is.0 here refl (omega arith) limit)
token_items text at to (Word part place) (from, is, some, run) stop high limit =
    blank_items text at from stop is.0 (omega arith)
    ∙ rw run.bytes (run_items 1 (omega arith) letter letters text from to stop some high limit run.each.each run.whole)
token_items text at to (Number part place) (from, is, some, run) stop high limit =
    blank_items text at from stop is.0 (omega arith)
    ∙ rw run.bytes (run_items 2 (omega arith) digit digits text from to stop some high limit run.each.each run.whole)
token_items text at to End none stop high limit = absurd none

-- behind the last token of a line stand blanks alone
pub closing_items : (text : List ℕ) (start at next : ℕ) (c : Closes text start at next)
    → items (slice_range text at c.here.stop) ≡ []
closing_items text start at next c =
    blank_items text at c.here.stop c.here.stop c.blanks (omega arith) ∙ ap items (between_none text c.here.stop)

-- a word has letters alone, and one at least, and a number has digits
pub word_letters : (text : List ℕ) (at to : ℕ) (part : Bor (List ℕ)) (place : Place) → Tells text at to (Word part place)
    → (0 < length part.now) × All (λ b. class b ≡ 1) part.now
word_letters text at to part place (from, is, some, run) =
    rw run.bytes (run_bytes 1 (omega arith) letter letters text from to some run.each.each)

pub number_digits : (text : List ℕ) (at to : ℕ) (part : Bor (List ℕ)) (place : Place) → Tells text at to (Number part place)
    → (0 < length part.now) × All (λ b. class b ≡ 2) part.now
number_digits text at to part place (from, is, some, run) =
    rw run.bytes (run_bytes 2 (omega arith) digit digits text from to some run.each.each)
