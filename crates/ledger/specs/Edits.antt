-- What a call that edits book or entries owes: its answer and the ledger after it are as defined.
use Rattle.std.specs.Prelude.{◌≡◌, ℕ, ◌-◌, ◌<◌, ◌≤◌, true, false, ◌||◌, List, map, length, is_ok, Err, Result, MatchResult, ◌==◌, ◌≢◌, nat_lt, slice_index_or, slice_set}
use Rattle.entry.specs.declared.refusal.Refusal.{Refusal}
use Rattle.entry.specs.declared.refusal.Refusal.TheVariants.{TooManyDays, NoSuchDay}
use Rattle.entry.specs.declared.traits.Entry.{Ghosts}
use Rattle.entry.specs.Cells.{Meaning, held}
use Rattle.entry.specs.Refusals.{row, row_of, told}
use Rattle.ledger.specs.declared.call.Call.{Call}
use Rattle.ledger.specs.declared.call.Call.TheVariants.{Rule, Slide, Withdraw, Strike, Grant, Settle}
use Rattle.ledger.specs.Rules.{Book}
use Rattle.ledger.specs.Ledgers.{Ledger, Answer, ledger, day_of, done, reply, after}

-- how many days the entries are, or row 1 where they are too many
abbrev pub CountsDays : {X : Type 0} → (X → Meaning) → List X → Result ℕ Refusal → Type 0
CountsDays meaning entries r =
    MatchResult r (λ days. (days ≡ length (map meaning entries)) × (days ≡ length entries) × (days ≤ 128))
    (λ e. (row_of e ≡ row 1) × (128 < length (map meaning entries)))

-- A call on the book that answers r and leaves the book c. A refused one leaves the very same book.
pub record EditsBook {X Y : Type 0} (kind : Ghosts X) (call : Call) (shows : Y → Answer)
    (entries : List X) (b : Book) (r : Result Y Refusal) (c : Book) : Type 0 where
  pub answer : told shows r ≡ reply (ledger kind entries b) call
  pub after : ledger kind entries c ≡ after (ledger kind entries b) call
  pub kept : is_ok r ≡ false → c ≡ b

-- as many entries, and those of the other days the very same
abbrev pub Others : {X : Type 0} → ℕ → List X → List X → Type 0
Others {X} day xs ys =
    (length ys ≡ length xs) × ((k : ℕ) (d : X) → (k ≢ day - 1) → slice_index_or ys k d ≡ slice_index_or xs k d)

-- An edit of the entry of one day, of entries xs, that answers r and leaves ys: what the edit answers of the entry and
-- leaves of it where there is such a day, and else a refusal that leaves xs.
pub record OnDay {X : Type 0} (Edit : X → Result (Unit {0}) Refusal → X → Type 0) (day : ℕ)
    (xs : List X) (r : Result (Unit {0}) Refusal) (ys : List X) : Type 0 where
  pub many : 128 < length xs → (r ≡ Err TooManyDays) × (ys ≡ xs)
  pub none : length xs ≤ 128 → (day == 0 || nat_lt (length xs) day) ≡ true → (r ≡ Err NoSuchDay) × (ys ≡ xs)
  pub one : length xs ≤ 128 → 0 < day → day ≤ length xs
      → (x y : X) × (x ≡ slice_index_or xs (day - 1) x) × Edit x r y × (ys ≡ slice_set xs (day - 1) y)

-- the call asks for what is so already
abbrev pub Already : Ledger → Call → Type 0
Already l (Strike day code) = (l.kind.known code ≡ true) × (held (day_of l day) code ≡ false)
Already l (Grant day code) = held (day_of l day) code ≡ true
Already l (Rule first last least most) = ⊥
Already l (Slide width least most) = ⊥
Already l (Withdraw number) = ⊥
Already l Settle = ⊥

-- A call on one day of the entries xs that answers r and leaves ys. Answer and ledger are as defined, whatever the book;
-- the other days' entries are the very same, and all are where the call is refused or asks for what is so already.
pub record EditsDay {X : Type 0} (kind : Ghosts X) (call : Call) (day : ℕ)
    (xs : List X) (r : Result (Unit {0}) Refusal) (ys : List X) : Type 0 where
  pub answer : (book : Book) → told (λ _. done) r ≡ reply (ledger kind xs book) call
  pub after : (book : Book) → ledger kind ys book ≡ after (ledger kind xs book) call
  pub others : Others day xs ys
  pub kept : is_ok r ≡ false → ys ≡ xs
  pub idle : (book : Book) → Already (ledger kind xs book) call → ys ≡ xs
