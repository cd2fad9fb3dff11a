-- What the tokens read so far amount to, and what is still to be gathered from the line.
use Rattle.std.proofs.Common.{arith, ◌≡◌, ℕ, ◌≤◌, List, [], refl, sym, ap, subst, ◌∙◌}
use Rattle.std.specs.Prelude.{◌⊎◌, Result, Ok, Err, IsErrAnd, false, ◌&&◌, nat_le, slice_index, slice_range, fold}
use Rattle.std.specs.Int.{IsInRange}
use Rattle.std.proofs.Common.{⊎_elim}
use Rattle.std.proofs.Math.Logic.{∥∥₁_map}
use Rattle.std.proofs.lemmas.Bool.{cond-false}
use Rattle.std.proofs.lemmas.Bool.Decides.{nat_tests}
use Rattle.std.proofs.lemmas.List.Sums.{fold-append}
use Rattle.reader.specs.Places.{longest}
use Rattle.std.specs.Borrow.{Bor}
use Rattle.reader.specs.declared.place.Place.{Place}
use Rattle.tokens.specs.Lines.{Line}
use Rattle.tokens.specs.Sheets.{LineAt}
use Rattle.tokens.specs.Tokens.{Tells, Closes}
use Rattle.tokens.specs.declared.token.Token.{Token}
use Rattle.tokens.specs.declared.token.Token.TheVariants.{Open, Close, Word, Number, End}
use Rattle.tokens.specs.Sheets.{FaultAt}
use Rattle.tokens.specs.Next.{Cuts}
use Rattle.tokens.specs.declared.tokens.Tokens.{Tokens}
use Rattle.reader.specs.declared.place.ReadFault.{ReadFault}
use Rattle.reader.specs.Places.{fault_at}
use Rattle.tokens.proofs.Unique.{ends_within, one_fault}
use Rattle.sheet.specs.Faults.{IsFault}
use Rattle.sheet.specs.Reading.{ReadLine, Reads}
use Rattle.sheet.specs.declared.fault.LineFault.{LineFault}
use Rattle.sheet.specs.Drafts.{Gathered, Holds, fresh, gathered, worded, numbered, value_of}
use Rattle.sheet.specs.declared.draft.Draft.{Draft}
use Rattle.sheet.proofs.Items.{class, items, spelled, written_items}
use Rattle.sheet.proofs.TokenItems.{told, token_items, closing_items, word_letters, number_digits}
use Rattle.sheet.proofs.Gathering.{gather, digits_are_a_number, gathers}

-- d holds what the line from `start` says before `at`: all of it is that, with what comes behind
pub record Gathers (text : List ℕ) (start at : ℕ) (d : Draft) : Type 0 where
  pub so_far : Gathered
  pub holds : Holds d so_far
  pub rest : (stop : ℕ) → at ≤ stop → stop ≤ longest
      → fold gather fresh (items (slice_range text start stop)) ≡ fold gather so_far (items (slice_range text at stop))

nothing_yet : (text : List ℕ) (start : ℕ) (d : Draft) → Holds d fresh → Gathers text start start d
nothing_yet text start d holds = record { so_far = fresh; holds = holds; rest = λ stop low high. refl }

-- which test tells a digit from a letter
class_digit : (b : ℕ) → class b ≡ 2 → IsInRange 48 57 b
class_digit b is = grind (arith, nat_tests)

words_are_words : (g : Gathered) (item : List ℕ) → class (slice_index item 0) ≡ 1 → gather g item ≡ worded g item
words_are_words g item is =
    let no_digit : (nat_le 48 (slice_index item 0) && nat_le (slice_index item 0) 57) ≡ false = grind (arith, nat_tests) in
    cond-false _ (numbered g (value_of item)) (worded g item) no_digit

-- a token has a byte at least
goes_on : (text : List ℕ) (at to : ℕ) (t : Token) → Tells text at to t → at ≤ to
goes_on text at to (Open place) (from, is, here, next) = omega (arith, is.0.order, next)
goes_on text at to (Close place) (from, is, here, next) = omega (arith, is.0.order, next)
goes_on text at to (Word part place) (from, is, some, run) = omega (arith, is.0.order, some)
goes_on text at to (Number part place) (from, is, some, run) = omega (arith, is.0.order, some)
goes_on text at to End none = absurd none

-- a token more
more : (text : List ℕ) (start at to : ℕ) (d e : Draft) (t : Token) (before : Gathers text start at d) → Tells text at to t
    → Holds e (fold gather before.so_far (told t)) → Gathers text start to e
more text start at to d e t before tells holds = record {
  so_far = fold gather before.so_far (told t);
  holds = holds;
  rest = λ stop after limit.
      before.rest stop (omega (arith, goes_on text at to t tells)) limit
      ∙ ap (fold gather before.so_far) (token_items text at to t tells stop after limit)
      ∙ fold-append gather before.so_far (told t) (items (slice_range text to stop));
}

more_word : (text : List ℕ) (start at to : ℕ) (d e : Draft) (part : Bor (List ℕ)) (place : Place) → Gathers text start at d
    → Tells text at to (Word part place) → ((g : Gathered) → Holds d g → Holds e (worded g part.now)) → Gathers text start to e
more_word text start at to d e part place before tells word =
    let (some, letters) = word_letters text at to part place tells in
    let same : gather before.so_far part.now ≡ worded before.so_far part.now = words_are_words before.so_far part.now (letters 0 0 some) in
    more text start at to d e (Word part place) before tells (subst (Holds e) (sym same) (word before.so_far before.holds))

more_number : (text : List ℕ) (start at to : ℕ) (d e : Draft) (part : Bor (List ℕ)) (place : Place) → Gathers text start at d
    → Tells text at to (Number part place) → ((g : Gathered) → Holds d g → Holds e (numbered g (value_of part.now)))
    → Gathers text start to e
more_number text start at to d e part place before tells number =
    let (some, digits) = number_digits text at to part place tells in
    let same : gather before.so_far part.now ≡ numbered before.so_far (value_of part.now) = digits_are_a_number before.so_far part.now (class_digit (slice_index part.now 0) (digits 0 0 some)) in
    more text start at to d e (Number part place) before tells (subst (Holds e) (sym same) (number before.so_far before.holds))

-- the end of the line: all of it is gathered
whole : (text : List ℕ) (start at next : ℕ) (d : Draft) → Gathers text start at d → Closes text start at next
    → (l : Line) × LineAt text start l next × Holds d (gathered l)
whole text start at next d before closes =
    let stop = closes.here.stop in
    let says = closes.here.says in
    let l = closes.line in
    let limit : stop ≤ longest = (ends_within text stop closes.here.ends).1 in
    let line : items (slice_range text start stop) ≡ spelled l = ap items says.written ∙ written_items l says.small in
    let all : gathered l ≡ before.so_far =
    sym (gathers l says.small) ∙ ap (fold gather fresh) (sym line) ∙ before.rest stop closes.blanks.order limit ∙ ap (fold gather before.so_far) (closing_items text start at next closes) in
    (l, closes.here, subst (Holds d) (sym all) before.holds)

-- s is in the line where `first` begins, and d holds what is read of it
pub record Reading (first s : Tokens) (d : Draft) : Type 0 where
  pub text : s.reader.text ≡ first.reader.text
  pub start : s.start ≡ first.start
  pub gathers : Gathers s.reader.text.now s.start s.reader.at d

pub begins : (first : Tokens) (d : Draft) → first.start ≡ first.reader.at → Holds d fresh → Reading first first d
begins first d place holds = record {
  text = refl;
  start = refl;
  gathers = subst (λ n. Gathers first.reader.text.now first.start n d) place (nothing_yet first.reader.text.now first.start d holds);
}

module _ (first s t : Tokens) (d : Draft) (token : Token) (before : Reading first s d) (text : t.reader.text ≡ s.reader.text) (cuts : Cuts s token t) where
  -- the same line, a token on
  on : (e : Draft) → t.start ≡ s.start → Gathers s.reader.text.now s.start t.reader.at e → Reading first t e
  on e start gathers = record {
    text = text ∙ before.text;
    start = start ∙ before.start;
    gathers = subst (λ n. Gathers t.reader.text.now n t.reader.at e) (sym start) (subst (λ r. Gathers r.now s.start t.reader.at e) (sym text) gathers);
  }

  mark : (u : Token) → token ≡ u → told u ≡ []
      → (Cuts s u t → Tells s.reader.text.now s.reader.at t.reader.at u × (t.start ≡ s.start)) → Reading first t d
  mark u is silent cut =
      let (tells, start) = cut (subst (λ u. Cuts s u t) is cuts) in
      on d start (more s.reader.text.now s.start s.reader.at t.reader.at d d u before.gathers tells (subst (λ ts. Holds d (fold gather before.gathers.so_far ts)) (sym silent) before.gathers.holds))

  pub kept_mark : ((p : Place) × (token ≡ Open p)) ⊎ ((p : Place) × (token ≡ Close p)) → Reading first t d
  kept_mark = ⊎_elim (λ (p, is). mark (Open p) is refl (λ cut. cut)) (λ (p, is). mark (Close p) is refl (λ cut. cut))

  pub kept_word : (e : Draft) (part : Bor (List ℕ)) (place : Place) → token ≡ Word part place
      → ((g : Gathered) → Holds d g → Holds e (worded g part.now)) → Reading first t e
  kept_word e part place is word =
      let (tells, start) = subst (λ u. Cuts s u t) is cuts in
      on e start (more_word s.reader.text.now s.start s.reader.at t.reader.at d e part place before.gathers tells word)

  pub kept_number : (e : Draft) (part : Bor (List ℕ)) (place : Place) → token ≡ Number part place
      → ((g : Gathered) → Holds d g → Holds e (numbered g (value_of part.now))) → Reading first t e
  kept_number e part place is number =
      let (tells, start) = subst (λ u. Cuts s u t) is cuts in
      on e start (more_number s.reader.text.now s.start s.reader.at t.reader.at d e part place before.gathers tells number)

  pub read_whole : token ≡ End → ReadLine first t d
  read_whole is =
      let (closed, start) = subst (λ u. Cuts s u t) is cuts in
      let line = ∥∥₁_map closed (whole s.reader.text.now s.start s.reader.at t.reader.at d before.gathers) in
      record {
        text = text ∙ before.text;
        start = start;
        line =
            subst (λ n. ∥ ((l : Line) × LineAt first.reader.text.now first.start l n × Holds d (gathered l)) ∥₁) (sym start)
            (subst (λ n. ∥ ((l : Line) × LineAt first.reader.text.now n l t.reader.at × Holds d (gathered l)) ∥₁) before.start
            (subst (λ r. ∥ ((l : Line) × LineAt r.now s.start l t.reader.at × Holds d (gathered l)) ∥₁) before.text line));
      }

-- no other place is at fault where one is
is_fault : (text : List ℕ) (start n : ℕ) (f : LineFault) → FaultAt text start n → f.read ≡ fault_at text n → IsFault text start f
is_fault text start n f fault is = record {
  told = ∣ (n, fault, is) ∣₁;
  only = λ m other. is ∙ ap (fault_at text) (one_fault text start n m fault other);
}

pub read_fault : (first s t : Tokens) (d : Draft) (o : Result Draft LineFault) (e : ReadFault) → IsErrAnd o (λ f. f.read ≡ e)
    → Reading first s d → FaultAt s.reader.text.now s.start t.reader.at → e ≡ fault_at s.reader.text.now t.reader.at
    → Reads first o t
read_fault first s t d (Ok x) e told before fault is = absurd told
read_fault first s t d (Err f) e told before fault is =
    subst (λ n. IsFault first.reader.text.now n f) before.start
    (subst (λ r. IsFault r.now s.start f) before.text (is_fault s.reader.text.now s.start t.reader.at f fault (told ∙ is)))
