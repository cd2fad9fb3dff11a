-- At each place a text has one line, or is at fault at one place, and not both.
use Rattle.std.proofs.Common.{◌≡◌, ℕ, ◌+◌, ◌-◌, ◌<◌, ◌≤◌, List, [], ◌∷◌, ◌++◌, length, get_or, take, drop, refl, sym, ap, subst, ◌∙◌, ⊎_elim, append_assoc, arith}
use Rattle.std.specs.Prelude.{slice_range, Some, MatchOption}
use Rattle.std.proofs.Math.Logic.{∥∥₁_map}
use Rattle.std.proofs.Math.Seq.{take-add}
use Rattle.std.proofs.lemmas.Bool.{cases_lt, cases_order, lt-ltb}
use Rattle.std.proofs.lemmas.Grind.{not_there}
use Rattle.std.proofs.lemmas.List.{append-nil}
use Rattle.std.proofs.lemmas.List.Edits.{between_none}
use Rattle.std.proofs.lemmas.Option.{slice_get-get_or}
use Rattle.reader.specs.Places.{byte_at, Ends, past, longest}
use Rattle.tokens.specs.Lines.{Line, written, Says, IsLine, Begins}
use Rattle.tokens.specs.Sheets.{LineAt, FaultAt}
use Rattle.tokens.proofs.Spelling.{plain_bytes, not_empty}
use Rattle.tokens.proofs.Beginnings.{there, one_more}

-- a line ends within the text and within the limit
pub ends_within : (text : List ℕ) (n : ℕ) → Ends text n → (n ≤ length text) × (n ≤ longest)
ends_within text n =
    ⊎_elim
    (λ ten. let (below, within, is) = there text n 10 ten in (omega arith, omega arith))
    (λ (over, limit). (omega arith, limit))

-- before the limit each byte of the text is there
byte_there : (text : List ℕ) (n : ℕ) → n < length text → n < longest → byte_at text n ≡ Some (get_or text n 0)
byte_there text n within below = rw (lt-ltb n longest below) (slice_get-get_or text n 0 within)

module _ (text : List ℕ) (start : ℕ) where
  -- what begins a line is begun by each of its fronts
  shorter : (n m : ℕ) → start ≤ n → n ≤ m → Begins start (slice_range text start m) → Begins start (slice_range text start n)
  shorter n m from more begins =
      let rest = take (m - n) (drop (n - start) (drop start text)) in
      let parts : slice_range text start m ≡ slice_range text start n ++ rest =
      ap (λ k. take k (drop start text)) (omega arith) ∙ take-add (n - start) (m - n) (drop start text) in
      ∥∥₁_map begins (λ (bs, l, says).
      (rest ++ bs, l, subst (λ p. Says start p l) (ap (λ p. p ++ bs) parts ∙ append_assoc (slice_range text start n) rest bs) says))

  with_byte : (n m b : ℕ) → start ≤ n → n < m → byte_at text n ≡ Some b → Begins start (slice_range text start m)
      → Begins start (slice_range text start n ++ (b ∷ []))
  with_byte n m b from more here begins = subst (Begins start) (one_more text start n b from here) (shorter (n + 1) m (omega arith) (omega arith) begins)

  -- so no line ends before the end of such bytes, and no place before it is at fault
  no_end_before : (n m : ℕ) → start ≤ n → n < m → m ≤ length text → Begins start (slice_range text start m) → Ends text n → ⊥
  no_end_before n m from more inside begins =
      let p = slice_range text start n in
      ⊎_elim
      (λ ten. not_there (with_byte n m 10 from more ten begins) (λ (bs, l, says).
      (plain_bytes start p 10 bs ∣ (l, subst (λ p. Says start p l) (append_assoc p (10 ∷ []) bs) says) ∣₁).1 refl))
      (λ (over, limit). omega arith)

  no_fault_before : (n m : ℕ) → n < m → m ≤ length text → m ≤ longest → Begins start (slice_range text start m)
      → FaultAt text start n → ⊥
  no_fault_before n m more inside limit begins fault =
      let here = byte_there text n (omega arith) (omega arith) in
      subst (λ o. MatchOption o (Unit {0}) (λ b. Begins start (slice_range text start n ++ (b ∷ [])) → ⊥)) here fault.stuck
      (with_byte n m (get_or text n 0) fault.from more here begins)

  line_begins : (l : Line) (next : ℕ) (line : LineAt text start l next) → Begins start (slice_range text start line.stop)
  line_begins l next line = ∣ ([], l, subst (λ p. Says start p l) (sym (append-nil (slice_range text start line.stop))) line.says) ∣₁

  -- a line has a byte at least
  pub some_byte : (l : Line) (next : ℕ) (line : LineAt text start l next) → start < line.stop
  some_byte l next line =
      ⊎_elim (λ some. some) (λ (none : line.stop ≤ start).
      let begins : line.stop ≡ start = omega (arith, line.from) in
      let nothing : slice_range text start line.stop ≡ [] = ap (slice_range text start) begins ∙ between_none text start in
      absurd (not_empty start (subst (IsLine start) nothing ∣ (l, line.says) ∣₁)))
      (cases_lt start line.stop)

  -- two lines there end at one place, and are written alike
  ends_no_earlier : (l k : Line) (m n : ℕ) (x : LineAt text start l m) (y : LineAt text start k n) → x.stop < y.stop → ⊥
  ends_no_earlier l k m n x y earlier =
      no_end_before x.stop y.stop x.from earlier (ends_within text y.stop y.ends).0 (line_begins k n y) x.ends

  one_stop : (l k : Line) (m n : ℕ) (x : LineAt text start l m) (y : LineAt text start k n) → x.stop ≡ y.stop
  one_stop l k m n x y =
      ⊎_elim (λ same. same)
      (⊎_elim (λ earlier. absurd (ends_no_earlier l k m n x y earlier)) (λ later. absurd (ends_no_earlier k l n m y x later)))
      (cases_order x.stop y.stop)

  pub one_next : (l k : Line) (m n : ℕ) → LineAt text start l m → LineAt text start k n → m ≡ n
  one_next l k m n x y = x.on ∙ ap (past text) (one_stop l k m n x y) ∙ sym y.on

  pub one_writing : (l k : Line) (m n : ℕ) → LineAt text start l m → LineAt text start k n → written l ≡ written k
  one_writing l k m n x y = sym x.says.written ∙ ap (slice_range text start) (one_stop l k m n x y) ∙ y.says.written

  -- where there is a line, nothing is at fault
  pub line_no_fault : (l : Line) (next n : ℕ) → LineAt text start l next → FaultAt text start n → ⊥
  line_no_fault l next n line fault =
      let (inside, limit) = ends_within text line.stop line.ends in
      ⊎_elim
      (λ (same : line.stop ≡ n). fault.unended
      (subst (λ k. IsLine start (slice_range text start k)) same ∣ (l, line.says) ∣₁) (subst (Ends text) same line.ends))
      (⊎_elim
      (λ earlier. no_end_before line.stop n line.from earlier fault.within.0 fault.begins line.ends)
      (λ later. no_fault_before n line.stop later inside limit (line_begins l next line) fault))
      (cases_order line.stop n)

  -- and only one place is
  pub one_fault : (m n : ℕ) → FaultAt text start m → FaultAt text start n → m ≡ n
  one_fault m n x y =
      ⊎_elim (λ same. same)
      (⊎_elim
      (λ earlier. absurd (no_fault_before m n earlier y.within.0 y.within.1 y.begins x))
      (λ later. absurd (no_fault_before n m later x.within.0 x.within.1 x.begins y)))
      (cases_order m n)
