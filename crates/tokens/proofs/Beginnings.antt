-- What the bytes read so far say of the line: it goes on, is at fault, or ends.
use Rattle.std.proofs.Common.{rules, arith}
use Rattle.std.specs.Prelude.{◌≡◌, ◌≢◌, ℕ, ◌+◌, ◌-◌, ◌≤◌, ◌<◌, List, [], ◌∷◌, ◌++◌, length, take, drop, slice_range, slice_get, get_or, Option, Some, None, Result, Ok, Err, MatchOption, true, nat_lt, ◌⊎◌}
use mathlib.Core.Path.{refl, sym, ap, subst, ◌∙◌}
use Rattle.std.proofs.Math.Logic.{∥∥₁_map}
use mathlib.Core.Logic.{⊎_elim}
use Rattle.std.proofs.lemmas.Bool.{both_ways, ltb-true, cond_both}
use Rattle.std.proofs.lemmas.List.{length-drop, append_assoc, append-nil, take_more, get_or-drop}
use Rattle.std.proofs.lemmas.Option.{slice_get_within, get_or_from_slice_get}
use Rattle.std.proofs.lemmas.Grind.{not_there}
use Rattle.reader.specs.Forms.{Form, Spells, Goes, Stuck}
use Rattle.reader.specs.Left.{left}
use Rattle.reader.specs.Places.{byte_at, fault_at, Ends, foreign, longest}
use Rattle.reader.specs.Steps.{Read, Stops, Passes}
use Rattle.reader.specs.declared.place.ReadFault.{ReadFault}
use Rattle.reader.specs.declared.reader.Reader.{Reader}
use Rattle.reader.specs.declared.state.State.{State}
use Rattle.tokens.specs.Lines.{IsLine, Begins}
use Rattle.tokens.specs.Sheets.{FaultAt}
use Rattle.tokens.specs.Beginnings.{Completes}
use Rattle.tokens.proofs.Spelling.{plain_bytes, can_end}

-- one byte more
behind : (p : List ℕ) (b : ℕ) (bs : List ℕ) → (p ++ (b ∷ [])) ++ bs ≡ p ++ (b ∷ bs)
behind p b bs = append_assoc p (b ∷ []) bs

pub goes_on : (start : ℕ) (p : List ℕ) (b : ℕ) (f g : Form) → Goes b f g → Completes start p f
    → Completes start (p ++ (b ∷ [])) g
goes_on start p b f g goes fits bs = (
  λ line. ∥∥₁_map ((fits (b ∷ bs)).0 (subst (IsLine start) (behind p b bs) line)) (goes.to bs),
  λ spelled. subst (IsLine start) (sym (behind p b bs)) ((fits (b ∷ bs)).1 (∥∥₁_map spelled (goes.from bs))),
)

-- a byte that is there is in the text and before the limit
pub there : (text : List ℕ) (at b : ℕ) → byte_at text at ≡ Some b → (at < longest) × (at < length text) × (get_or text at 0 ≡ b)
there text at b here =
    cond_both (nat_lt at longest) (slice_get text at) None (λ o. o ≡ Some b → (at < longest) × (at < length text) × (get_or text at 0 ≡ b))
    (λ below e. (ltb-true at longest below, slice_get_within text at b e, get_or_from_slice_get text at b 0 e))
    (λ above e. absurd (search rules))
    here

pub one_more : (text : List ℕ) (start at b : ℕ) → start ≤ at → byte_at text at ≡ Some b
    → slice_range text start (at + 1) ≡ slice_range text start at ++ (b ∷ [])
one_more text start at b from here =
    let (below, within, is) = there text at b here in
    let rest = length-drop start text in
    let long : at - start < length (drop start text) = omega (arith, rest, within, from) in
    let count : at + 1 - start ≡ at - start + 1 = omega arith in
    let place : start + (at - start) ≡ at = omega arith in
    let byte : get_or (drop start text) (at - start) 0 ≡ b = get_or-drop start text (at - start) 0 ∙ ap (λ i. get_or text i 0) place ∙ is in
    ap (λ n. take n (drop start text)) count ∙ take_more (drop start text) (at - start) 0 long ∙ ap (λ x. take (at - start) (drop start text) ++ (x ∷ [])) byte

-- no line goes on with a byte with which nothing goes on that may come
stuck_behind : (start : ℕ) (p : List ℕ) (s : State) (o : Option ℕ) → Completes start p (left s)
    → MatchOption o (Unit {0}) (λ b. Stuck b (left s)) → MatchOption o (Unit {0}) (λ b. Begins start (p ++ (b ∷ [])) → ⊥)
stuck_behind start p s None fits = λ stop. stop
stuck_behind start p s (Some b) fits = λ stop begins.
    not_there begins (λ (bs, l, says). not_there ((fits (b ∷ bs)).0 (subst (IsLine start) (behind p b bs) ∣ (l, says) ∣₁)) (stop bs))

-- the line that is read to `at` cannot go on there, and does not end there
pub at_fault : (text : List ℕ) (start at : ℕ) (s : State) → start ≤ at → at ≤ length text → at ≤ longest
    → Completes start (slice_range text start at) (left s) → MatchOption (byte_at text at) (Unit {0}) (λ b. Stuck b (left s))
    → (∥ Spells (left s) [] ∥₁ → Ends text at → ⊥) → FaultAt text start at
at_fault text start at s from inside below fits stuck unended =
    let (bs, spelled) = can_end s in
    record {
      from = from;
      within = (inside, below);
      begins = ∥∥₁_map ((fits bs).1 ∣ spelled ∣₁) (λ (l, says). (bs, l, says));
      stuck = stuck_behind start (slice_range text start at) s (byte_at text at) fits stuck;
      unended = λ line. unended ((fits []).0 (subst (IsLine start) (sym (append-nil (slice_range text start at))) line));
    }

-- a byte that no line has
pub no_line_has : (start : ℕ) (p : List ℕ) (b : ℕ) (s : State) → Completes start p (left s) → (foreign b ≡ true) ⊎ (b ≡ 10)
    → Stuck b (left s)
no_line_has start p b s fits bad bs spelled =
    let (plain, inside) = plain_bytes start p b bs ((fits (b ∷ bs)).1 ∣ spelled ∣₁) in
    ⊎_elim (both_ways (foreign b) plain) inside bad

-- the line ends
pub ended : (start : ℕ) (p : List ℕ) (s : State) → Completes start p (left s) → Spells (left s) [] → IsLine start p
ended start p s fits spelled = subst (IsLine start) (append-nil p) ((fits []).1 ∣ spelled ∣₁)

-- what the tokens' type says of where the line began and of the reader
abbrev pub InLine : ℕ → Reader → Type 0
InLine start r = (start ≤ r.at) × Completes start (slice_range r.text.now start r.at) (left r.state)

-- a step of the reader leaves what may come as it is, or takes the byte from it
read_on : (start : ℕ) (r s : Reader) (b : ℕ) → byte_at r.text.now r.at ≡ Some b → Read r s b → InLine start r → InLine start s
read_on start r s b here read (from, fits) =
    let bytes : slice_range s.text.now start s.at ≡ slice_range r.text.now start r.at ++ (b ∷ []) =
    ap (λ t. slice_range t.now start s.at) read.text
    ∙ ap (λ n. slice_range r.text.now start n) read.on
    ∙ one_more r.text.now start r.at b from here in
    let goes = goes_on start (slice_range r.text.now start r.at) b (left r.state) (left s.state) read.goes fits in
    (omega (arith, read.on, from), subst (λ p. Completes start p (left s.state)) (sym bytes) goes)

pub kept : (start : ℕ) (r s : Reader) (o : Result (Unit {0}) ReadFault) → Passes r o s → InLine start r → InLine start s
kept start r s (Err f) stops in_line = subst (InLine start) (sym stops.same) in_line
kept start r s (Ok x) passed in_line = one (byte_at r.text.now r.at) refl passed
  where
    one : (o : Option ℕ) → byte_at r.text.now r.at ≡ o → MatchOption o ⊥ (Read r s) → InLine start s
    one None here never = absurd never
    one (Some b) here read = read_on start r s b here read in_line

some_same : (a b : ℕ) → Some a ≡ Some b → a ≡ b
some_same a b e = cc

-- where a byte stands that ends no line, no line ends
pub no_end : (text : List ℕ) (at : ℕ) → MatchOption (byte_at text at) ⊥ (λ b. b ≢ 10) → Ends text at → ⊥
no_end text at some ends = one (byte_at text at) refl some
  where
    one : (o : Option ℕ) → byte_at text at ≡ o → MatchOption o ⊥ (λ b. b ≢ 10) → ⊥
    one None here never = absurd never
    one (Some b) here other =
        let (below, within, is) = there text at b here in
        ⊎_elim (λ ten. other (some_same b 10 (sym here ∙ ten))) (λ (over, limit). omega (arith, over, within)) ends

pub stopped : (start : ℕ) (r s : Reader) (f : ReadFault) → Stops r s f → MatchOption (byte_at r.text.now r.at) ⊥ (λ b. b ≢ 10)
    → InLine start r → FaultAt r.text.now start s.at × (f ≡ fault_at r.text.now s.at)
stopped start r s f stops some (from, fits) =
    let fault = at_fault r.text.now start r.at r.state from r.within.0 r.within.1 fits stops.stuck (λ spelled. no_end r.text.now r.at some) in
    subst (λ s. FaultAt r.text.now start s.at × (f ≡ fault_at r.text.now s.at)) (sym stops.same) (fault, stops.fault)
