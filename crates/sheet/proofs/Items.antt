-- The words and numbers of a text, and those of a written line.
use Rattle.std.specs.Prelude.{◌≡◌, ℕ, ◌<◌, ◌^◌, ◌==◌, cond, List, [], ◌∷◌, ◌++◌, codes, decimal, map, length, slice_index}
use Rattle.std.specs.List.{All, onto_first}
use Rattle.std.proofs.Common.{◌∙◌, ap, refl, append_assoc, append-nil, arith, rules}
use Rattle.std.specs.Int.{IsInRange}
use Rattle.std.proofs.lemmas.Bool.Decides.{nat_tests}
use Rattle.std.proofs.lemmas.Fmt.{decimal_is_IsNumeral}
use Rattle.std.proofs.lemmas.List.Elements.{All-head, All-tail, All-from_get_or}
use Rattle.std.proofs.lemmas.Str.Parse.{digit_at}
use Rattle.reader.specs.Places.{letter, digit}
use Rattle.ledger.specs.declared.call.Call.TheVariants.{Rule, Slide, Withdraw, Strike, Grant, Settle}
use Rattle.tokens.specs.Lines.{Line, duty, collection, boxes, call, numbers, listed, written, Small}
use Rattle.tokens.proofs.Numerals.{small_parts}

-- 1 is a letter's class, 2 a digit's, and 0 any other byte's
abbrev pub class : ℕ → ℕ
class b = cond (letter b) 1 (cond (digit b) 2 0)

-- the words and numbers from a byte b of class c on, where a byte of class `next` follows and `rest` are those behind b
abbrev pub grown : ℕ → ℕ → ℕ → List (List ℕ) → List (List ℕ)
grown c next b rest = cond (c == 0) rest (cond (c == next) (onto_first b rest) ((b ∷ []) ∷ rest))

-- the words and numbers of a text: its longest runs of letters and of digits, in order
abbrev pub items : List ℕ → List (List ℕ)
items [] = []
items (b ∷ bs) = grown (class b) (class (slice_index bs 0)) b (items bs)

-- bytes that are no letters or digits tell nothing
pub items_blanks : (ws r : List ℕ) → All (λ b. class b ≡ 0) ws → items (ws ++ r) ≡ items r
items_blanks [] r each = refl
items_blanks (b ∷ ws) r each =
    ap (λ c. grown c (class (slice_index (ws ++ r) 0)) b (items (ws ++ r))) (All-head (λ b. class b ≡ 0) b ws each)
    ∙ items_blanks ws r (All-tail (λ b. class b ≡ 0) b ws each)

-- a run of bytes of one class is one of them
grown_last : (k next b : ℕ) (rest : List (List ℕ)) → 0 < k → (next ≡ k → ⊥) → grown k next b rest ≡ (b ∷ []) ∷ rest
grown_last k next b rest some other = grind (arith, nat_tests)

grown_on : (k b : ℕ) (w : List ℕ) (rest : List (List ℕ)) → 0 < k → grown k k b (w ∷ rest) ≡ (b ∷ w) ∷ rest
grown_on k b w rest some = grind (arith, nat_tests)

pub items_run : (k : ℕ) (w r : List ℕ)
    → 0 < k → 0 < length w → All (λ b. class b ≡ k) w → (class (slice_index r 0) ≡ k → ⊥)
    → items (w ++ r) ≡ w ∷ items r
items_run k [] r some long each other = absurd (omega (arith, long))
items_run k (b ∷ []) r some long each other =
    let e = All-head (λ b. class b ≡ k) b [] each in
    ap (λ c. grown c (class (slice_index r 0)) b (items r)) e ∙ grown_last k (class (slice_index r 0)) b (items r) some other
items_run k (b ∷ c ∷ w) r some long each other =
    let e = All-head (λ b. class b ≡ k) b (c ∷ w) each in
    let more = All-tail (λ b. class b ≡ k) b (c ∷ w) each in
    let f = All-head (λ b. class b ≡ k) c w more in
    ap (λ rest. grown (class b) (class c) b rest) (items_run k (c ∷ w) r some (omega arith) more other)
    ∙ ap (λ x. grown x (class c) b ((c ∷ w) ∷ items r)) e
    ∙ ap (λ x. grown k x b ((c ∷ w) ∷ items r)) f
    ∙ grown_on k b (c ∷ w) (items r) some

-- and so is a number as it is written
digit_class : (b : ℕ) → IsInRange 48 57 b → class b ≡ 2
digit_class b range = grind (arith, nat_tests)

pub decimal_digits : (n : ℕ) → n < 10 ^ 6 → (0 < length (decimal n)) × All (λ b. class b ≡ 2) (decimal n)
decimal_digits n small =
    let (some, each) = (decimal_is_IsNumeral n (omega (arith, small))).0 in
    (some, All-from_get_or (λ b. class b ≡ 2) (decimal n) 0 (λ i fits. digit_class _ (digit_at (decimal n) i each fits)))

number_item : (n : ℕ) (r : List ℕ) (rest : List (List ℕ))
    → n < 10 ^ 6 → class (slice_index r 0) ≡ 0 → items r ≡ rest → items (decimal n ++ r) ≡ decimal n ∷ rest
number_item n r rest small apart is =
    let (some, each) = decimal_digits n small in
    items_run 2 (decimal n) r (omega arith) some each (λ e. omega (arith, apart, e)) ∙ ap (λ x. decimal n ∷ x) is

-- numbers behind a blank each, in front of a byte that is no letter or digit
listed_apart : (ns r : List ℕ) → class (slice_index r 0) ≡ 0 → class (slice_index (listed ns ++ r) 0) ≡ 0
listed_apart [] r apart = apart
listed_apart (n ∷ ns) r apart = refl

listed_items : (ns r : List ℕ) (rest : List (List ℕ))
    → Small ns → class (slice_index r 0) ≡ 0 → items r ≡ rest → items (listed ns ++ r) ≡ map decimal ns ++ rest
listed_items [] r rest small apart is = is
listed_items (n ∷ ns) r rest small apart is =
    ap items (append_assoc (decimal n) (listed ns) r)
    ∙ number_item n (listed ns ++ r) (map decimal ns ++ rest) small.0 (listed_apart ns r apart) (listed_items ns r rest small.1 apart is)

-- and so are they behind a word that ends before the blank
list_items : (w : List ℕ) → ((r : List ℕ) → class (slice_index r 0) ≡ 0 → items (w ++ r) ≡ w ∷ items r)
    → (ns r : List ℕ) (rest : List (List ℕ)) → Small ns → class (slice_index r 0) ≡ 0 → items r ≡ rest
    → items (w ++ (listed ns ++ r)) ≡ w ∷ (map decimal ns ++ rest)
list_items w alone ns r rest small apart is =
    alone (listed ns ++ r) (listed_apart ns r apart) ∙ ap (λ x. w ∷ x) (listed_items ns r rest small apart is)

-- the words and numbers of a line as it is written
abbrev pub spelled : Line → List (List ℕ)
spelled (duty days held) = codes "sheet" ∷ codes "duty" ∷ decimal days ∷ codes "codes" ∷ map decimal held
spelled (collection days held counts) =
    codes "sheet" ∷ codes "collection" ∷ decimal days ∷ codes "codes" ∷ (map decimal held ++ (codes "counts" ∷ map decimal counts))
spelled (boxes days low high) = codes "sheet" ∷ codes "boxes" ∷ decimal days ∷ codes "span" ∷ decimal low ∷ decimal high ∷ []
spelled (call (Rule first last least most)) =
    codes "rule" ∷ codes "days" ∷ decimal first ∷ decimal last ∷ codes "count" ∷ decimal least ∷ decimal most ∷ []
spelled (call (Slide width least most)) = codes "slide" ∷ decimal width ∷ codes "count" ∷ decimal least ∷ decimal most ∷ []
spelled (call (Withdraw number)) = codes "withdraw" ∷ decimal number ∷ []
spelled (call (Strike day code)) = codes "strike" ∷ decimal day ∷ decimal code ∷ []
spelled (call (Grant day code)) = codes "grant" ∷ decimal day ∷ decimal code ∷ []
spelled (call Settle) = codes "settle" ∷ []

pub written_items : (l : Line) → Small (numbers l) → items (written l) ≡ spelled l
written_items (duty days held) small = search (rules, number_item, list_items (codes "codes") (λ r apart. rw apart refl), append-nil)
written_items (collection days held counts) small =
    let (few, fewer) = small_parts held counts small.1 in
    let codes_items = list_items (codes "codes") (λ r apart. rw apart refl) in
    let counts_items = list_items (codes "counts") (λ r apart. rw apart refl) in
    search (rules, number_item, codes_items, counts_items, append-nil)
written_items (boxes days low high) small = search (rules, number_item)
written_items (call (Rule first last least most)) small = search (rules, number_item)
written_items (call (Slide width least most)) small = search (rules, number_item)
written_items (call (Withdraw number)) small = search (rules, number_item)
written_items (call (Strike day code)) small = search (rules, number_item)
written_items (call (Grant day code)) small = search (rules, number_item)
written_items (call Settle) small = refl
