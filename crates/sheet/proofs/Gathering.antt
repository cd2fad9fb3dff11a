-- What the items of a line amount to, one after another.
use Rattle.std.proofs.Common.{rules, arith, refl, sym, ap, ◌∙◌, ◌≡◌, ℕ, ◌+◌, ◌*◌, ◌-◌, ◌^◌, ◌<◌, List, [], ◌∷◌, ◌++◌, get_or, length, codes, decimal, fold, map, append_assoc, cond, slice_index}
use Rattle.std.specs.Int.{IsInRange}
use Rattle.std.proofs.lemmas.List.{append-nil}
use Rattle.std.proofs.lemmas.Fmt.{decimal_nonempty, digits_decimal, digits_value-decimal}
use Rattle.std.proofs.lemmas.Str.Parse.{IsNumeralModel, numerals_by_fold, tells_by_index}
use Rattle.ledger.specs.declared.call.Call.TheVariants.{Rule, Slide, Withdraw, Strike, Grant, Settle}
use Rattle.reader.specs.Places.{digit}
use Rattle.tokens.specs.Lines.{Line, duty, collection, boxes, call, numbers, Small}
use Rattle.tokens.proofs.Numerals.{small_parts}
use Rattle.sheet.specs.Drafts.{Gathered, fresh, turned, number_of, value_of, put, numbered, worded, gathered, plain}
use Rattle.sheet.proofs.Items.{spelled}
use Rattle.sheet.specs.declared.draft.Name.TheVariants as name
use Rattle.sheet.specs.declared.draft.Part.{Part}
use Rattle.sheet.specs.declared.draft.Part.TheVariants as part

-- an item that begins with a digit is a number, and any other is a word
abbrev pub gather : Gathered → List ℕ → Gathered
gather g item = cond (digit (slice_index item 0)) (numbered g (value_of item)) (worded g item)

-- texts of digits are those with each byte a digit, and number_of is what they write
digit_texts : IsNumeralModel (λ ds. (i : ℕ) → i < length ds → IsInRange 48 57 (get_or ds i 0)) number_of
digit_texts = numerals_by_fold _ tells_by_index (fold (λ n c. 10 * n + (c - 48))) (search rules)

-- an item with a digit in front is a number; so is each small number, as it is written
pub digits_are_a_number : (g : Gathered) (item : List ℕ) → IsInRange 48 57 (get_or item 0 0)
    → gather g item ≡ numbered g (value_of item)
digits_are_a_number g item h = search rules

gathers_number : (g : Gathered) (n : ℕ) → n < 10 ^ 6 → gather g (decimal n) ≡ numbered g n
gathers_number g n h =
    let small : n < 2 ^ 64 = omega arith in
    let value : value_of (decimal n) ≡ n = omega (arith, digits_value-decimal digit_texts n small) in
    digits_are_a_number g (decimal n) (digits_decimal digit_texts n small 0 (decimal_nonempty n small)) ∙ ap (numbered g) value

-- written numbers in a row, and then the items behind them
gathers_row : (g : Gathered) (ns : List ℕ) (items : List (List ℕ)) → Small ns
    → fold gather g (map decimal ns ++ items) ≡ fold gather (fold numbered g ns) items
gathers_row g [] items s = refl
gathers_row g (n ∷ ns) items s = ap (λ h. fold gather h (map decimal ns ++ items)) (gathers_number g n s.0) ∙ gathers_row (numbered g n) ns items s.1

-- the same at the end of the line
gathers_last : (g : Gathered) (ns : List ℕ) → Small ns → fold gather g (map decimal ns) ≡ fold numbered g ns
gathers_last g ns s = rw append-nil at (gathers_row g ns [] s)

-- the numbers of a row go into the part that is begun
put_more : (p : Part) (g : Gathered) (n : ℕ) (ns : List ℕ) → put p (put p g (n ∷ [])) ns ≡ put p g (n ∷ ns)
put_more part.Single g n ns = ap (λ all. record g { single = all }) (append_assoc g.single (n ∷ []) ns)
put_more part.Codes g n ns = ap (λ all. record g { codes = all }) (append_assoc g.codes (n ∷ []) ns)
put_more part.Counts g n ns = ap (λ all. record g { counts = all }) (append_assoc g.counts (n ∷ []) ns)

put_none : (p : Part) (g : Gathered) → g ≡ put p g []
put_none part.Single g = ap (λ all. record g { single = all }) (sym (append-nil g.single))
put_none part.Codes g = ap (λ all. record g { codes = all }) (sym (append-nil g.codes))
put_none part.Counts g = ap (λ all. record g { counts = all }) (sym (append-nil g.counts))

same_part : (p : Part) (g : Gathered) (n : ℕ) → (put p g (n ∷ [])).part ≡ g.part
same_part part.Single g n = refl
same_part part.Codes g n = refl
same_part part.Counts g n = refl

row_of : (p : Part) (g : Gathered) (ns : List ℕ) → g.part ≡ p → fold numbered g ns ≡ put p g ns
row_of p g [] is = put_none p g
row_of p g (n ∷ ns) is =
    let one : numbered g n ≡ put p g (n ∷ []) = ap (λ q. put q g (n ∷ [])) is in
    ap (λ h. fold numbered h ns) one ∙ row_of p (put p g (n ∷ [])) ns (same_part p g n ∙ is) ∙ put_more p g n ns

-- the lines with lists
gathers_duty : (days : ℕ) (held : List ℕ) → Small (numbers (duty days held))
    → fold gather fresh (spelled (duty days held)) ≡ gathered (duty days held)
gathers_duty days held s =
    let g = plain name.Duty (days ∷ []) in
    gathers_row (plain name.Duty []) (days ∷ []) (codes "codes" ∷ map decimal held) (s.0, tt)
    ∙ (gathers_last (turned g part.Codes) held s.1 ∙ row_of part.Codes (turned g part.Codes) held refl)

gathers_collection : (days : ℕ) (held counts : List ℕ) → Small (numbers (collection days held counts))
    → fold gather fresh (spelled (collection days held counts)) ≡ gathered (collection days held counts)
gathers_collection days held counts s =
    let (small_held, small_counts) = small_parts held counts s.1 in
    let g = plain name.Collection (days ∷ []) in
    let with_held = record g { part = part.Codes; codes = held } in
    let rest = codes "counts" ∷ map decimal counts in
    gathers_row (plain name.Collection []) (days ∷ []) (codes "codes" ∷ (map decimal held ++ rest)) (s.0, tt)
    ∙ (gathers_row (turned g part.Codes) held rest small_held
    ∙ (ap (λ h. fold gather h rest) (row_of part.Codes (turned g part.Codes) held refl)
    ∙ (gathers_last (turned with_held part.Counts) counts small_counts ∙ row_of part.Counts (turned with_held part.Counts) counts refl)))

-- the items of any line amount to the line
pub gathers : (l : Line) → Small (numbers l) → fold gather fresh (spelled l) ≡ gathered l
gathers (duty days held) s = gathers_duty days held s
gathers (collection days held counts) s = gathers_collection days held counts s
gathers (boxes days low high) s =
    gathers_row (plain name.Boxes []) (days ∷ []) (codes "span" ∷ decimal low ∷ decimal high ∷ []) (s.0, tt)
    ∙ gathers_last (plain name.Boxes (days ∷ [])) (low ∷ high ∷ []) s.1
gathers (call (Rule first last least most)) s =
    gathers_row (plain name.Rule []) (first ∷ last ∷ []) (codes "count" ∷ decimal least ∷ decimal most ∷ []) (s.0, (s.1.0, tt))
    ∙ gathers_last (plain name.Rule (first ∷ last ∷ [])) (least ∷ most ∷ []) s.1.1
gathers (call (Slide width least most)) s =
    gathers_row (plain name.Slide []) (width ∷ []) (codes "count" ∷ decimal least ∷ decimal most ∷ []) (s.0, tt)
    ∙ gathers_last (plain name.Slide (width ∷ [])) (least ∷ most ∷ []) s.1
gathers (call (Withdraw number)) s = gathers_last (plain name.Withdraw []) (number ∷ []) s
gathers (call (Strike day code)) s = gathers_last (plain name.Strike []) (day ∷ code ∷ []) s
gathers (call (Grant day code)) s = gathers_last (plain name.Grant []) (day ∷ code ∷ []) s
gathers (call Settle) s = refl
