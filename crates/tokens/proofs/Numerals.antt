-- The numerals of a sheet are what the numbers below a million are written as.
use Rattle.std.proofs.Common.{◌≡◌, ℕ, zero, suc, ◌<◌, ◌≤◌, ◌^◌, List, [], ◌∷◌, ◌++◌, length, get_or, refl, sym, ap, subst, inl, inr, arith, rules}
use Rattle.std.specs.Prelude.{decimal}
use Rattle.std.specs.Str.Parse.{digits_value}
use Rattle.std.proofs.lemmas.Str.Parse.{IsNumeralModel, numerals_by_value, digits_value_short}
use Rattle.std.proofs.lemmas.Fmt.{decimal_digit, digits_decimal, first_decimal, length-decimal-le, decimal-digits_value}
use Rattle.reader.specs.Forms.{Digits, Numeral, Numerals, behind_blanks}
use Rattle.tokens.specs.Lines.{Small, listed}

-- digits are read by their value
own : IsNumeralModel Digits (digits_value 10)
own = numerals_by_value Digits (search rules)

-- what a number is written as is a numeral, for its first digit is no zero
led : (ds : List ℕ) → Digits ds → 48 < get_or ds 0 0 → length ds ≤ 6 → Numeral ds
led [] each front few = omega arith
led (d ∷ ds) each front few = inr (omega arith, each.0.1, each.1, omega arith)

pub numeral_decimal : (n : ℕ) → n < 10 ^ 6 → Numeral (decimal n)
numeral_decimal zero small = subst Numeral (sym (decimal_digit 0 (omega arith))) (inl (refl, refl))
numeral_decimal (suc n) small =
    led (decimal (suc n)) (digits_decimal own (suc n) (omega arith)) (first_decimal (suc n) (omega arith) (omega arith))
    (length-decimal-le 6 (suc n) (omega arith) small (omega arith))

-- what a numeral is besides digits: one at least, six at the most, and one alone where the first is a zero
pub numeral_parts : (ds : List ℕ) → Numeral ds
    → Digits ds × (0 < length ds) × (length ds ≤ 6) × (get_or ds 0 0 ≡ 48 → length ds ≡ 1)
numeral_parts [] numeral = absurd numeral
numeral_parts (d ∷ ds) (inl (first, rest)) =
    (((omega arith, omega arith), subst Digits (sym rest) tt), omega arith, omega (arith, ap length rest), λ _. omega (arith, ap length rest))
numeral_parts (d ∷ ds) (inr (low, high, each, few)) = (((omega arith, high), each), omega arith, omega arith, λ e. omega arith)

-- a numeral is what its value is written as
pub decimal_numeral : (ds : List ℕ) → Numeral ds → (n : ℕ) × (n < 10 ^ 6) × (ds ≡ decimal n)
decimal_numeral ds numeral =
    let (each, some, few, lead) = numeral_parts ds numeral in
    let small = digits_value_short own ds 6 each few in
    (digits_value 10 ds, small, sym (decimal-digits_value own ds each some lead (omega arith)))

-- the same of lists
pub numerals_listed : (ns : List ℕ) → Small ns → (dss : List (List ℕ)) × Numerals dss × (listed ns ≡ behind_blanks dss)
numerals_listed [] small = ([], tt, refl)
numerals_listed (n ∷ ns) small =
    let (dss, numerals, e) = numerals_listed ns small.1 in
    (decimal n ∷ dss, (numeral_decimal n small.0, numerals), ap (λ r. 32 ∷ (decimal n ++ r)) e)

pub listed_numerals : (dss : List (List ℕ)) → Numerals dss → (ns : List ℕ) × Small ns × (behind_blanks dss ≡ listed ns)
listed_numerals [] numerals = ([], tt, refl)
listed_numerals (ds ∷ dss) numerals =
    let (n, small, e) = decimal_numeral ds numerals.0 in
    let (ns, smalls, es) = listed_numerals dss numerals.1 in
    (n ∷ ns, (small, smalls), (cc))

-- the numbers of two lists are small where those of both together are
pub small_parts : (ns ms : List ℕ) → Small (ns ++ ms) → Small ns × Small ms
small_parts [] ms small = (tt, small)
small_parts (n ∷ ns) ms small = let (left, right) = small_parts ns ms small.1 in ((small.0, left), right)

pub small_append : (ns ms : List ℕ) → Small ns → Small ms → Small (ns ++ ms)
small_append [] ms left right = right
small_append (n ∷ ns) ms left right = (left.0, small_append ns ms left.1 right)
