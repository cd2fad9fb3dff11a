-- A form spells just the texts that it is filled to with numbers.
use Rattle.std.proofs.Common.{◌≡◌, ℕ, ◌<◌, ◌≤◌, ◌^◌, ◌⊎◌, List, [], ◌∷◌, ◌++◌, length, refl, ap, inl, inr, ⊎_elim}
use Rattle.std.specs.Prelude.{decimal}
use Rattle.reader.specs.Forms.{Form, done, lit, num, more, list, alt, Digits, Spells}
use Rattle.tokens.specs.Lines.{Small, listed}
use Rattle.tokens.proofs.Numerals.{numeral_decimal, decimal_numeral, numerals_listed, listed_numerals}

-- the numbers that a form's text is written with, and the text
abbrev pub Takes : Form → Type 0
Takes done = Unit {0}
Takes (lit c f) = Takes f
Takes (num f) = (n : ℕ) × (n < 10 ^ 6) × Takes f
Takes (more k f) = (ds : List ℕ) × (Digits ds × (length ds ≤ k)) × Takes f
Takes (list f) = (ns : List ℕ) × Small ns × Takes f
Takes (alt f g) = Takes f ⊎ Takes g

abbrev pub filled : (f : Form) → Takes f → List ℕ
filled done x = []
filled (lit c f) x = c ∷ filled f x
filled (num f) x = decimal x.0 ++ filled f x.2
filled (more k f) x = x.0 ++ filled f x.2
filled (list f) x = listed x.0 ++ filled f x.2
filled (alt f g) x = ⊎_elim (filled f) (filled g) x

-- a form spells each text that it is filled to, and no other
pub spells_filled : (f : Form) (x : Takes f) → Spells f (filled f x)
spells_filled done x = refl
spells_filled (lit c f) x = (filled f x, refl, spells_filled f x)
spells_filled (num f) (n, small, x) = (decimal n, filled f x, numeral_decimal n small, refl, spells_filled f x)
spells_filled (more k f) (ds, few, x) = (ds, filled f x, few, refl, spells_filled f x)
spells_filled (list f) (ns, small, x) =
    let (dss, numerals, e) = numerals_listed ns small in (dss, filled f x, numerals, ap (λ l. l ++ filled f x) e, spells_filled f x)
spells_filled (alt f g) (inl x) = inl (spells_filled f x)
spells_filled (alt f g) (inr x) = inr (spells_filled g x)

pub fills_spelled : (f : Form) (bs : List ℕ) → Spells f bs → (x : Takes f) × (bs ≡ filled f x)
fills_spelled done bs s = (tt, s)
fills_spelled (lit c f) bs (r, e, s) = let (x, is) = fills_spelled f r s in (x, (cc))
fills_spelled (num f) bs (ds, r, numeral, e, s) =
    let (n, small, same) = decimal_numeral ds numeral in
    let (x, is) = fills_spelled f r s in
    ((n, small, x), (cc))
fills_spelled (more k f) bs (ds, r, few, e, s) = let (x, is) = fills_spelled f r s in ((ds, few, x), (cc))
fills_spelled (list f) bs (dss, r, numerals, e, s) =
    let (ns, small, same) = listed_numerals dss numerals in
    let (x, is) = fills_spelled f r s in
    ((ns, small, x), (cc))
fills_spelled (alt f g) bs (inl s) = let (x, is) = fills_spelled f bs s in (inl x, is)
fills_spelled (alt f g) bs (inr s) = let (x, is) = fills_spelled g bs s in (inr x, is)
