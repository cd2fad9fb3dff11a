-- Systems of links: what a day and a rule add to one, and what holds of every one.
use Rattle.std.specs.Prelude.{◌≡◌, ℕ, ◌+◌, ◌-◌, ◌<◌, ◌≤◌, ℤ, pos, neg_ℤ, ◌+ℤ◌, ◌-ℤ◌, ◌≤ℤ◌, Bool, ◌&&◌, List, [], ◌∷◌, ◌++◌, All, length, nat_lt, nat_le, slice_index_or}
use Rattle.limits.specs.declared.link.Link.{Link}
use Rattle.limits.specs.Links.{Totals, Solves, heaviest_of, lightest_of, most_of, least_of}

-- the links, and the total at each mark from 0 on where each day weighs its lightest, and where each weighs its heaviest
pub record System : Type 0 where
  pub links : List Link
  pub lightest : List ℤ
  pub heaviest : List ℤ

-- of one number for each mark, the one at a mark
abbrev pub at_mark : List ℤ → ℕ → ℤ
at_mark numbers mark = slice_index_or numbers mark (pos 0)

-- what a total of days can be
abbrev pub Small : ℤ → Type 0
Small z = (pos 0 ≤ℤ z) × (z ≤ℤ pos 8064)

-- there is one mark more than there are days
abbrev pub days : System → ℕ
days s = length s.lightest - 1

abbrev pub marks : System → ℕ
marks s = days s + 1

-- the totals with those of one day more
abbrev pub raised : List ℤ → ℕ → List ℤ
raised totals weight = totals ++ (at_mark totals (length totals - 1) +ℤ pos weight) ∷ []

-- some totals keep every link
abbrev pub Solvable : System → Type 0
Solvable s = (y : Totals) × Solves s.links y

-- ---- days and rules
-- no day and no rule: mark 0 alone
abbrev pub no_days : System
no_days = record { links = []; lightest = pos 0 ∷ []; heaviest = pos 0 ∷ [] }

-- there is room for two links more
abbrev pub room : System → Bool
room s = nat_le (length s.links + 2) 1280

-- a day of such weights has a place
abbrev pub day_fits : System → ℕ → ℕ → Bool
day_fits s lightest heaviest = nat_lt (days s) 128 && (nat_le lightest 63 && (nat_le heaviest 63 && room s))

-- the system with that day after the last
abbrev pub with_day : System → ℕ → ℕ → System
with_day s lightest heaviest = record {
  links = s.links ++ heaviest_of (days s + 1) heaviest ∷ lightest_of (days s + 1) lightest ∷ [];
  lightest = raised s.lightest lightest;
  heaviest = raised s.heaviest heaviest;
}

-- a rule on such days, with such a least and most, has a place
abbrev pub rule_fits : System → ℕ → ℕ → ℕ → ℕ → Bool
rule_fits s first last least most =
    nat_lt 0 first && (nat_le first last && (nat_le last (days s) && (nat_le least 8064 && (nat_le most 8064 && room s))))

-- the system with that rule
abbrev pub with_rule : System → ℕ → ℕ → ℕ → ℕ → ℕ → System
with_rule s number first last least most =
    record s { links = s.links ++ most_of number first last most ∷ least_of number first last least ∷ [] }

-- ---- what holds of every system
-- no sum of days is larger, either way
abbrev pub Near : ℤ → Type 0
Near z = (neg_ℤ (pos 8064) ≤ℤ z) × (z ≤ℤ pos 8064)

-- the link runs between marks of so many days, and its allowance is near
abbrev pub Within : ℕ → Link → Type 0
Within days l = (l.from.0 ≤ days) × (l.to.0 ≤ days) × Near l.allowance

-- from the mark to the next the totals rise by a weight
abbrev pub Step : List ℤ → ℕ → Type 0
Step totals mark =
    (at_mark totals mark ≤ℤ at_mark totals (mark + 1)) × (at_mark totals (mark + 1) ≤ℤ (at_mark totals mark +ℤ pos 63))

-- from the mark to the next the solution rises by the day's lightest at the least and by its heaviest at the most
abbrev pub Span : System → Totals → ℕ → Type 0
Span s y mark =
    ((at_mark s.lightest (mark + 1) -ℤ at_mark s.lightest mark) ≤ℤ (y (mark + 1) -ℤ y mark))
    × ((y (mark + 1) -ℤ y mark) ≤ℤ (at_mark s.heaviest (mark + 1) -ℤ at_mark s.heaviest mark))

-- marks and days, totals and links go together
pub record Bounds (s : System) : Type 0 where
  pub marked : (1 ≤ length s.lightest) × (length s.heaviest ≡ length s.lightest)
  pub few : days s ≤ 128
  pub starts : (at_mark s.lightest 0 ≡ pos 0) × (at_mark s.heaviest 0 ≡ pos 0)
  pub within : All (Within (days s)) s.links
  pub steps : (mark : ℕ) → mark < days s → Step s.lightest mark × Step s.heaviest mark
  pub spans : (y : Totals) → Solves s.links y → (mark : ℕ) → mark < days s → Span s y mark
