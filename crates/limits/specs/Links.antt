-- Links between marks, and the table of limits: from which mark to which each runs, and what it allows.
use Rattle.std.specs.Prelude.{ℕ, ◌-◌, ℤ, pos, ◌+ℤ◌, neg_ℤ, ◌≤ℤ◌, List, All}
use Rattle.limits.specs.declared.link.Link.{Link}
use Rattle.limits.specs.declared.link.Limit.{Limit}
use Rattle.limits.specs.declared.link.Limit.TheVariants.{Most, Least, Heaviest, Lightest}

-- the total at each mark
abbrev pub Totals : Type 0
Totals = ℕ → ℤ

-- the total at the link's end exceeds that at its start by the allowance at most
abbrev pub Keeps : Totals → Link → Type 0
Keeps y l = y l.to.0 ≤ℤ (y l.from.0 +ℤ l.allowance)

-- totals that keep every link
abbrev pub Solves : List Link → Totals → Type 0
Solves links y = All (Keeps y) links

abbrev pub link : Limit → ℕ → ℕ → ℤ → Link
link limit from to allowance = record { limit = limit; from = record { 0 = from }; to = record { 0 = to }; allowance = allowance }

-- ---- the table of limits
abbrev pub heaviest_of : ℕ → ℕ → Link
heaviest_of day weight = link (Heaviest day) (day - 1) day (pos weight)

abbrev pub lightest_of : ℕ → ℕ → Link
lightest_of day weight = link (Lightest day) day (day - 1) (neg_ℤ (pos weight))

abbrev pub most_of : ℕ → ℕ → ℕ → ℕ → Link
most_of number first last most = link (Most number) (first - 1) last (pos most)

abbrev pub least_of : ℕ → ℕ → ℕ → ℕ → Link
least_of number first last least = link (Least number) last (first - 1) (neg_ℤ (pos least))
