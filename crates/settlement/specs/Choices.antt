-- What settling chooses on each day: the possible codes, and the codes of the two rosters.
use Rattle.std.specs.Prelude.{◌≡◌, ℕ, ◌+◌, ◌≤◌, ℤ, pos, ◌-ℤ◌, Bool, true, ◌&&◌, List, length, Some, int_le, slice_get}
use Rattle.codes.specs.declared.set.CodeSet.{CodeSet}
use Rattle.codes.specs.Members.{member}
use Rattle.entry.specs.Cells.{Meaning, held, weigh}
use Rattle.ledger.specs.Rosters.{Roster}
use Rattle.limits.specs.Links.{Totals}
use Rattle.limits.specs.Systems.{System, at_mark}
use Rattle.closure.specs.Closures.{Starts, Smallest, Largest, Reaches}
use Rattle.settlement.specs.declared.verdict.Agreement.{Agreement}

-- what the totals rise by on the k-th day, counted from 0
abbrev pub rise : Totals → ℕ → ℤ
rise y k = y (k + 1) -ℤ y k

-- the code is held and has the weight
abbrev pub Weighs : Meaning → ℤ → ℕ → Type 0
Weighs m weight code = (held m code ≡ true) × (pos (weigh m code) ≡ weight)

-- on each day some held code weighs what the totals rise by
abbrev pub EachAttains : List Meaning → Totals → Type 0
EachAttains days y = (k : ℕ) (m : Meaning) → slice_get days k ≡ Some m → (code : ℕ) × Weighs m (rise y k) code

-- for each solution of the system some held codes weigh what its totals rise by
abbrev pub Reachable : System → List Meaning → Type 0
Reachable s days = (y : Totals) → Starts s y → EachAttains days y

-- an item for each of the first n days, which is as P says of the day, counted from 0, and of its meaning
pub record Daily {X : Type 0} (P : ℕ → Meaning → X → Type 0) (days : List Meaning) (n : ℕ) (items : List X) : Type 0 where
  pub long : length items ≡ n
  pub item : (k : ℕ) (m : Meaning) (x : X) → slice_get days k ≡ Some m → slice_get items k ≡ Some x → P k m x

-- the code is held and has the weight, and no smaller one is and does
abbrev pub Picks : Meaning → ℤ → ℕ → Type 0
Picks m weight code = Weighs m weight code × ((other : ℕ) → Weighs m weight other → code ≤ other)

-- the roster has on each day the smallest held code that weighs what the totals rise by
abbrev pub EachPicks : List Meaning → Totals → Roster → Type 0
EachPicks days y = Daily (λ k m code. Picks m (rise y k) code) days (length days)

-- the code is held and weighs from least to most
abbrev pub within : Meaning → ℤ → ℤ → ℕ → Bool
within m least most code = held m code && (int_le least (pos (weigh m code)) && int_le (pos (weigh m code)) most)

-- the set has just those codes
abbrev pub Chooses : Meaning → ℤ → ℤ → CodeSet → Type 0
Chooses m least most set = (code : ℕ) → member set code ≡ within m least most code

-- the set has the held codes whose weight some solution rises by on the day
abbrev pub Rising : System → ℕ → Meaning → CodeSet → Type 0
Rising s k m set = (least most : ℤ) × Reaches s k (k + 1) least most × Chooses m least most set

abbrev pub EachRising : System → List Meaning → List CodeSet → Type 0
EachRising s days = Daily (Rising s) days (length days)

-- the possible codes of each day, and the rosters of the smallest and of the largest solution
pub record Agrees (s : System) (days : List Meaning) (a : Agreement) : Type 0 where
  pub possible : EachRising s days a.possible
  pub lean : (totals : List ℤ) × Smallest s totals × EachPicks days (at_mark totals) a.lean
  pub full : (totals : List ℤ) × Largest s totals × EachPicks days (at_mark totals) a.full
