-- What a list of calls makes of a plan and what it keeps, whichever of the calls are refused.
use Rattle.std.specs.Prelude.{◌≡◌, ℕ, ◌+◌, ◌-◌, ◌<◌, ◌≤◌, Bool, true, false, if◌then◌else◌, not, ◌&&◌, List, [], ◌∷◌, ◌++◌, length, is_ok, Some, None, Ok, Err, Result}
use Rattle.std.specs.List.{range_with_len, All}
use Rattle.entry.specs.Cells.{Meaning, weigh, Holds, NoGap, Sized}
use Rattle.entry.specs.Refusals.{Row}
use Rattle.ledger.specs.declared.rule.Rule as Declared
use Rattle.ledger.specs.declared.call.Call.{Call}
use Rattle.ledger.specs.declared.call.Call.TheVariants.{Rule, Slide, Withdraw, Strike, Grant, Settle}
use Rattle.ledger.specs.Ledgers.{Ledger, Answer, numbered, ranging, done, settled, day_of, reply, after, after_all}
use Rattle.ledger.specs.Rules.{stands, Within}

-- the call edits the entry of the day
abbrev pub Edits : Call → ℕ → Type 0
Edits (Strike d code) day = d ≡ day
Edits (Grant d code) day = d ≡ day
Edits (Rule first last least most) day = ⊥
Edits (Slide width least most) day = ⊥
Edits (Withdraw number) day = ⊥
Edits Settle day = ⊥

-- the rule numbers that an answer gives out
abbrev pub given_by : Result Answer Row → List ℕ
given_by (Ok (numbered number)) = number ∷ []
given_by (Ok (ranging (Some p))) = range_with_len p.0 (p.1 + 1 - p.0)
given_by (Ok (ranging None)) = []
given_by (Ok done) = []
given_by (Ok settled) = []
given_by (Err row) = []

-- the rule numbers that a list of calls gives out, one after another
abbrev pub given : Ledger → List Call → List ℕ
given l [] = []
given l (call ∷ calls) = given_by (reply l call) ++ given (after l call) calls

abbrev pub is_settle : Call → Bool
is_settle Settle = true
is_settle (Rule first last least most) = false
is_settle (Slide width least most) = false
is_settle (Withdraw number) = false
is_settle (Strike day code) = false
is_settle (Grant day code) = false

-- the calls that no row refuses, without the settles
abbrev pub taken : Ledger → List Call → List Call
taken l [] = []
taken l (call ∷ calls) =
    if is_ok (reply l call) && not (is_settle call) then call ∷ taken (after l call) calls else taken (after l call) calls

-- 64 cells, no weight above 63, and no gap in the weights
abbrev pub Whole : Meaning → Type 0
Whole m = Sized m × NoGap m

-- in force, the rule lies within the days, with a least and a most that its window can have at this top
abbrev pub FitsPlan : ℕ → ℕ → Declared.Rule → Type 0
FitsPlan days top r = r.in_force ≡ true → Within days top r

-- a ledger as settling wants it
pub record Good (l : Ledger) : Type 0 where
  pub few : length l.days ≤ 128
  pub held : All Holds l.days
  pub gapless : All Whole l.days
  pub within : All (FitsPlan (length l.days) l.kind.top) l.rules

-- at most 128 days, each holding a code, and no rule yet
abbrev pub Starts : Ledger → Type 0
Starts l = (length l.days ≤ 128) × All Holds l.days × (l.rules ≡ [])

-- the calls make m of the ledger l
pub record Run (l : Ledger) (calls : List Call) (m : Ledger) : Type 0 where
  pub after : m ≡ after_all l calls
  -- refused calls and settles change nothing: the others alone lead to the same ledger
  pub idle : after_all l (taken l calls) ≡ m
  pub kind : m.kind ≡ l.kind
  pub days : length m.days ≡ length l.days
  -- no call changes a weight, nor the entry of a day that no strike and no grant names
  pub weights : (day code : ℕ) → weigh (day_of m day) code ≡ weigh (day_of l day) code
  pub others : (day : ℕ) → 0 < day → All (λ call. Edits call day → ⊥) calls → day_of m day ≡ day_of l day
  -- the numbers given out follow one another from the first that was free, so none is given out twice
  pub grows : length l.rules ≤ length m.rules
  pub numbers : given l calls ≡ range_with_len (length l.rules + 1) (length m.rules - length l.rules)
  -- a withdrawn rule stays withdrawn
  pub withdrawn : (number : ℕ) → number ≤ length l.rules → stands l.rules number ≡ false → stands m.rules number ≡ false
  pub good : Good l → Good m
