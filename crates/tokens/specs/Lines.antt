-- The lines that a sheet may have: what each says, where it may stand, and how it is written.
use Rattle.std.specs.Prelude.{◌≡◌, ℕ, ◌<◌, ◌^◌, List, [], ◌∷◌, ◌++◌, codes, decimal}
use Rattle.ledger.specs.declared.call.Call.{Call}
use Rattle.ledger.specs.declared.call.Call.TheVariants.{Rule, Slide, Withdraw, Strike, Grant, Settle}

-- a first line says a kind, the days, and what each day starts with: codes; codes and counted codes; low and high
pub data Line : Type 0 where
  duty : ℕ → List ℕ → Line
  collection : ℕ → List ℕ → List ℕ → Line
  boxes : ℕ → ℕ → ℕ → Line
  call : Call → Line

-- the numbers of a line, in the order in which they are written
abbrev pub numbers : Line → List ℕ
numbers (duty days held) = days ∷ held
numbers (collection days held counts) = days ∷ (held ++ counts)
numbers (boxes days low high) = days ∷ low ∷ high ∷ []
numbers (call (Rule first last least most)) = first ∷ last ∷ least ∷ most ∷ []
numbers (call (Slide width least most)) = width ∷ least ∷ most ∷ []
numbers (call (Withdraw number)) = number ∷ []
numbers (call (Strike day code)) = day ∷ code ∷ []
numbers (call (Grant day code)) = day ∷ code ∷ []
numbers (call Settle) = []

-- the line may stand where `start` bytes stand before it: a kind on the first line, and a call on any other
abbrev pub Stands : ℕ → Line → Type 0
Stands start (duty days held) = start ≡ 0
Stands start (collection days held counts) = start ≡ 0
Stands start (boxes days low high) = start ≡ 0
Stands start (call c) = 0 < start

-- each number behind a blank
abbrev pub listed : List ℕ → List ℕ
listed [] = []
listed (n ∷ ns) = 32 ∷ (decimal n ++ listed ns)

-- the bytes of a line
abbrev pub written : Line → List ℕ
written (duty days held) = codes "(sheet duty " ++ (decimal days ++ (codes " (codes" ++ (listed held ++ codes "))")))
written (collection days held counts) = codes "(sheet collection " ++ (decimal days ++ (codes " (codes" ++ (listed held ++ (codes ") (counts" ++ (listed counts ++ codes "))")))))
written (boxes days low high) = codes "(sheet boxes " ++ (decimal days ++ (codes " (span " ++ (decimal low ++ (codes " " ++ (decimal high ++ codes "))")))))
written (call (Rule first last least most)) = codes "(rule (days " ++ (decimal first ++ (codes " " ++ (decimal last ++ (codes ") (count " ++ (decimal least ++ (codes " " ++ (decimal most ++ codes "))")))))))
written (call (Slide width least most)) = codes "(slide " ++ (decimal width ++ (codes " (count " ++ (decimal least ++ (codes " " ++ (decimal most ++ codes "))")))))
written (call (Withdraw number)) = codes "(withdraw " ++ (decimal number ++ codes ")")
written (call (Strike day code)) = codes "(strike " ++ (decimal day ++ (codes " " ++ (decimal code ++ codes ")")))
written (call (Grant day code)) = codes "(grant " ++ (decimal day ++ (codes " " ++ (decimal code ++ codes ")")))
written (call Settle) = codes "(settle)"

-- six digits at the most
abbrev pub Small : List ℕ → Type 0
Small [] = Unit {0}
Small (n ∷ ns) = (n < 10 ^ 6) × Small ns

-- the bytes bs, which stand behind `start` others, are the line l
pub record Says (start : ℕ) (bs : List ℕ) (l : Line) : Type 0 where
  pub stands : Stands start l
  pub small : Small (numbers l)
  pub written : bs ≡ written l

-- bs is a line
abbrev pub IsLine : ℕ → List ℕ → Type 0
IsLine start bs = ∥ ((l : Line) × Says start bs l) ∥₁

-- a line can be completed from p
abbrev pub Begins : ℕ → List ℕ → Type 0
Begins start p = ∥ ((bs : List ℕ) × (l : Line) × Says start (p ++ bs) l) ∥₁
