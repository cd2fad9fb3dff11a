-- Forms of text as data, and the texts that each of them spells.
use Rattle.std.specs.Prelude.{◌≡◌, ℕ, ◌≤◌, List, [], ◌∷◌, ◌++◌, length, ◌⊎◌}

-- `more k f`: up to k more digits, and then f; `list f`: numbers, each behind a blank, and then f
pub data Form : Type 0 where
  done : Form
  lit : ℕ → Form → Form
  num : Form → Form
  more : ℕ → Form → Form
  list : Form → Form
  alt : Form → Form → Form

-- these bytes, and then f
abbrev pub text : List ℕ → Form → Form
text [] f = f
text (c ∷ cs) f = lit c (text cs f)

abbrev pub Digit : ℕ → Type 0
Digit b = (48 ≤ b) × (b ≤ 57)

abbrev pub Digits : List ℕ → Type 0
Digits [] = Unit {0}
Digits (d ∷ ds) = Digit d × Digits ds

-- one to six digits, with no needless zero in front
abbrev pub Numeral : List ℕ → Type 0
Numeral [] = ⊥
Numeral (d ∷ ds) = ((d ≡ 48) × (ds ≡ [])) ⊎ ((49 ≤ d) × (d ≤ 57) × Digits ds × (length ds ≤ 5))

abbrev pub Numerals : List (List ℕ) → Type 0
Numerals [] = Unit {0}
Numerals (n ∷ ns) = Numeral n × Numerals ns

-- each numeral behind a blank
abbrev pub behind_blanks : List (List ℕ) → List ℕ
behind_blanks [] = []
behind_blanks (n ∷ ns) = 32 ∷ (n ++ behind_blanks ns)

-- the text is one of those that the form stands for
abbrev pub Spells : Form → List ℕ → Type 0
Spells done bs = bs ≡ []
Spells (lit c f) bs = (r : List ℕ) × (bs ≡ c ∷ r) × Spells f r
Spells (num f) bs = (ds : List ℕ) × (r : List ℕ) × Numeral ds × (bs ≡ ds ++ r) × Spells f r
Spells (more k f) bs = (ds : List ℕ) × (r : List ℕ) × (Digits ds × (length ds ≤ k)) × (bs ≡ ds ++ r) × Spells f r
Spells (list f) bs = (ns : List (List ℕ)) × (r : List ℕ) × Numerals ns × (bs ≡ behind_blanks ns ++ r) × Spells f r
Spells (alt f g) bs = Spells f bs ⊎ Spells g bs

-- behind the byte b, what f spells goes on as what g spells
pub record Goes (b : ℕ) (f g : Form) : Type 0 where
  pub to : (bs : List ℕ) → Spells f (b ∷ bs) → Spells g bs
  pub from : (bs : List ℕ) → Spells g bs → Spells f (b ∷ bs)

-- nothing that f spells begins with the byte b
abbrev pub Stuck : ℕ → Form → Type 0
Stuck b f = (bs : List ℕ) → Spells f (b ∷ bs) → ⊥
