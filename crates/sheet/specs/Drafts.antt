-- What the tokens so far say of a line. Only this crate's own code cites it.
use Rattle.std.specs.Prelude.{◌≡◌, ℕ, ◌+◌, ◌*◌, ◌-◌, ◌^◌, ◌%◌, min, cond, List, [], ◌∷◌, ◌++◌, codes, take, length, fold, bytes_eq}
use Rattle.ledger.specs.declared.call.Call.TheVariants.{Rule, Slide, Withdraw, Strike, Grant, Settle}
use Rattle.tokens.specs.Lines.{Line, duty, collection, boxes, call}
use Rattle.sheet.specs.CodeLists.{Lists}
use Rattle.sheet.specs.declared.draft.Draft.{Draft}
use Rattle.sheet.specs.declared.draft.Name.{Name}
use Rattle.sheet.specs.declared.draft.Name.TheVariants as name
use Rattle.sheet.specs.declared.draft.Part.{Part}
use Rattle.sheet.specs.declared.draft.Part.TheVariants as part

-- the line's name, where the next number belongs, and the numbers so far
pub record Gathered : Type 0 where
  pub name : Name
  pub part : Part
  pub single : List ℕ
  pub codes : List ℕ
  pub counts : List ℕ

-- the first four numbers, with zeros for those that are not there
abbrev pub first_four : List ℕ → List ℕ
first_four ns = take 4 (ns ++ (0 ∷ 0 ∷ 0 ∷ 0 ∷ []))

-- d holds what is gathered; of the single numbers the first four
pub record Holds (d : Draft) (g : Gathered) : Type 0 where
  pub name : d.name ≡ g.name
  pub part : d.part ≡ g.part
  pub single : d.single ≡ first_four g.single
  pub count : d.count ≡ min 4 (length g.single)
  pub codes : Lists d.codes g.codes
  pub counts : Lists d.counts g.counts

-- before the first token
abbrev pub fresh : Gathered
fresh = record { name = name.Settle; part = part.Single; single = []; codes = []; counts = [] }

-- a line called n
abbrev pub named : Gathered → Name → Gathered
named g n = record g { name = n }

-- the numbers from here on belong to the part p
abbrev pub turned : Gathered → Part → Gathered
turned g p = record g { part = p }

-- a word names the line, or begins a list; the others change nothing
abbrev pub worded : Gathered → List ℕ → Gathered
worded g w =
    cond (bytes_eq w (codes "duty")) (named g name.Duty)
    (cond (bytes_eq w (codes "collection")) (named g name.Collection)
    (cond (bytes_eq w (codes "boxes")) (named g name.Boxes)
    (cond (bytes_eq w (codes "rule")) (named g name.Rule)
    (cond (bytes_eq w (codes "slide")) (named g name.Slide)
    (cond (bytes_eq w (codes "withdraw")) (named g name.Withdraw)
    (cond (bytes_eq w (codes "strike")) (named g name.Strike)
    (cond (bytes_eq w (codes "grant")) (named g name.Grant)
    (cond (bytes_eq w (codes "codes")) (turned g part.Codes)
    (cond (bytes_eq w (codes "counts")) (turned g part.Counts) g)))))))))

-- the number that the digits write, and what a draft keeps of it
abbrev pub number_of : List ℕ → ℕ
number_of = fold (λ n c. 10 * n + (c - 48)) 0

abbrev pub value_of : List ℕ → ℕ
value_of ds = number_of ds % 2 ^ 32

-- numbers go behind the others of their part
abbrev pub put : Part → Gathered → List ℕ → Gathered
put part.Single g ns = record g { single = g.single ++ ns }
put part.Codes g ns = record g { codes = g.codes ++ ns }
put part.Counts g ns = record g { counts = g.counts ++ ns }

abbrev pub numbered : Gathered → ℕ → Gathered
numbered g n = put g.part g (n ∷ [])

-- a line with no lists
abbrev pub plain : Name → List ℕ → Gathered
plain n ns = record { name = n; part = part.Single; single = ns; codes = []; counts = [] }

-- what the whole line amounts to
abbrev pub gathered : Line → Gathered
gathered (duty days held) = record { name = name.Duty; part = part.Codes; single = days ∷ []; codes = held; counts = [] }
gathered (collection days held counts) = record { name = name.Collection; part = part.Counts; single = days ∷ []; codes = held; counts = counts }
gathered (boxes days low high) = plain name.Boxes (days ∷ low ∷ high ∷ [])
gathered (call (Rule first last least most)) = plain name.Rule (first ∷ last ∷ least ∷ most ∷ [])
gathered (call (Slide width least most)) = plain name.Slide (width ∷ least ∷ most ∷ [])
gathered (call (Withdraw number)) = plain name.Withdraw (number ∷ [])
gathered (call (Strike day code)) = plain name.Strike (day ∷ code ∷ [])
gathered (call (Grant day code)) = plain name.Grant (day ∷ code ∷ [])
gathered (call Settle) = plain name.Settle []
