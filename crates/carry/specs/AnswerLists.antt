-- What the steps of the work make of the list of answers. Only this crate's own code cites it.
use Rattle.std.specs.Prelude.{◌≡◌, ℕ, ◌+◌, ◌-◌, ◌<◌, ◌≤◌, List, [], ◌++◌, take, drop, length, Result, Ok, Err}
use Rattle.entry.specs.declared.refusal.Refusal.{Refusal}
use Rattle.entry.specs.declared.traits.Entry.{Ghosts}
use Rattle.entry.specs.Refusals.{Row, told}
use Rattle.ledger.specs.declared.call.Call.{Call}
use Rattle.ledger.specs.Ledgers.{Ledger, kind_of}
use Rattle.answers.specs.Answers.{written}
use Rattle.answers.specs.declared.answer.Answer.{Answer}
use Rattle.carry.specs.declared.fault.CarryFault.{CarryFault}
use Rattle.carry.specs.declared.fault.CarryFault.TheVariants.{Line as AtFault, Refused, Full}
use Rattle.carry.specs.declared.list.AnswerList.{AnswerList}
use Rattle.carry.specs.Ends.{End}
use Rattle.carry.specs.Openings.{plan_of}
use Rattle.carry.specs.Replies.{IsAnswer}
use Rattle.carry.specs.Carrying.{Works, Opened, Answered}

-- t is s with the bytes bs written behind those of s, and all else as it was
pub record Extends (s : AnswerList) (bs : List ℕ) (t : AnswerList) : Type 0 where
  pub same_list : t.list.ghost_name ≡ s.list.ghost_name
  pub fits : s.count + length bs ≤ length s.list.now
  pub count : t.count ≡ s.count + length bs
  pub bytes : t.list.now ≡ take s.count s.list.now ++ (bs ++ drop (s.count + length bs) s.list.now)

-- how many bytes are left
abbrev pub room : AnswerList → ℕ
room s = length s.list.now - s.count

-- one more answer, where it fits
abbrev pub Adds : AnswerList → Answer → End → AnswerList → Type 0
Adds s a (Ok done) t = Extends s (written a) t
Adds s a (Err Full) t = (room s < length (written a)) × Extends s [] t
Adds s a (Err (AtFault f)) t = ⊥
Adds s a (Err (Refused e)) t = ⊥

-- the answer to a call
abbrev pub AnswersCall : Ledger → Call → AnswerList → End → AnswerList → Type 0
AnswersCall l c s e t = (a : Answer) × IsAnswer l c a × Adds s a e t

-- t is s, longer by some bytes as P says
abbrev pub Writing : (List ℕ → Type 0) → AnswerList → AnswerList → Type 0
Writing P s t = (t.list.ghost_name ≡ s.list.ghost_name) × ∥ ((bs : List ℕ) × Extends s bs t × P bs) ∥₁

abbrev pub WorksCalls : List ℕ → ℕ → Ledger → AnswerList → End → AnswerList → Type 0
WorksCalls text at l s e t = Writing (λ bs. (calls : List Call) × Works text at l calls (room s) bs e) s t

abbrev pub WorksPlan : List ℕ → ℕ → Result Ledger Row → Answer → AnswerList → End → AnswerList → Type 0
WorksPlan text next plan a s e t = Writing (λ bs. Opened text next plan a (room s) bs e) s t

abbrev pub WorksText : List ℕ → AnswerList → End → AnswerList → Type 0
WorksText text s e t = Writing (λ bs. Answered text (room s) bs e) s t

-- The answer to a first line, of so many days with this entry. It is refused, or does not fit, or the entry is had, with which
-- the calls are still to be worked.
abbrev pub BeginsPlan : {X : Type 0} → Ghosts X → ℕ → Result X Refusal → Answer → AnswerList → Result X CarryFault → AnswerList → Type 0
BeginsPlan kind days entry a s (Ok x) t = (days ≤ 128) × (entry ≡ Ok x) × Extends s (written a) t
BeginsPlan kind days entry a s (Err f) t =
    (text : List ℕ) (next : ℕ) → WorksPlan text next (plan_of (kind_of kind) days (told kind.meaning entry)) a s (Err f) t
