-- Fewer than 2 ^ 32 bytes are written of a text, however long the list is: the text has no more lines than bytes that are read,
-- and the line of each answer is short.
use Rattle.std.proofs.Common.{ℕ, ◌+◌, ◌-◌, ◌*◌, ◌<◌, ◌≤◌, ◌^◌, List, [], ◌∷◌, length, ap, inl, inr, arith, length-append}
use Rattle.std.specs.Prelude.{Ok, Err, Result, IfOk, nat_le}
use Rattle.std.proofs.Math.Logic.{∥∥₁_elim}
use Rattle.std.proofs.Props.{props}
use Rattle.std.proofs.lemmas.Bool.{cases_Bool}
use Rattle.entry.specs.Refusals.{Row}
use Rattle.ledger.specs.declared.call.Call.{Call}
use Rattle.ledger.specs.Ledgers.{Ledger, after}
use Rattle.reader.specs.Places.{longest}
use Rattle.tokens.specs.Lines.{call}
use Rattle.sheet.specs.Faults.{IsFault}
use Rattle.sheet.specs.declared.fault.LineFault.{LineFault}
use Rattle.answers.specs.Answers.{written}
use Rattle.answers.specs.declared.answer.Answer.{Answer}
use Rattle.answers.specs.declared.answer.Answer.TheVariants as answer
use Rattle.carry.specs.declared.fault.CarryFault.TheVariants.{Line as AtFault, Refused, Full}
use Rattle.carry.specs.Ends.{End, fitting, last_line}
use Rattle.carry.specs.Openings.{opens}
use Rattle.carry.specs.Carrying.{Writes, Stops, Works, Opened, Answered, Carries}
use Rattle.carry.proofs.AnswerLengths.{Short, refused_short, fault_short, first_short, answer_short}
use Rattle.carry.proofs.SmallPlans.{Kept, opens_kept, call_kept}
use Rattle.carry.proofs.WorkFacts.{Working, moves_on}

-- ---- the line of the end
fitting_short : (room : ℕ) (line : List ℕ) → Short line → Short (fitting room line)
fitting_short room line short =
    elim (cases_Bool (nat_le (length line) room)) [
      | inl fits ↦ rw fits short
      | inr over ↦ rw over (omega arith)
    ]

abbrev ShortEnd : End → Type 0
ShortEnd e = (room : ℕ) → Short (last_line room e)

-- ---- all lines
module _ (text : List ℕ) where
  fault_end : (at : ℕ) (f : LineFault) → IsFault text at f → ShortEnd (Err (AtFault f))
  fault_end at f fault room =
      ∥∥₁_elim fault.told (hlevel props) (λ (n, here, is).
      fitting_short room (written (answer.Fault f.read)) (rw is (fault_short text n here.within.1)))

  stops_end : (at : ℕ) (e : End) → Stops text at e → ShortEnd e
  stops_end at (Ok done) stops room = omega arith
  stops_end at (Err (AtFault f)) stops room = fault_end at f stops.1 room
  stops_end at (Err (Refused e)) stops room = absurd stops
  stops_end at (Err Full) stops room = absurd stops

  -- a short line for each of the bytes that are read from `at` on, and for their end
  abbrev Few : ℕ → List ℕ → End → Type 0
  Few at bs e = (length bs ≤ (longest + 1 - at) * 2 ^ 16) × ShortEnd e

  writes_few : (at next room : ℕ) (a : Answer) (Rest : ℕ → List ℕ → Type 0) (bs : List ℕ) (e : End)
      → Short (written a) → (at < next) × (next ≤ length text) × (next ≤ longest + 1) → ((left : ℕ) (rest : List ℕ) → Rest left rest → Few next rest e)
      → Writes room a Rest bs e → Few at bs e
  writes_few at next room a Rest bs e short on behind (inl (fits, rest, is, more)) =
      let (few, end) = behind (room - length (written a)) rest more in
      (omega (arith, ap length is, length-append (written a) rest), end)
  writes_few at next room a Rest bs e short on behind (inr (over, none, full)) =
      (omega (arith, ap length none), λ left. rw full (omega arith))

  works_few : (calls : List Call) (at : ℕ) (l : Ledger) (room : ℕ) (bs : List ℕ) (e : End)
      → Kept l → Works text at l calls room bs e → Few at bs e
  works_few [] at l room bs e kept (none, stops) = (omega (arith, ap length none), stops_end at e stops)
  works_few (c ∷ calls) at l room bs e kept (next, line, a, is, writes) =
      writes_few at next room a _ bs e (answer_short l kept c a is) (moves_on text at (call c) next line)
      (λ left rest more. works_few calls next (after l c) left rest e (call_kept l kept c).1 more) writes

  opened_few : (next : ℕ) (plan : Result Ledger Row) (a : Answer) (room : ℕ) (bs : List ℕ) (e : End) → IfOk plan Kept
      → Short (written a) → (0 < next) × (next ≤ length text) × (next ≤ longest + 1) → Opened text next plan a room bs e → Few 0 bs e
  opened_few next (Ok l) a room bs e kept short on writes =
      writes_few 0 next room a (λ left rest. Working text next l left rest e) bs e short on
      (λ left rest (calls, more). works_few calls next l left rest e kept more) writes
  opened_few next (Err r) a room bs (Ok done) kept short on opened = absurd opened
  opened_few next (Err r) a room bs (Err (AtFault f)) kept short on opened = absurd opened
  opened_few next (Err r) a room bs (Err (Refused e)) kept short on (none, is) =
      (omega (arith, ap length none), λ left. fitting_short left (written (answer.Refused e)) (refused_short e))
  opened_few next (Err r) a room bs (Err Full) kept short on opened = absurd opened

  answers_few : (room : ℕ) (bs : List ℕ) (e : End) → Answered text room bs e → Few 0 bs e
  answers_few room bs e (inl (l, next, line, a, is, opened)) =
      opened_few next (opens l) a room bs e (opens_kept l) (first_short text l next a line is) (moves_on text 0 l next line) opened
  answers_few room bs e (inr (f, fault, none, is)) = (omega (arith, ap length none), rw is (fault_end 0 f fault))

pub few_bytes : (text : List ℕ) (room : ℕ) (bytes : List ℕ) (e : End) → Carries text room bytes e → length bytes < 2 ^ 32
few_bytes text room bytes e carries =
    ∥∥₁_elim carries (hlevel props) (λ (bs, answers, is).
    let (few, short) = answers_few text room bs e answers in
    omega (arith, ap length is, length-append bs (last_line (room - length bs) e), short (room - length bs)))
