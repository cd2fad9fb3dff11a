-- What is expected of a worked plan, said of its ledger by the definitions.
use Rattle.std.specs.Prelude.{◌≡◌, ℕ, ◌+◌, List, [], map, replicate, length, IsTrue, ◌↔◌}
use Rattle.std.specs.List.{All}
use Rattle.codes.specs.Members.{lists}
use Rattle.entry.specs.Cells.{cells}
use Rattle.entry.specs.Refusals.{told}
use Rattle.kinds.specs.Codes.{any_code}
use Rattle.kinds.specs.Duties.{duty_code, duty_weight}
use Rattle.kinds.specs.Spans.{spanned}
use Rattle.ledger.specs.Ledgers.{Ledger, Answer, ranging, done, reply, after_all}
use Rattle.ledger.specs.Rosters.{Roster, Lawful}
use Rattle.chains.specs.Chains as chains
use Rattle.settlement.specs.Choices.{Daily}
use Rattle.settlement.specs.Settlements.{CanHave, CanBeMet, Leanest, Fullest, SoundChain}
use Rattle.cases.specs.declared.worked.Days.{Days}
use Rattle.cases.specs.declared.worked.Days.TheVariants.{Duty, Boxes}
use Rattle.cases.specs.declared.worked.Reply.{Reply}
use Rattle.cases.specs.declared.worked.Reply.TheVariants.{Slide, Done}
use Rattle.cases.specs.declared.worked.Outcome.{Outcome}
use Rattle.cases.specs.declared.worked.Outcome.TheVariants.{Agreed, Blocked, Answers}
use Rattle.cases.specs.declared.worked.WorkedPlan.{WorkedPlan}

-- the ledger before the first call: no rule, and the days' entries by what each kind means
abbrev pub start : Days → Ledger
start (Duty days) = record {
  kind = record { top = 1; known = duty_code };
  days = map (λ codes. cells duty_weight (lists codes.now)) days.now;
  rules = [];
}
start (Boxes days low high) = record {
  kind = record { top = 63; known = any_code };
  days = replicate days (spanned low high);
  rules = [];
}

abbrev pub plan : WorkedPlan → Ledger
plan w = after_all (start w.days) w.calls.now

-- for each day, its codes are those that some lawful roster has there
abbrev pub EachKept : Ledger → List (List ℕ) → Type 0
EachKept l = Daily (λ k m codes. (code : ℕ) → IsTrue (lists codes code) ↔ CanHave l (k + 1) code) l.days (length l.days)

abbrev pub shown : Reply → Answer
shown (Slide numbers) = ranging numbers
shown Done = done

abbrev pub Comes : Ledger → Outcome → Type 0
Comes l (Agreed keep lean full) =
    CanBeMet l × EachKept l (map (λ codes. codes.now) keep.now) × Leanest l lean.now × Fullest l full.now
Comes l (Blocked chain sum) =
    ((roster : Roster) → Lawful l roster → ⊥) × SoundChain l chain.now × (chains.sum chain.now ≡ sum)
Comes l (Answers asked) = All (λ p. reply l p.0 ≡ told shown p.1) asked.now

-- the plan, after its calls, is as expected
abbrev pub AsExpected : WorkedPlan → Type 0
AsExpected w = Comes (plan w) w.outcome

unfoldable pub AllAsExpected : List WorkedPlan → Type 0
AllAsExpected = All AsExpected
