-- What a list of calls makes of a ledger.
use Rattle.std.specs.Prelude.{◌≡◌, ◌+◌, ◌-◌, Bool, true, false, if◌then◌else◌, ◌⊎◌, List, [], ◌∷◌, length, slice_index_or, refl}
use Rattle.std.proofs.Common.{◌∙◌, inl, inr, arith}
use Rattle.std.proofs.lemmas.List.Elements.{All-nil, All-head, All-tail, All-map}
use Rattle.entry.specs.declared.traits.Entry.{Ghosts}
use Rattle.ledger.specs.Rules.{Book}
use Rattle.ledger.specs.declared.call.Call.{Call}
use Rattle.ledger.specs.Ledgers.{Ledger, ledger, after, after_all}
use Rattle.course.specs.Runs.{Edits, Whole, Good, Starts, Run, taken}
use Rattle.course.proofs.RuleFacts.{counting_on, none_given}
use Rattle.course.proofs.Steps.{step_of}

-- a call that is left out does nothing
left_out : (l : Ledger) (call : Call) (calls : List Call) (b : Bool) → (b ≡ true) ⊎ (after l call ≡ l)
    → after_all l (if b then call ∷ calls else calls) ≡ after_all (after l call) calls
left_out l call calls true which = refl
left_out l call calls false (inl t) = cc
left_out l call calls false (inr e) = cc

-- one call after another
pub run_of : (l : Ledger) (calls : List Call) → Run l calls (after_all l calls)
run_of l [] = record {
  after = refl;
  idle = refl;
  kind = refl;
  days = refl;
  weights = λ day code. refl;
  others = λ day from none. refl;
  grows = omega arith;
  numbers = none_given l.rules _ refl;
  withdrawn = λ number le off. off;
  good = λ g. g;
}
run_of l (call ∷ calls) =
    let m = after l call in
    let end = after_all m calls in
    let s = step_of l call in
    let r = run_of m calls in
    let a = length l.rules in
    let b = length m.rules in
    let c = length end.rules in
    let more : (b - a) + (c - b) ≡ c - a = omega arith in
    record {
      after = refl;
      idle = left_out l call (taken m calls) _ s.idle ∙ r.idle;
      kind = r.kind ∙ s.kind;
      days = r.days ∙ s.days;
      weights = λ day code. r.weights day code ∙ s.weights day code;
      others = λ day from none.
          let P : Call → Type 0 = λ c. Edits c day → ⊥ in
          r.others day from (All-tail P call calls none) ∙ s.others day from (All-head P call calls none);
      grows = omega arith;
      numbers = cc (counting_on (a + 1) (b - a) (b + 1) (c - b) (omega arith));
      withdrawn = λ number le off. r.withdrawn number (omega arith) (s.withdrawn number le off);
      good = λ g. r.good (s.good g);
    }

pub run_to : (l : Ledger) (calls : List Call) (m : Ledger) → m ≡ after_all l calls → Run l calls m
run_to l calls m e = rw e (run_of l calls)

-- a start with entries of a kind is good
pub starts_good : {X : Type 0} (kind : Ghosts X) → ((x : X) → Whole (kind.meaning x))
    → (entries : List X) (book : Book) → Starts (ledger kind entries book) → Good (ledger kind entries book)
starts_good kind whole entries book start = record {
  few = start.0;
  held = start.1;
  gapless = All-map Whole kind.meaning entries (λ k d lt. whole (slice_index_or entries k d));
  within = rw start.2 (All-nil _);
}
