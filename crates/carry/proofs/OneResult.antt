-- What is written of a text, and how the work on it ends, is one.
use Rattle.std.proofs.Common.{◌≡◌, ℕ, ◌-◌, List, [], ◌∷◌, length, refl, sym, ap, ◌∙◌, arith}
use Rattle.std.specs.Prelude.{Result, Ok, Err}
use Rattle.std.proofs.Math.Logic.{inl, inr, ∥∥₁_elim}
use Rattle.std.proofs.Props.{props}
use Rattle.entry.specs.declared.refusal.Refusal.{Refusal}
use Rattle.entry.specs.Refusals.{Row, row_of}
use Rattle.ledger.specs.declared.call.Call.{Call}
use Rattle.ledger.specs.Ledgers.{Ledger, after}
use Rattle.tokens.specs.Lines.{Line, call}
use Rattle.sheet.proofs.OneLine.{no_line}
use Rattle.answers.specs.Answers.{written}
use Rattle.answers.specs.declared.answer.Answer.{Answer}
use Rattle.carry.specs.declared.fault.CarryFault.TheVariants.{Line as AtFault, Refused, Full}
use Rattle.carry.specs.Ends.{End}
use Rattle.carry.specs.Openings.{opens}
use Rattle.carry.specs.Replies.{IsFirst, IsAnswer}
use Rattle.carry.specs.Carrying.{Writes, Works, Opened, Answered, Carries}
use Rattle.carry.proofs.WorkFacts.{Working}
use Rattle.carry.proofs.OneAnswer.{one_refusal, same_answer, same_first}
use Rattle.carry.proofs.OnePlace.{call_of, any_line, one_told, stops_no_line, one_end}

-- where what is written behind an answer is one, so is what is written with it
one_writes : (room : ℕ) (a b : Answer) (P Q : ℕ → List ℕ → Type 0) (bs cs : List ℕ) (e f : End)
    → written a ≡ written b → ((left : ℕ) (xs ys : List ℕ) → P left xs → Q left ys → (xs ≡ ys) × (e ≡ f))
    → Writes room a P bs e → Writes room b Q cs f → (bs ≡ cs) × (e ≡ f)
one_writes room a b P Q bs cs e f same behind (inl (fits, xs, is, p)) (inl (too, ys, are, q)) =
    let (rest, end) = behind (room - length (written a)) xs ys p (rw same q) in
    (is ∙ (cc) ∙ sym are, end)
one_writes room a b P Q bs cs e f same behind (inl p) (inr q) = absurd (omega (arith, ap length same))
one_writes room a b P Q bs cs e f same behind (inr p) (inl q) = absurd (omega (arith, ap length same))
one_writes room a b P Q bs cs e f same behind (inr (over, none, full)) (inr (too, nothing, ends)) =
    (none ∙ sym nothing, full ∙ sym ends)

module _ (text : List ℕ) where
  -- the call of a line is worked, and the others from `next` on
  abbrev AtCall : Ledger → List Call → ℕ → List ℕ → End → Line → ℕ → Type 0
  AtCall l calls room bs e k next =
      (a : Answer) × IsAnswer l (call_of k) a
      × Writes room a (λ left rest. Works text next (after l (call_of k)) calls left rest e) bs e

  -- the first line is worked, and the calls from `next` on
  abbrev AtFirst : ℕ → List ℕ → End → Line → ℕ → Type 0
  AtFirst room bs e k next = (a : Answer) × IsFirst k a × Opened text next (opens k) a room bs e

  one_work : (calls ds : List Call) (at : ℕ) (l : Ledger) (room : ℕ) (bs cs : List ℕ) (e f : End)
      → Works text at l calls room bs e → Works text at l ds room cs f → (bs ≡ cs) × (e ≡ f)
  one_work [] [] at l room bs cs e f x y = (x.0 ∙ sym y.0, one_end text at e f x.1 y.1)
  one_work [] (d ∷ ds) at l room bs cs e f x y = absurd (stops_no_line text at e x.1 (call d) y.0 y.1)
  one_work (c ∷ calls) [] at l room bs cs e f x y = absurd (stops_no_line text at f y.1 (call c) x.0 x.1)
  one_work (c ∷ calls) (d ∷ ds) at l room bs cs e f (n, here, a, is, x) (m, there, b, are, y) =
      let (b, are, z) = any_line text at (AtCall l ds room cs f) (call d) (call c) m n there here (b, are, y) in
      one_writes room a b
      (λ left rest. Works text n (after l c) calls left rest e) (λ left rest. Works text n (after l c) ds left rest f)
      bs cs e f (same_answer l c a b is are) (λ left xs ys. one_work calls ds n (after l c) left xs ys e f) x z

  refused : (next : ℕ) (r : Row) (a : Answer) (room : ℕ) (bs : List ℕ) (e : End) → Opened text next (Err r) a room bs e
      → (bs ≡ []) × (x : Refusal) × (e ≡ Err (Refused x)) × (row_of x ≡ r)
  refused next r a room bs (Ok done) h = absurd h
  refused next r a room bs (Err (AtFault f)) h = absurd h
  refused next r a room bs (Err (Refused x)) h = (h.0, x, refl, h.1)
  refused next r a room bs (Err Full) h = absurd h

  one_opened : (next : ℕ) (plan : Result Ledger Row) (a b : Answer) (room : ℕ) (bs cs : List ℕ) (e f : End)
      → written a ≡ written b → Opened text next plan a room bs e → Opened text next plan b room cs f → (bs ≡ cs) × (e ≡ f)
  one_opened next (Ok l) a b room bs cs e f same x y =
      one_writes room a b (λ left rest. Working text next l left rest e) (λ left rest. Working text next l left rest f) bs cs e f same
      (λ left xs ys (calls, p) (ds, q). one_work calls ds next l left xs ys e f p q) x y
  one_opened next (Err r) a b room bs cs e f same x y =
      let (none, p, is, of_p) = refused next r a room bs e x in
      let (nothing, q, are, of_q) = refused next r b room cs f y in
      (none ∙ sym nothing, is ∙ ap (λ p. Err (Refused p)) (one_refusal p q (of_p ∙ sym of_q)) ∙ sym are)

  one_answers : (room : ℕ) (bs cs : List ℕ) (e f : End) → Answered text room bs e → Answered text room cs f → (bs ≡ cs) × (e ≡ f)
  one_answers room bs cs e f (inl (l, n, here, a, is, x)) (inl (k, m, there, b, are, y)) =
      let (b, are, z) = any_line text 0 (AtFirst room cs f) k l m n there here (b, are, y) in
      one_opened n (opens l) a b room bs cs e f (same_first l a b is are) x z
  one_answers room bs cs e f (inl x) (inr (g, there, none, is)) = absurd (no_line text 0 g there x.0 x.1 x.2)
  one_answers room bs cs e f (inr (g, here, none, is)) (inl y) = absurd (no_line text 0 g here y.0 y.1 y.2)
  one_answers room bs cs e f (inr (g, here, none, is)) (inr (h, there, nothing, are)) =
      (none ∙ sym nothing, is ∙ ap (λ g. Err (AtFault g)) (one_told text 0 g h here there) ∙ sym are)

pub one_result : (text : List ℕ) (room : ℕ) (bs cs : List ℕ) (e f : End)
    → Carries text room bs e → Carries text room cs f → (bs ≡ cs) × (e ≡ f)
one_result text room bs cs e f x y =
    ∥∥₁_elim x (hlevel props) (λ (xs, p, is).
    ∥∥₁_elim y (hlevel props) (λ (ys, q, are).
    let (same, end) = one_answers text room xs ys e f p q in
    (is ∙ (cc) ∙ sym are, end)))
