-- The first line: it is refused, or does not fit, or opens a plan on which the calls are worked.
use Rattle.std.proofs.Common.{◌≡◌, ℕ, zero, suc, ◌<◌, ◌≤◌, List, [], ◌∷◌, ◌++◌, map, take, replicate, refl, sym, ap, subst, ◌∙◌, inl, inr, arith}
use Rattle.std.specs.Prelude.{Ok, Err, Result}
use Rattle.std.proofs.Math.Logic.{∥∥₁_elim, ∥∥₁_map}
use Rattle.std.proofs.lemmas.List.{take-replicate}
use Rattle.std.proofs.lemmas.Bool.Decides.{nat_tests}
use Rattle.entry.specs.declared.refusal.Refusal.{Refusal}
use Rattle.entry.specs.declared.refusal.Refusal.TheVariants.{TooManyDays}
use Rattle.entry.specs.declared.traits.Entry.{Ghosts}
use Rattle.entry.specs.Refusals.{Row, row_of, told}
use Rattle.ledger.specs.Ledgers.{Ledger, kind_of, ledger}
use Rattle.kinds.specs.Codes.{any_code}
use Rattle.kinds.specs.Collections.{collected, collection_of}
use Rattle.kinds.specs.Duties.{duties, duty_code, duty_of}
use Rattle.kinds.specs.Spans.{boxed, boxes_of}
use Rattle.kinds.specs.declared.boxes.Boxes.{Boxes}
use Rattle.kinds.specs.declared.collection.Collection.{Collection}
use Rattle.kinds.specs.declared.duty.Duty.{Duty}
use Rattle.tokens.specs.Lines.{Line}
use Rattle.tokens.specs.Lines as line
use Rattle.sheet.specs.Faults.{IsFault}
use Rattle.sheet.specs.Sheets.{Opens, text_of, place_of}
use Rattle.sheet.specs.Starts.{Shows}
use Rattle.sheet.specs.declared.fault.LineFault.{LineFault}
use Rattle.sheet.specs.declared.sheet.Sheet.{Sheet}
use Rattle.sheet.specs.CodeLists.{Lists}
use Rattle.sheet.specs.declared.code_list.CodeList.{CodeList}
use Rattle.sheet.specs.declared.start.Start.{Start}
use Rattle.sheet.specs.declared.start.Start.TheVariants as start
use Rattle.answers.specs.Answers.{written}
use Rattle.answers.specs.declared.answer.Answer.{Answer}
use Rattle.answers.specs.declared.answer.Answer.TheVariants as answer
use Rattle.carry.specs.declared.fault.CarryFault.{CarryFault}
use Rattle.carry.specs.declared.fault.CarryFault.TheVariants.{Line as AtFault, Refused}
use Rattle.carry.specs.declared.list.AnswerList.{AnswerList}
use Rattle.carry.specs.Carrying.{Works, Opened}
use Rattle.carry.specs.Ends.{End}
use Rattle.carry.specs.AnswerLists.{Extends, BeginsPlan, WorksCalls, WorksPlan, WorksText, room}
use Rattle.carry.specs.Openings.{plan_of, opens}
use Rattle.carry.specs.Replies.{IsFirst}
use Rattle.carry.proofs.ListFacts.{extends_nothing, extends_then, room_left, writes}

module _ (text : List ℕ) (next : ℕ) (a : Answer) (s : AnswerList) where
  -- a row refuses the line
  pub is_refused : (plan : Result Ledger Row) (e : Refusal) → plan ≡ Err (row_of e)
      → WorksPlan text next plan a s (Err (Refused e)) s
  is_refused plan e is =
      subst (λ p. WorksPlan text next p a s (Err (Refused e)) s) (sym is) (refl, ∣ ([], extends_nothing s, (refl, refl)) ∣₁)

  module _ (plan : Result Ledger Row) (l : Ledger) (is : plan ≡ Ok l) (t : AnswerList) where
    -- the calls are worked behind its answer
    is_opened : (u : AnswerList) (e : End) → Extends s (written a) t → WorksCalls text next l t e u → WorksPlan text next plan a s e u
    is_opened u e first works =
        subst (λ p. WorksPlan text next p a s e u) (sym is)
        (writes _ s u (∥∥₁_map works.1 (λ (bs, rest, (calls, work)).
        let on = subst (λ left. Works text next l calls left bs e) (room_left s t (written a) first) work in
        (written a ++ bs, extends_then s t (written a) first u bs rest, inl (omega (arith, first.fits), bs, refl, (calls, on))))))

map-replicate : {X Y : Type 0} (f : X → Y) (n : ℕ) (x : X) → map f (replicate n x) ≡ replicate n (f x)
map-replicate f zero x = refl
map-replicate f (suc n) x = ap (λ ys. f x ∷ ys) (map-replicate f n x)

module _ {X : Type 0} (kind : Ghosts X) (days : ℕ) where
  abbrev pub plan : Result X Refusal → Result Ledger Row
  plan entry = plan_of (kind_of kind) days (told kind.meaning entry)

  -- of so many equal entries, those of the days
  same_days : (n : ℕ) (x : X) → days ≤ n → map kind.meaning (take days (replicate n x)) ≡ replicate days (kind.meaning x)
  same_days n x few = ap (map kind.meaning) (take-replicate days n x few) ∙ map-replicate kind.meaning days x

  pub too_many : (entry : Result X Refusal) → 128 < days → plan entry ≡ Err (row_of TooManyDays)
  too_many entry many = grind (arith, nat_tests)

  pub no_entry : (entry : Result X Refusal) (e : Refusal) → entry ≡ Err e → days ≤ 128 → plan entry ≡ Err (row_of e)
  no_entry entry e is few = rw is (grind (arith, nat_tests))

  plan_is : (entry : Result X Refusal) (x : X) (n : ℕ) → entry ≡ Ok x → days ≤ 128 → days ≤ n
      → plan entry ≡ Ok (ledger kind (take days (replicate n x)) [])
  plan_is entry x n is few within = rw is (rw (same_days n x within) (grind (arith, nat_tests)))

-- a first line that says `start` is answered with a, and opens what `plan` says
abbrev pub FirstSays : Start → Answer → Result Ledger Row → Type 0
FirstSays start a plan = (l : Line) → Shows l start → IsFirst l a × (opens l ≡ plan)

module _ {X : Type 0} (kind : Ghosts X) (days : ℕ) (entry : Result X Refusal) (a : Answer) (start : Start) (says : FirstSays start a (plan kind days entry))
    (text : List ℕ) (sheet : Sheet) (s t : AnswerList) (opened : Opens text (Ok (start, sheet))) where
  text_works : (e : End) (u : AnswerList) → WorksPlan (text_of sheet) (place_of sheet) (plan kind days entry) a s e u → WorksText text s e u
  text_works e u works =
      let same = subst (λ bytes. WorksPlan bytes (place_of sheet) (plan kind days entry) a s e u) opened.0 works in
      writes _ s u (∥∥₁_elim opened.1 (hlevel) (λ (l, here, shows). ∥∥₁_map same.1 (λ (bs, more, work).
      let (first, is) = says l shows in
      (bs, more, inl (l, place_of sheet, here, a, first, subst (λ p. Opened text (place_of sheet) p a (room s) bs e) (sym is) work)))))

  -- the line is refused or does not fit
  pub text_ends : (f : CarryFault) → BeginsPlan kind days entry a s (Err f) t → WorksText text s (Err f) t
  text_ends f ends = text_works (Err f) t (ends (text_of sheet) (place_of sheet))

  -- or the entry is had, and the calls are worked
  pub text_goes_on : (n : ℕ) (x : X) (e : End) (u : AnswerList) → 128 ≤ n → BeginsPlan kind days entry a s (Ok x) t
      → WorksCalls (text_of sheet) (place_of sheet) (ledger kind (take days (replicate n x)) []) t e u → WorksText text s e u
  text_goes_on n x e u much (few, is, first) works =
      text_works e u (is_opened (text_of sheet) (place_of sheet) a s (plan kind days entry) _ (plan_is kind days entry x n is few (omega arith)) t u e first works)

-- the kinds
abbrev pub duty_kind : Ghosts Duty
duty_kind = record { TOP = 1; known = duty_code; meaning = duties }

abbrev pub collection_kind : Ghosts Collection
collection_kind = record { TOP = 1; known = any_code; meaning = collected }

abbrev pub boxes_kind : Ghosts Boxes
boxes_kind = record { TOP = 63; known = any_code; meaning = boxed }

-- what the first line of each kind opens
pub opens_duty : (days : ℕ) (codes : CodeList) (entry : Result Duty Refusal)
    → ((held : List ℕ) → Lists codes held → told duties entry ≡ duty_of held) → FirstSays (start.Duty days codes) (answer.Duty days) (plan duty_kind days entry)
opens_duty n codes entry is (line.duty days held) (same, keeps) = (
  ap answer.Duty same,
  ap (λ d. plan_of (kind_of duty_kind) d (duty_of held)) (sym same)
      ∙ ap (plan_of (kind_of duty_kind) n) (sym (is held keeps)),
)
opens_duty n codes entry is (line.collection days held counted) none = absurd none
opens_duty n codes entry is (line.boxes days low high) none = absurd none
opens_duty n codes entry is (line.call c) none = absurd none

pub opens_collection : (days : ℕ) (codes counts : CodeList) (entry : Result Collection Refusal)
    → ((held counted : List ℕ) → Lists codes held → Lists counts counted → told collected entry ≡ collection_of held counted)
    → FirstSays (start.Collection days codes counts) (answer.Collection days) (plan collection_kind days entry)
opens_collection n codes counts entry is (line.collection days held counted) (same, keeps, keeps_counted) = (
  ap answer.Collection same,
  ap (λ d. plan_of (kind_of collection_kind) d (collection_of held counted)) (sym same)
      ∙ ap (plan_of (kind_of collection_kind) n) (sym (is held counted keeps keeps_counted)),
)
opens_collection n codes counts entry is (line.duty days held) none = absurd none
opens_collection n codes counts entry is (line.boxes days low high) none = absurd none
opens_collection n codes counts entry is (line.call c) none = absurd none

pub opens_boxes : (days low high : ℕ) (entry : Result Boxes Refusal) → told boxed entry ≡ boxes_of low high
    → FirstSays (start.Boxes days low high) (answer.Boxes days) (plan boxes_kind days entry)
opens_boxes n low high entry is (line.boxes days l h) (same, same_low, same_high) = (
  ap answer.Boxes same,
  ap (λ d. plan_of (kind_of boxes_kind) d (boxes_of l h)) (sym same)
      ∙ ap (λ k. plan_of (kind_of boxes_kind) n (boxes_of k h)) (sym same_low)
      ∙ ap (λ k. plan_of (kind_of boxes_kind) n (boxes_of low k)) (sym same_high)
      ∙ ap (plan_of (kind_of boxes_kind) n) (sym is),
)
opens_boxes n low high entry is (line.duty days held) none = absurd none
opens_boxes n low high entry is (line.collection days held counted) none = absurd none
opens_boxes n low high entry is (line.call c) none = absurd none

-- a first line at fault
pub text_faulty : (text : List ℕ) (s : AnswerList) (f : LineFault) → IsFault text 0 f
    → WorksText text s (Err (AtFault f)) s
text_faulty text s f fault = (refl, ∣ ([], extends_nothing s, inr (f, fault, refl, refl)) ∣₁)
