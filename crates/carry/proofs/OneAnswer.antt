-- The answers that a line may have are written alike.
use Rattle.std.proofs.Common.{◌≡◌, ℕ, ◌+◌, ◌-◌, ◌<◌, suc, List, [], ◌∷◌, length, get_or, refl, sym, ap, ◌∙◌, arith}
use Rattle.std.specs.Prelude.{unwrap_or, slice_index_or, Result, Ok, Err}
use Rattle.codes.specs.declared.set.CodeSet.{CodeSet}
use Rattle.codes.specs.Members.{members}
use Rattle.entry.specs.declared.refusal.Refusal.{Refusal}
use Rattle.entry.specs.declared.refusal.Refusal.TheVariants.{TooManyDays, EmptyDay, NoSuchDay, BadWindow, BadCount, BookFull, NoSuchRule, RulePastDays, UnknownCode, OnlyCode, WeightGap, BlockedPlan, NoSuchLink, WrongLength, BadLine, AnswersFull}
use Rattle.entry.specs.Refusals.{Row, row_of}
use Rattle.ledger.specs.declared.call.Call.{Call}
use Rattle.ledger.specs.declared.call.Call.TheVariants as calls
use Rattle.ledger.specs.Ledgers as ledgers
use Rattle.limits.specs.declared.link.Link.{Link}
use Rattle.tokens.specs.Lines.{Line, duty, collection, boxes, call}
use Rattle.settlement.specs.declared.verdict.Agreement.{Agreement}
use Rattle.settlement.specs.declared.verdict.Verdict.{Verdict}
use Rattle.settlement.specs.declared.verdict.Verdict.TheVariants as verdict
use Rattle.settlement.specs.Settlements.{Meets, Settles, refusal}
use Rattle.answers.specs.Answers.{groups, agreed, written}
use Rattle.answers.specs.declared.answer.Answer.{Answer}
use Rattle.answers.specs.declared.answer.Answer.TheVariants as answer
use Rattle.carry.specs.Replies.{IsFirst, IsReply, IsVerdict, IsAnswer}
use Rattle.carry.proofs.OneVerdict.{same_members, same_lean, same_full}

-- ---- a refusal is found again from its row
abbrev refusal_at : Row → Refusal
refusal_at r =
    let named = unwrap_or r.1 0 in
    slice_index_or (
    TooManyDays ∷ EmptyDay named ∷ NoSuchDay ∷ BadWindow ∷ BadCount ∷ BookFull ∷ NoSuchRule ∷ RulePastDays named ∷
    UnknownCode ∷ OnlyCode ∷ WeightGap ∷ BlockedPlan ∷ NoSuchLink ∷ WrongLength ∷ BadLine ∷ []
    ) (r.0 - 1) AnswersFull

found_again : (e : Refusal) → refusal_at (row_of e) ≡ e
found_again TooManyDays = refl
found_again (EmptyDay day) = refl
found_again NoSuchDay = refl
found_again BadWindow = refl
found_again BadCount = refl
found_again BookFull = refl
found_again NoSuchRule = refl
found_again (RulePastDays rule) = refl
found_again UnknownCode = refl
found_again OnlyCode = refl
found_again WeightGap = refl
found_again BlockedPlan = refl
found_again NoSuchLink = refl
found_again WrongLength = refl
found_again BadLine = refl
found_again AnswersFull = refl

pub one_refusal : (e f : Refusal) → row_of e ≡ row_of f → e ≡ f
one_refusal e f same = sym (found_again e) ∙ ap refusal_at same ∙ found_again f

-- ---- sets with the same members on each day are written alike
groups_alike : (day : ℕ) (xs ys : List CodeSet) → length xs ≡ length ys
    → ((k : ℕ) (d : CodeSet) → k < length xs → members (get_or xs k d) ≡ members (get_or ys k d)) → groups day xs ≡ groups day ys
groups_alike day [] [] long same = refl
groups_alike day [] (y ∷ ys) long same = absurd (omega arith)
groups_alike day (x ∷ xs) [] long same = absurd (omega arith)
groups_alike day (x ∷ xs) (y ∷ ys) long same =
    let first : members x ≡ members y = same 0 x (omega arith) in
    let rest = groups_alike (day + 1) xs ys (omega arith) (λ k d within. same (suc k) d (omega arith)) in
    cc

module _ (l : ledgers.Ledger) where
  same_agreed : (p q : Agreement) → Meets l (verdict.Agreed p) → Meets l (verdict.Agreed q) → agreed p ≡ agreed q
  same_agreed p q x y =
      let days = y.daily refl in
      let long = x.daily refl in
      let keep =
      groups_alike 1 p.possible q.possible (long ∙ sym days) (λ k d within. same_members l p q x y k d (omega arith)) in
      rw (same_lean l p q x y, same_full l p q x y, keep)

  -- a plan is not both agreed and blocked
  not_both : {p : Agreement} {chain : List Link} → Meets l (verdict.Agreed p) → Meets l (verdict.Blocked chain) → ⊥
  not_both x y = let blocked = y.agreed.1 (x.agreed.0 refl) in cc

  same_verdict : (v w : Verdict) (a b : Answer) → Settles l v → Settles l w → refusal v ≡ refusal w
      → IsVerdict v a → IsVerdict w b → written a ≡ written b
  same_verdict (verdict.Agreed p) (verdict.Agreed q) a b s t same (c, is, of_p) (d, are, of_q) =
      ap written is ∙ ap agreed of_p ∙ same_agreed p q (s.meets refl) (t.meets refl) ∙ sym (ap written are ∙ ap agreed of_q)
  same_verdict (verdict.Agreed p) (verdict.Blocked links) a b s t same x y = absurd (not_both (s.meets refl) (t.meets refl))
  same_verdict (verdict.Agreed p) (verdict.Refused f) a b s t same x y = cc
  same_verdict (verdict.Blocked links) (verdict.Agreed q) a b s t same x y = absurd (not_both (t.meets refl) (s.meets refl))
  same_verdict (verdict.Blocked links) (verdict.Blocked others) a b s t same x y = ap written (x ∙ sym y)
  same_verdict (verdict.Blocked links) (verdict.Refused f) a b s t same x y = cc
  same_verdict (verdict.Refused e) (verdict.Agreed q) a b s t same x y = cc
  same_verdict (verdict.Refused e) (verdict.Blocked links) a b s t same x y = cc
  same_verdict (verdict.Refused e) (verdict.Refused f) a b s t same x y =
      let row : row_of e ≡ row_of f = cc in
      ap written (x ∙ ap answer.Refused (one_refusal e f row) ∙ sym y)

same_reply : (told : Result ledgers.Answer Row) (a b : Answer) → IsReply told a → IsReply told b → a ≡ b
same_reply (Ok (ledgers.numbered n)) a b x y = x ∙ sym y
same_reply (Ok (ledgers.ranging r)) a b x y = x ∙ sym y
same_reply (Ok ledgers.done) a b x y = x ∙ sym y
same_reply (Ok ledgers.settled) a b x y = absurd x
same_reply (Err row) a b (e, x, of_e) (f, y, of_f) = x ∙ ap answer.Refused (one_refusal e f (of_e ∙ sym of_f)) ∙ sym y

pub same_answer : (l : ledgers.Ledger) (c : Call) (a b : Answer) → IsAnswer l c a → IsAnswer l c b → written a ≡ written b
same_answer l calls.Settle a b (v, s, x) (w, t, y) = same_verdict l v w a b s t (s.answer ∙ sym t.answer) x y
same_answer l c a b x y = ap written (same_reply (ledgers.reply l c) a b x y)

pub same_first : (l : Line) (a b : Answer) → IsFirst l a → IsFirst l b → written a ≡ written b
same_first (duty days held) a b x y = ap written (x ∙ sym y)
same_first (collection days held counted) a b x y = ap written (x ∙ sym y)
same_first (boxes days low high) a b x y = ap written (x ∙ sym y)
same_first (call c) a b x y = absurd x
