-- The line of each answer to a small plan has 2 ^ 16 bytes at the most. The bound is coarse: each number is taken to have six
-- digits.
use Rattle.std.proofs.Common.{◌≡◌, ℕ, ◌+◌, ◌*◌, ◌<◌, ◌≤◌, ◌^◌, true, List, [], ◌∷◌, length, get_or, take, fold, refl, ap, inl, inr, arith, length-append}
use Rattle.std.specs.Prelude.{codes, decimal, ◌==◌, Some, None, Ok, Err, Result, IfOk}
use Rattle.std.specs.List.{range_with_len, All}
use Rattle.std.proofs.lemmas.Fmt.{length-decimal-le_wide}
use Rattle.std.proofs.lemmas.Bool.{cases_lt, cases_Bool}
use Rattle.std.proofs.lemmas.Int.{clamps}
use Rattle.std.proofs.lemmas.List.{get_or_past, length-take}
use Rattle.std.proofs.lemmas.List.FromFn.{length-range_with_len}
use Rattle.std.proofs.lemmas.List.Elements.{All-head, All-tail, All-weaker, filter_passes}
use Rattle.std.proofs.lemmas.List.Sums.{length-filter, count_by-le-length}
use Rattle.std.proofs.lemmas.Option.{slice_get-get_or}
use Rattle.codes.specs.declared.set.CodeSet.{CodeSet}
use Rattle.codes.specs.Members.{member, members}
use Rattle.codes.proofs.Sets.{member_below}
use Rattle.entry.specs.declared.refusal.Refusal.{Refusal}
use Rattle.entry.specs.declared.refusal.Refusal.TheVariants.{TooManyDays, EmptyDay, NoSuchDay, BadWindow, BadCount, BookFull, NoSuchRule, RulePastDays, UnknownCode, OnlyCode, WeightGap, BlockedPlan, NoSuchLink, WrongLength, BadLine, AnswersFull}
use Rattle.entry.specs.Cells.{Meaning, vacant, held}
use Rattle.entry.specs.Refusals.{Row, row_of}
use Rattle.ledger.specs.declared.call.Call.{Call}
use Rattle.ledger.specs.declared.call.Call.TheVariants.{Settle}
use Rattle.ledger.specs.Ledgers as ledgers
use Rattle.ledger.specs.Rosters.{Roster, Lawful}
use Rattle.reader.specs.declared.place.FaultKind.{FaultKind}
use Rattle.reader.specs.declared.place.FaultKind.TheVariants.{Bytes, Form}
use Rattle.reader.specs.declared.place.Place.{Place}
use Rattle.reader.specs.Places.{moved, position_of, kind_at, fault_at, longest}
use Rattle.tokens.specs.Lines.{Line, duty, collection, boxes, call, listed}
use Rattle.tokens.specs.Sheets.{LineAt}
use Rattle.settlement.specs.declared.verdict.Agreement.{Agreement}
use Rattle.settlement.specs.declared.verdict.Verdict.{Verdict}
use Rattle.settlement.specs.declared.verdict.Verdict.TheVariants as verdict
use Rattle.settlement.specs.Settlements.{Meets, Settles}
use Rattle.settlement.proofs.Following.{follows_itself}
use Rattle.answers.specs.Answers.{one, two, group, groups, agreed, fault_words, written}
use Rattle.answers.specs.declared.answer.Answer.{Answer}
use Rattle.answers.specs.declared.answer.Answer.TheVariants.{Refused, Fault}
use Rattle.carry.specs.Replies.{IsFirst, IsReply, IsVerdict, IsAnswer}
use Rattle.carry.proofs.SmallPlans.{AllCells, SixDigits, Kept, Little, call_kept}

-- a short line
abbrev pub Short : List ℕ → Type 0
Short line = length line ≤ 2 ^ 16

digits : (n : ℕ) → SixDigits n → length (decimal n) ≤ 6
digits n small = length-decimal-le_wide 6 n (omega arith) small (omega arith)

one_short : (words : List ℕ) (n : ℕ) → length words ≤ 100 → SixDigits n → Short (one words n)
one_short words n few small = let number = digits n small in simp length-append (omega arith)

two_short : (words : List ℕ) (m n : ℕ) → length words ≤ 100 → SixDigits m → SixDigits n → Short (two words m n)
two_short words m n few little small =
    let first = digits m little in
    let second = digits n small in
    simp length-append (omega arith)

-- ---- the codes of a day, and of a roster
listed_length : (ns : List ℕ) → All SixDigits ns → length (listed ns) ≤ 7 * length ns
listed_length [] small = omega arith
listed_length (n ∷ ns) small =
    let first = digits n (All-head SixDigits n ns small) in
    let rest = listed_length ns (All-tail SixDigits n ns small) in
    omega (arith, length-append (decimal n) (listed ns))

members_small : (s : CodeSet) → All SixDigits (members s)
unfolding members
members_small s =
    All-weaker (λ c. member s c ≡ true) SixDigits (λ c t. omega (arith, member_below s c t)) (members s)
    (filter_passes (member s) (range_with_len 0 64))

members_few : (s : CodeSet) → length (members s) ≤ 64
unfolding members
members_few s =
    let all = range_with_len 0 64 in
    omega (arith, length-filter (member s) all, count_by-le-length (member s) all, length-range_with_len 0 64)

group_length : (day : ℕ) (set : CodeSet) → SixDigits day → length (group day set) ≤ 457
group_length day set small =
    let number = digits day small in
    let list = listed_length (members set) (members_small set) in
    let few = members_few set in
    simp length-append (omega arith)

groups_length : (day : ℕ) (sets : List CodeSet) → day + length sets ≤ 10 ^ 6 → length (groups day sets) ≤ 457 * length sets
groups_length day [] few = omega arith
groups_length day (set ∷ sets) few =
    let first = group_length day set (omega arith) in
    let rest = groups_length (day + 1) sets (omega arith) in
    omega (arith, length-append (group day set) (groups (day + 1) sets))

held_below : (m : Meaning) (c : ℕ) → AllCells m → held m c ≡ true → c < 64
held_below m c all h =
    elim (cases_lt c (length m)) [
      | inl below ↦ omega arith
      | inr past ↦ absurd (let none = ap (λ cell. cell.held) (get_or_past m c vacant past) in cc)
    ]

-- ---- a refusal, and a fault
row_small : (e : Refusal) → SixDigits (row_of e).0
row_small TooManyDays = omega arith
row_small (EmptyDay day) = omega arith
row_small NoSuchDay = omega arith
row_small BadWindow = omega arith
row_small BadCount = omega arith
row_small BookFull = omega arith
row_small NoSuchRule = omega arith
row_small (RulePastDays rule) = omega arith
row_small UnknownCode = omega arith
row_small OnlyCode = omega arith
row_small WeightGap = omega arith
row_small BlockedPlan = omega arith
row_small NoSuchLink = omega arith
row_small WrongLength = omega arith
row_small BadLine = omega arith
row_small AnswersFull = omega arith

pub refused_short : (e : Refusal) → Short (written (Refused e))
refused_short e = one_short (codes "(refused ") (row_of e).0 (omega arith) (row_small e)

-- a byte moves the place on by one line or by one column
moved_one : (p : Place) (b : ℕ) → ((moved p b).line ≤ p.line + 1) × ((moved p b).column ≤ p.column + 1)
moved_one p b =
    elim (cases_Bool (b == 10)) [
      | inl ends ↦ rw ends (omega arith, omega arith)
      | inr on ↦ rw on (omega arith, omega arith)
    ]

moved_all : (p : Place) (bs : List ℕ)
    → ((fold moved p bs).line ≤ p.line + length bs) × ((fold moved p bs).column ≤ p.column + length bs)
moved_all p [] = (omega arith, omega arith)
moved_all p (b ∷ bs) =
    let (line, column) = moved_one p b in
    let (lines, columns) = moved_all (moved p b) bs in
    (omega arith, omega arith)

words_few : (kind : FaultKind) → length (fault_words kind) ≤ 100
words_few Bytes = omega arith
words_few Form = omega arith

pub fault_short : (text : List ℕ) (n : ℕ) → n ≤ longest → Short (written (Fault (fault_at text n)))
fault_short text n limit =
    let kind = kind_at text n in
    let place = position_of text n in
    let read = length-take n text in
    let (lines, columns) = moved_all (record { line = 1; column = 1 }) (take n text) in
    two_short (fault_words kind) place.line place.column (words_few kind) (omega (arith, clamps)) (omega (arith, clamps))

-- ---- the answer to a first line, whose numbers have six digits at the most
pub first_short : (text : List ℕ) (l : Line) (next : ℕ) (a : Answer) → LineAt text 0 l next → IsFirst l a → Short (written a)
first_short text (duty days held) next a line is = rw is (one_short (codes "(duty ") days (omega arith) line.says.small.0)
first_short text (collection days held counted) next a line is =
    rw is (one_short (codes "(collection ") days (omega arith) line.says.small.0)
first_short text (boxes days low high) next a line is = rw is (one_short (codes "(boxes ") days (omega arith) line.says.small.0)
first_short text (call c) next a line is = absurd is

-- ---- the answer to a call
reply_short : (told : Result ledgers.Answer Row) (a : Answer) → IfOk told Little → IsReply told a → Short (written a)
reply_short (Ok (ledgers.numbered n)) a little is = rw is (one_short (codes "(rule ") n (omega arith) little)
reply_short (Ok (ledgers.ranging None)) a little is = rw is (omega arith)
reply_short (Ok (ledgers.ranging (Some p))) a little is =
    rw is (two_short (codes "(slide ") p.0 p.1 (omega arith) little.0 little.1)
reply_short (Ok ledgers.done) a little is = rw is (omega arith)
reply_short (Ok ledgers.settled) a little is = absurd is
reply_short (Err row) a little (e, is, of_e) = rw is (refused_short e)

module _ (l : ledgers.Ledger) (kept : Kept l) where
  roster_small : (roster : Roster) → Lawful l roster → All SixDigits roster
  roster_small roster lawful k d within =
      let inner : k < length l.days = omega (arith, lawful.long) in
      let day = slice_get-get_or l.days k [] inner in
      let its = slice_get-get_or roster k d within in
      let h = ((follows_itself l roster lawful).item k _ _ day its).0 in
      omega (arith, held_below (get_or l.days k []) (get_or roster k d) (kept.each k [] inner) h)

  roster_length : (roster : Roster) → Lawful l roster → length (listed roster) ≤ 896
  roster_length roster lawful = omega (arith, listed_length roster (roster_small roster lawful), lawful.long, kept.few)

  agreed_short : (a : Agreement) → Meets l (verdict.Agreed a) → Short (agreed a)
  agreed_short a meets =
      let lean = roster_length a.lean (meets.lean refl).lawful in
      let full = roster_length a.full (meets.full refl).lawful in
      let days : length a.possible ≤ 128 = omega (arith, meets.daily refl, kept.few) in
      let keep = groups_length 1 a.possible (omega arith) in
      simp length-append (omega arith)

  verdict_short : (v : Verdict) (a : Answer) → Settles l v → IsVerdict v a → Short (written a)
  verdict_short (verdict.Agreed p) a settles (b, is, are) = rw is (rw are (agreed_short p (settles.meets refl)))
  verdict_short (verdict.Blocked links) a settles is = rw is (omega arith)
  verdict_short (verdict.Refused e) a settles is = rw is (refused_short e)

  pub answer_short : (c : Call) (a : Answer) → IsAnswer l c a → Short (written a)
  answer_short Settle a (v, settles, is) = verdict_short v a settles is
  answer_short c a is = reply_short (ledgers.reply l c) a (call_kept l kept c).0 is
