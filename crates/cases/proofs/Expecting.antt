-- The test of a worked plan: it computes, and where it passes, the plan is as expected.
use Rattle.std.proofs.Common.{◌≡◌, ℕ, ◌+◌, ◌-◌, ◌<◌, ◌≤◌, ◌==◌, Bool, true, false, not, ◌&&◌, List, [], ◌∷◌, length, map, slice_index_or, slice_get, Some, None, Ok, Err, Option, Result, inl, inr, refl, ap, sym, ◌∙◌, arith}
use Rattle.std.specs.Prelude.{int_lt, pos, nat_le}
use Rattle.std.proofs.Math.Logic.{∥∥₁_elim}
use Rattle.std.proofs.Props.{props}
use Rattle.std.specs.Option.{option_eq}
use Rattle.std.specs.Ordering.{int_eq}
use Rattle.std.specs.List.{list_all}
use Rattle.std.proofs.Props.{props}
use Rattle.std.proofs.lemmas.Bool.{both_ways, not-true, and_parts, and_from, or_cases, cases_lt, leb-true}
use Rattle.std.proofs.lemmas.Bool.Decides.{nat_tests, Decides-eqb, Decides-int_eq}
use Rattle.std.proofs.lemmas.Grind.{merely}
use Rattle.std.proofs.lemmas.Int.{ints}
use Rattle.std.proofs.lemmas.List.Sums.{AllPass-from_list_all}
use Rattle.std.proofs.lemmas.Option.{slice_get_within, slice_get-get_or, get_or_from_slice_get}
use Rattle.entry.specs.declared.refusal.Refusal.{Refusal}
use Rattle.entry.specs.Cells.{Meaning, held, weigh}
use Rattle.entry.specs.Refusals.{Row, row_of, told}
use Rattle.codes.specs.Members.{lists}
use Rattle.ledger.specs.Ledgers.{Ledger, Answer, numbered, ranging, done, settled, reply}
use Rattle.ledger.specs.Rosters.{Roster, total}
use Rattle.ledger.specs.Rules.{stands}
use Rattle.limits.specs.declared.link.Link.{Link}
use Rattle.limits.specs.declared.link.Limit.{Limit}
use Rattle.limits.specs.declared.link.Limit.TheVariants.{Most, Least, Heaviest, Lightest}
use Rattle.limits.specs.Links.{link}
use Rattle.chains.specs.Chains.{Leads, sum}
use Rattle.plan.specs.Tables.{Has, line_of, InTable}
use Rattle.settlement.specs.Settlements.{Foremost, SoundChain}
use Rattle.cases.specs.declared.worked.Reply.{Reply}
use Rattle.cases.specs.declared.worked.Reply.TheVariants.{Slide, Done}
use Rattle.cases.specs.declared.worked.Outcome.{Outcome}
use Rattle.cases.specs.declared.worked.Outcome.TheVariants.{Agreed, Blocked, Answers}
use Rattle.cases.specs.declared.worked.WorkedPlan.{WorkedPlan}
use Rattle.cases.specs.Worked.{EachKept, shown, Comes, plan, AsExpected, AllAsExpected}
use Rattle.cases.proofs.EveryRoster.{every, every_one, is_lawful, decides_lawful, some_lawful, some_one, every_lawful, each_lawful}

-- ---- possible codes
-- the code of the k-th day, counted from 0
abbrev code_at : Roster → ℕ → ℕ
code_at roster k = slice_index_or roster k 64

listed : (passes : ℕ → Bool) (codes : List ℕ) (code : ℕ) → lists codes code ≡ true → list_all passes codes ≡ true → passes code ≡ true
listed passes [] code t all = grind arith
listed passes (c ∷ codes) code t all =
    let (first, rest) = and_parts (passes c) _ all in
    elim (or_cases (code == c) (lists codes code) t) [
      | inl same ↦ rw (sym ((Decides-eqb code c).0 same)) at first
      | inr later ↦ listed passes codes code later rest
    ]

module _ (l : Ledger) where
  abbrev days : ℕ
  days = length l.days

  abbrev codes_of : List (List ℕ) → ℕ → List ℕ
  codes_of keep k = slice_index_or keep k []

  -- the roster has on the k-th day one of its codes
  abbrev inside : List (List ℕ) → Roster → ℕ → Bool
  inside keep roster k = lists (codes_of keep k) (code_at roster k)

  -- some lawful roster has the code on the k-th day
  abbrev reached : ℕ → ℕ → Bool
  reached k code = some_lawful l (λ roster. code_at roster k == code)

  -- so it is for each lawful roster and each day, and for each of the codes
  abbrev kept : List (List ℕ) → Bool
  kept keep =
      (length keep == days)
      && (every_lawful l (λ roster. every (inside keep roster) days)
      && every (λ k. list_all (reached k) (codes_of keep k)) days)

  each_kept : (keep : List (List ℕ)) → kept keep ≡ true → EachKept l keep
  each_kept keep t =
      let (long, t) = and_parts (length keep == days) _ t in
      let (all_inside, all_reached) = and_parts (every_lawful l (λ roster. every (inside keep roster) days)) _ t in
      record {
        long = (Decides-eqb (length keep) days).0 long;
        item = λ k m codes day its code.
            let within : k < days = slice_get_within l.days k m day in
            let is : codes_of keep k ≡ codes = get_or_from_slice_get keep k codes [] its in
            let before : k + 1 - 1 ≡ k = omega arith in (
              λ t.
                  let each = rw is at (every_one (λ k. list_all (reached k) (codes_of keep k)) days all_reached k within) in
                  let (roster, lawful, same) = some_one l (λ roster. code_at roster k == code) (listed (reached k) codes code t each) in
                  let its = slice_get-get_or roster k 64 (omega (arith, lawful.long)) in
                  merely (roster, lawful, ap (slice_get roster) before ∙ its ∙ ap Some ((Decides-eqb (code_at roster k) code).0 same)),
              λ can. ∥∥₁_elim can (hlevel props) (λ (roster, lawful, its).
                  let one = every_one (inside keep roster) days (each_lawful l _ all_inside roster lawful) k within in
                  let code_is : code_at roster k ≡ code = get_or_from_slice_get roster k code 64 (ap (slice_get roster) (sym before) ∙ its) in
                  rw is at (rw code_is at one)),
            );
      }

  -- ---- the two rosters
  -- the other code is not held, or has another weight
  abbrev unlike : Meaning → ℕ → ℕ → Bool
  unlike m code other = not (held m other && weigh m other == weigh m code)

  -- no smaller held code than that of the k-th day has its weight
  abbrev no_smaller : Roster → ℕ → Bool
  no_smaller roster k = every (unlike (slice_index_or l.days k []) (code_at roster k)) (code_at roster k)

  -- its total at the mark is ahead of that of the other
  abbrev leading : (ℕ → ℕ → Bool) → Roster → Roster → ℕ → Bool
  leading ahead roster other mark = ahead (total l.days roster mark) (total l.days other mark)

  -- it is lawful, its totals are ahead of those of every lawful roster, and on each day no smaller code would do
  abbrev foremost : (ℕ → ℕ → Bool) → Roster → Bool
  foremost ahead roster =
      is_lawful l roster
      && (every_lawful l (λ other. every (leading ahead roster other) (days + 1)) && every (no_smaller roster) days)

  is_foremost : (ahead : ℕ → ℕ → Bool) (Ahead : ℕ → ℕ → Type 0) → ((a b : ℕ) → ahead a b ≡ true → Ahead a b)
      → (roster : Roster) → foremost ahead roster ≡ true → Foremost Ahead l roster
  is_foremost ahead Ahead means roster t =
      let (lawful, t) = and_parts (is_lawful l roster) _ t in
      let (first, smallest) = and_parts (every_lawful l (λ other. every (leading ahead roster other) (days + 1))) _ t in
      record {
        lawful = (decides_lawful l roster).0 lawful;
        ahead = λ other ok mark within.
            means _ _ (every_one (leading ahead roster other) (days + 1) (each_lawful l _ first other ok) mark (omega (arith, within)));
        smallest = λ day code other such its h same.
            let k = day - 1 in
            let within : k < days = omega (arith, such) in
            let is : code_at roster k ≡ code = get_or_from_slice_get roster k code 64 its in
            let m = slice_index_or l.days k [] in
            let none = every_one (no_smaller roster) days smallest k within in
            let none_smaller : other < code → ⊥ = λ less.
            let not_so = every_one (unlike m (code_at roster k)) (code_at roster k) none other (omega (arith, less, is)) in
            both_ways _ (not-true _ not_so) (and_from _ _ h ((Decides-eqb _ _).1 (same ∙ ap (weigh m) (sym is)))) in
            elim (cases_lt other code) [
              | inl less ↦ absurd (none_smaller less)
              | inr more ↦ more
            ];
      }

  -- ---- chains
  abbrev is_day : ℕ → Bool
  is_day day = not (day == 0) && nat_le day days

  abbrev has : Limit → Bool
  has (Most number) = stands l.rules number
  has (Least number) = stands l.rules number
  has (Heaviest day) = is_day day
  has (Lightest day) = is_day day

  -- the same marks and the same allowance
  abbrev alike : Link → Link → Bool
  alike k j = (k.from.0 == j.from.0) && ((k.to.0 == j.to.0) && int_eq k.allowance j.allowance)

  same_link : (k j : Link) → k.limit ≡ j.limit → k.from.0 ≡ j.from.0 → k.to.0 ≡ j.to.0 → k.allowance ≡ j.allowance → k ≡ j
  same_link k j limit from to allowance =
      ap (λ x. link x k.from.0 k.to.0 k.allowance) limit ∙ ap (λ x. link j.limit x k.to.0 k.allowance) from
      ∙ ap (λ x. link j.limit j.from.0 x k.allowance) to ∙ ap (λ x. link j.limit j.from.0 j.to.0 x) allowance

  abbrev in_table : Link → Bool
  in_table k = has k.limit && alike k (line_of l k.limit)

  has_so : (limit : Limit) → has limit ≡ true → Has l limit
  has_so (Most number) t = t
  has_so (Least number) t = t
  has_so (Heaviest day) t = grind (arith, nat_tests)
  has_so (Lightest day) t = grind (arith, nat_tests)

  own_limit : (limit : Limit) → limit ≡ (line_of l limit).limit
  own_limit (Most number) = refl
  own_limit (Least number) = refl
  own_limit (Heaviest day) = refl
  own_limit (Lightest day) = refl

  is_in_table : (k : Link) → in_table k ≡ true → InTable l k
  is_in_table k t =
      let (has, t) = and_parts (has k.limit) _ t in
      let (from, t) = and_parts (k.from.0 == (line_of l k.limit).from.0) _ t in
      let (to, allowance) = and_parts (k.to.0 == (line_of l k.limit).to.0) _ t in
      (has_so k.limit has, same_link k (line_of l k.limit) (own_limit k.limit) ((Decides-eqb _ _).0 from) ((Decides-eqb _ _).0 to) ((Decides-int_eq _ _).0 allowance))

  abbrev leads : ℕ → List Link → ℕ → Bool
  leads from [] to = from == to
  leads from (k ∷ chain) to = (k.from.0 == from) && leads k.to.0 chain to

  abbrev start_of : List Link → ℕ
  start_of [] = 0
  start_of (k ∷ chain) = k.from.0

  abbrev sound : List Link → Bool
  sound chain =
      list_all in_table chain
      && (leads (start_of chain) chain (start_of chain) && (nat_le (length chain) (days + 1) && int_lt (sum chain) (pos 0)))

  leads_so : (from : ℕ) (chain : List Link) (to : ℕ) → leads from chain to ≡ true → Leads from chain to
  leads_so from [] to t = (Decides-eqb from to).0 t
  leads_so from (k ∷ chain) to t =
      let (first, rest) = and_parts (k.from.0 == from) _ t in
      ((Decides-eqb k.from.0 from).0 first, leads_so k.to.0 chain to rest)

  is_sound : (chain : List Link) → sound chain ≡ true → SoundChain l chain
  is_sound chain t =
      let (known, t) = and_parts (list_all in_table chain) _ t in
      let (closed, t) = and_parts (leads (start_of chain) chain (start_of chain)) _ t in
      let (few, negative) = and_parts (nat_le (length chain) (days + 1)) _ t in
      record {
        known = λ k d lt. is_in_table (slice_index_or chain k d) (AllPass-from_list_all in_table chain known k d lt);
        mark = start_of chain;
        closed = leads_so _ chain _ closed;
        few = grind (arith, nat_tests);
        negative = grind (arith, ints);
      }

-- ---- answers
options_same : {X : Type 0} (same : X → X → Bool) → ((x y : X) → same x y ≡ true → x ≡ y)
    → (o p : Option X) → option_eq same o p ≡ true → o ≡ p
options_same same so None None t = refl
options_same same so None (Some y) t = grind arith
options_same same so (Some x) None t = grind arith
options_same same so (Some x) (Some y) t = ap Some (so x y t)

pairs_same : {Y : Type 0} (p q : ℕ × Y) → (p.0 == q.0) ≡ true → p.1 ≡ q.1 → p ≡ q
pairs_same p q first second = ap (λ n. (n, p.1)) ((Decides-eqb p.0 q.0).0 first) ∙ ap (λ y. (q.0, y)) second

abbrev same_numbers : ℕ × ℕ → ℕ × ℕ → Bool
same_numbers p q = (p.0 == q.0) && (p.1 == q.1)

numbers_same : (p q : ℕ × ℕ) → same_numbers p q ≡ true → p ≡ q
numbers_same p q t = let (first, last) = and_parts (p.0 == q.0) _ t in pairs_same p q first ((Decides-eqb p.1 q.1).0 last)

abbrev same_row : Row → Row → Bool
same_row r s = (r.0 == s.0) && option_eq (λ a b. a == b) r.1 s.1

rows_same : (r s : Row) → same_row r s ≡ true → r ≡ s
rows_same r s t =
    let (number, names) = and_parts (r.0 == s.0) _ t in
    pairs_same r s number (options_same (λ a b. a == b) (λ a b. (Decides-eqb a b).0) r.1 s.1 names)

abbrev is_reply : Reply → Answer → Bool
is_reply (Slide numbers) (ranging given) = option_eq same_numbers given numbers
is_reply (Slide numbers) (numbered n) = false
is_reply (Slide numbers) done = false
is_reply (Slide numbers) settled = false
is_reply Done done = true
is_reply Done (ranging given) = false
is_reply Done (numbered n) = false
is_reply Done settled = false

reply_so : (expected : Reply) (given : Answer) → is_reply expected given ≡ true → given ≡ shown expected
reply_so (Slide numbers) (ranging given) t = ap ranging (options_same same_numbers numbers_same given numbers t)
reply_so (Slide numbers) (numbered n) t = grind arith
reply_so (Slide numbers) done t = grind arith
reply_so (Slide numbers) settled t = grind arith
reply_so Done done t = refl
reply_so Done (ranging given) t = grind arith
reply_so Done (numbered n) t = grind arith
reply_so Done settled t = grind arith

abbrev answers : Result Reply Refusal → Result Answer Row → Bool
answers (Ok expected) (Ok given) = is_reply expected given
answers (Ok expected) (Err row) = false
answers (Err e) (Ok given) = false
answers (Err e) (Err row) = same_row row (row_of e)

answers_so : (expected : Result Reply Refusal) (given : Result Answer Row) → answers expected given ≡ true → given ≡ told shown expected
answers_so (Ok expected) (Ok given) t = ap Ok (reply_so expected given t)
answers_so (Ok expected) (Err row) t = grind arith
answers_so (Err e) (Ok given) t = grind arith
answers_so (Err e) (Err row) t = ap Err (rows_same row (row_of e) t)

-- ---- the test of a plan
abbrev comes : Ledger → Outcome → Bool
comes l (Agreed keep lean full) =
    kept l (map (λ codes. codes.now) keep.now) && (foremost l nat_le lean.now && foremost l (λ a b. nat_le b a) full.now)
comes l (Blocked chain sum_is) =
    every_lawful l (λ roster. false) && (sound l chain.now && int_eq (sum chain.now) sum_is)
comes l (Answers asked) = list_all (λ p. answers p.1 (reply l p.0)) asked.now

abbrev pub as_expected : WorkedPlan → Bool
as_expected w = comes (plan w) w.outcome

comes_so : (l : Ledger) (outcome : Outcome) → comes l outcome ≡ true → Comes l outcome
comes_so l (Agreed keep lean full) t =
    let (inside, t) = and_parts (kept l (map (λ codes. codes.now) keep.now)) _ t in
    let (low, high) = and_parts (foremost l nat_le lean.now) _ t in
    let leanest = is_foremost l nat_le (λ a b. a ≤ b) (λ a b t. leb-true a b t) lean.now low in
    (∣ (lean.now, leanest.lawful) ∣₁, each_kept l _ inside, leanest, is_foremost l (λ a b. nat_le b a) (λ a b. b ≤ a) (λ a b t. leb-true b a t) full.now high)
comes_so l (Blocked chain sum_is) t =
    let (none, t) = and_parts (every_lawful l (λ roster. false)) _ t in
    let (good, sums) = and_parts (sound l chain.now) _ t in
    ((λ roster lawful. both_ways _ refl (each_lawful l (λ roster. false) none roster lawful)), is_sound l chain.now good, (Decides-int_eq _ _).0 sums)
comes_so l (Answers asked) t = λ k d lt.
    let p = slice_index_or asked.now k d in
    answers_so p.1 (reply l p.0) (AllPass-from_list_all (λ p. answers p.1 (reply l p.0)) asked.now t k d lt)

so : (w : WorkedPlan) → as_expected w ≡ true → AsExpected w
so w t = comes_so (plan w) w.outcome t

pub expected : (ws : List WorkedPlan) → list_all as_expected ws ≡ true → AllAsExpected ws
unfolding AllAsExpected
expected ws t = λ k d lt. so (slice_index_or ws k d) (AllPass-from_list_all as_expected ws t k d lt)
