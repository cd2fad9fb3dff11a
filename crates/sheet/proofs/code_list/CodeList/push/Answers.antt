use Rattle.std.proofs.Common.{rules, ◌≡◌, ℕ, List, [], ◌∷◌, ◌++◌, ◌==◌, ◌||◌, nat_lt}
use Rattle.codes.specs.Members.{lists}
use Rattle.sheet.specs.CodeLists.{goes_above}
use Rattle.sheet.proofs.code_list.CodeList.push.Goals as goal

-- a list that is one number longer
lists_one_more : (ns : List ℕ) (n c : ℕ) → lists (ns ++ (n ∷ [])) c ≡ (lists ns c || c == n)
lists_one_more [] n c = search rules
lists_one_more (m ∷ ns) n c = search (rules, lists_one_more ns n c)

above_one_more : (ns : List ℕ) (n : ℕ) → goes_above (ns ++ (n ∷ [])) ≡ (goes_above ns || nat_lt 63 n)
above_one_more [] n = search rules
above_one_more (m ∷ ns) n = search (rules, above_one_more ns n)

pub returns : goal.returns
returns c = λ ns h. record {
  codes = λ k. rw (lists_one_more ns c.args.number k) (search (rules, h.codes k));
  above = rw (above_one_more ns c.args.number) (search (rules, h.above));
}
