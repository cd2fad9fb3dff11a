-- What a verdict says of the plan is true, where it is made from the solutions of the plan's system.
use Rattle.std.proofs.Common.{◌≡◌, ℕ, ◌+◌, ◌-◌, ◌<◌, ◌≤◌, ℤ, pos, ◌≤ℤ◌, true, IsTrue, ◌↔◌, List, [], length, Some, slice_get, refl, sym, ap, ◌∙◌, subst, inl, inr, arith}
use Rattle.std.proofs.lemmas.Bool.{cases_Bool}
use Rattle.std.proofs.lemmas.Grind.{not_there}
use Rattle.std.proofs.lemmas.Int.{ints}
use Rattle.std.proofs.lemmas.List.Elements.{All-contains}
use Rattle.std.proofs.lemmas.Option.{slice_get-get_or, slice_get_cases}
use Rattle.codes.specs.declared.set.CodeSet.{CodeSet}
use Rattle.codes.specs.Members.{member}
use Rattle.entry.specs.Cells.{Meaning, held, weigh}
use Rattle.ledger.specs.Ledgers.{Ledger, day_of}
use Rattle.ledger.specs.Rosters.{Roster, Lawful}
use Rattle.limits.specs.declared.link.Link.{Link}
use Rattle.limits.specs.Links.{Totals, Keeps}
use Rattle.limits.specs.Systems.{System, at_mark, marks}
use Rattle.chains.specs.Chains.{Blocks}
use Rattle.chains.proofs.Blocking.{sound_excludes}
use Rattle.closure.specs.Closures.{Starts, Reaches}
use Rattle.plan.specs.Tables.{IsDay, InTable, Represents}
use Rattle.settlement.specs.declared.verdict.Agreement.{Agreement}
use Rattle.settlement.specs.declared.verdict.Verdict.TheVariants.{Agreed, Blocked}
use Rattle.settlement.specs.Choices.{within, EachPicks, EachRising, Agrees}
use Rattle.settlement.specs.Settlements.{SoundChain, CanHave, Foremost, Meets, among}
use Rattle.settlement.proofs.Readiness.{Ready}
use Rattle.settlement.proofs.Following.{Follows, totals_of, total_is, follows_itself}
use Rattle.settlement.proofs.RosterFacts.{solution_keeps, totals_start, lawful_of, roster_with}

module _ (l : Ledger) (s : System) (ready : Ready l) (represents : Represents l s) where
  -- the meaning of a day
  day_is : (day : ℕ) → IsDay l day → slice_get l.days (day - 1) ≡ Some (day_of l day)
  day_is day is = slice_get-get_or l.days (day - 1) [] (omega (arith, is.0, is.1))

  -- the roster of a solution that is ahead of all
  foremost : (Ahead : ℕ → ℕ → Type 0) (totals : List ℤ) → Starts s (at_mark totals)
      → ((y : Totals) → Starts s y → (mark : ℕ) → mark < marks s
      → (a b : ℕ) → pos a ≡ at_mark totals mark → pos b ≡ y mark → Ahead a b)
      → (roster : Roster) → EachPicks l.days (at_mark totals) roster → Foremost Ahead l roster
  foremost Ahead totals starts ahead roster picks =
      let y = at_mark totals in
      let follows : Follows l.days y roster = record { long = picks.long; item = λ k m code d c. (picks.item k m code d c).0 } in
      record {
        lawful = lawful_of l s ready represents y starts roster follows;
        ahead = λ other lawful mark le.
            ahead (totals_of l.days other) (totals_start l s ready represents other lawful) mark
            (omega (arith, represents.days)) _ _ (total_is l.days y roster starts.1 follows mark le) refl;
        smallest = λ day code other is shown holds weighs.
            let picked = picks.item (day - 1) (day_of l day) code (day_is day is) shown in
            picked.1 other (holds, ap pos weighs ∙ picked.0.1);
      }

  -- a code that lies within what the system allows on a day is had by some lawful roster
  some_has : (k code : ℕ) (m : Meaning) (least most : ℤ) → Reaches s k (k + 1) least most → slice_get l.days k ≡ Some m
      → held m code ≡ true → least ≤ℤ pos (weigh m code) → pos (weigh m code) ≤ℤ most
      → (roster : Roster) × Lawful l roster × (slice_get roster k ≡ Some code)
  some_has k code m least most reaches day holds low high =
      let (y, starts, rises) = reaches.reached (pos (weigh m code)) low high in
      let (roster, follows, shows) = roster_with l s ready represents y starts k code m day (holds, sym rises) in
      (roster, lawful_of l s ready represents y starts roster follows, shows)

  -- and a code that one has lies within it
  lies_within : (k code : ℕ) (m : Meaning) (least most : ℤ) → Reaches s k (k + 1) least most → slice_get l.days k ≡ Some m
      → (roster : Roster) → Lawful l roster → slice_get roster k ≡ Some code
      → (held m code ≡ true) × (least ≤ℤ pos (weigh m code)) × (pos (weigh m code) ≤ℤ most)
  lies_within k code m least most reaches day roster lawful shows =
      let y : Totals = totals_of l.days roster in
      let within = reaches.within y (totals_start l s ready represents roster lawful) in
      let weighs = (follows_itself l roster lawful).item k m code day shows in
      (weighs.0, rw weighs.1 within.0, rw weighs.1 within.1)

  -- the sets have exactly the possible codes
  possible_is : (sets : List CodeSet) → EachRising s l.days sets → (day code : ℕ) → IsDay l day
      → IsTrue (among (slice_get sets (day - 1)) code) ↔ CanHave l day code
  possible_is sets each day code is =
      let k = day - 1 in
      let m = day_of l day in
      elim (slice_get_cases sets k).1 [
        | inr none ↦ absurd (omega (arith, none.0, each.long, is.0, is.1))
        | inl (set, below, found, again) ↦
            let (least, most, reaches, chooses) = each.item k m set (day_is day is) found in
            let test : member set code ≡ within m least most code = chooses code in
            rw found (
              (λ has.
                  let passes : (held m code ≡ true) × (least ≤ℤ pos (weigh m code)) × (pos (weigh m code) ≤ℤ most) =
                  (grind (arith, ints), grind (arith, ints), grind (arith, ints)) in
                  ∣ some_has k code m least most reaches (day_is day is) passes.0 passes.1 passes.2 ∣₁),
              (λ can. elim (cases_Bool (member set code)) [
                | inl t ↦ t
                | inr f ↦ absurd (not_there can (λ (roster, lawful, shows).
                    let w = lies_within k code m least most reaches (day_is day is) roster lawful shows in
                    grind (arith, ints, w.0, w.1, w.2)))
              ]),
            )
      ]

  -- a lawful roster's totals keep every line of the table, so no sound chain stands beside it
  no_chain : (links : List Link) → SoundChain l links → (roster : Roster) → Lawful l roster → ⊥
  no_chain links sound roster lawful =
      let y = totals_of l.days roster in
      let solves = (totals_start l s ready represents roster lawful).0 in
      sound_excludes (InTable l) (length l.days + 1) links sound y
      (λ k (has, is). subst (Keeps y) (sym is) (solution_keeps l s ready represents y solves k.limit has))

  -- a verdict that is made from the solutions is true of the plan
  pub agreed_meets : (a : Agreement) → Agrees s l.days a → Meets l (Agreed a)
  agreed_meets a agrees =
      let (low, smallest, lean) = agrees.lean in
      let (high, largest, full) = agrees.full in
      let leanest = foremost (λ total other. total ≤ other) low smallest.solves
      (λ y starts mark inside a b left right. omega (arith, ints, smallest.smallest y starts mark inside, left, right)) a.lean lean in
      record {
        either = refl;
        agreed = ((λ _. ∣ (a.lean, leanest.lawful) ∣₁), (λ _. refl));
        daily = λ _. agrees.possible.long;
        possible = possible_is a.possible agrees.possible;
        lean = λ _. leanest;
        full = λ _. foremost (λ total other. other ≤ total) high largest.solves
            (λ y starts mark inside a b left right. omega (arith, ints, largest.largest y starts mark inside, left, right)) a.full full;
        chain = λ e. absurd (grind arith);
        excluded = no_chain;
      }

  -- and so is one with a chain that blocks the system
  pub blocked_meets : (chain : List Link) → Blocks s chain → Meets l (Blocked chain)
  blocked_meets chain blocks =
      let sound : SoundChain l chain = record {
        known = λ k d lt. All-contains (InTable l) s.links _ represents.known (blocks.known k d lt);
        mark = blocks.mark;
        closed = blocks.closed;
        few = omega (arith, blocks.few, represents.days);
        negative = blocks.negative;
      } in
      let unlawful = no_chain chain sound in
      record {
        either = refl;
        agreed = ((λ e. absurd (grind arith)), (λ can. absurd (not_there can (λ (roster, lawful). unlawful roster lawful))));
        daily = λ e. absurd (grind arith);
        possible = λ day code is. (
          (λ e. absurd (grind arith)),
          (λ can. absurd (not_there can (λ (roster, lawful, shows). unlawful roster lawful))),
        );
        lean = λ e. absurd (grind arith);
        full = λ e. absurd (grind arith);
        chain = λ _. sound;
        excluded = no_chain;
      }
