-- Every roster of the held codes, tried by a test that computes, and what the test says of the lawful rosters.
use Rattle.std.proofs.Common.{◌≡◌, ℕ, zero, suc, ◌<◌, ◌==◌, Bool, true, not, ◌&&◌, List, [], ◌∷◌, length, IsTrue, ◌↔◌, refl, arith}
use Rattle.std.specs.List.{list_all, zip}
use Rattle.std.proofs.lemmas.List.{get_or_past}
use Rattle.std.proofs.lemmas.List.Sums.{AllPass-from_list_all, list_all-from_AllPass}
use Rattle.std.proofs.lemmas.Bool.{and_parts, and_from, true_from_ne_false, not_from_false}
use Rattle.std.proofs.lemmas.Bool.Decides.{Decides-and, Decides-not, Decides-like, Decides-eqb, Decides-below_and}
use Rattle.entry.specs.Cells.{Meaning, held}
use Rattle.entry.specs.Edits.{some}
use Rattle.entry.proofs.Tested.{decides_some}
use Rattle.ledger.specs.Ledgers.{Ledger}
use Rattle.ledger.specs.Rosters.{Roster, Lawful, holds_its_code, keeps}

-- each number below n passes
abbrev pub every : (ℕ → Bool) → ℕ → Bool
every passes zero = true
every passes (suc n) = passes n && every passes n

pub every_one : (passes : ℕ → Bool) (n : ℕ) → every passes n ≡ true → (k : ℕ) → k < n → passes k ≡ true
every_one passes n = (Decides-below_and passes (λ k. passes k ≡ true) (every passes) (λ k. (λ t. t, λ t. t)) refl (λ _. refl) n).0

-- some roster of the held codes passes
abbrev some_roster : List Meaning → (Roster → Bool) → Bool
some_roster [] passes = passes []
some_roster (m ∷ days) passes =
    some (λ code. held m code && some_roster days (λ roster. passes (code ∷ roster))) (length m)

-- a roster of the held codes
abbrev Fits : List Meaning → Roster → Type 0
Fits days roster = (length roster ≡ length days) × (list_all holds_its_code (zip days roster) ≡ true)

abbrev Finds : List Meaning → (Roster → Bool) → Type 0
Finds days passes = (roster : Roster) × Fits days roster × (passes roster ≡ true)

-- a first code, and a roster of the days behind
abbrev First : Meaning → List Meaning → (Roster → Bool) → ℕ → Type 0
First m days passes code = (held m code ≡ true) × Finds days (λ roster. passes (code ∷ roster))

joined : (m : Meaning) (days : List Meaning) (passes : Roster → Bool)
    → ((code : ℕ) × (code < length m) × First m days passes code) → Finds (m ∷ days) passes
joined m days passes (code, _, (h, (roster, fits, t))) = (code ∷ roster, (omega arith, and_from _ _ h fits.1), t)

parted : (m : Meaning) (days : List Meaning) (passes : Roster → Bool)
    → Finds (m ∷ days) passes → ((code : ℕ) × (code < length m) × First m days passes code)
parted m days passes ([], fits, t) = absurd (omega (arith, fits.0))
parted m days passes (code ∷ roster, fits, t) =
    let (h, rest) = and_parts (held m code) _ fits.1 in
    (code, grind (arith, get_or_past), (h, (roster, (omega (arith, fits.0), rest), t)))

none_left : (passes : Roster → Bool) → Finds [] passes → passes [] ≡ true
none_left passes ([], fits, t) = t
none_left passes (code ∷ roster, fits, t) = absurd (omega (arith, fits.0))

decides_some_roster : (days : List Meaning) (passes : Roster → Bool) → IsTrue (some_roster days passes) ↔ Finds days passes
decides_some_roster [] passes = (λ t. ([], (refl, refl), t), none_left passes)
decides_some_roster (m ∷ days) passes =
    Decides-like _ (joined m days passes) (parted m days passes)
    (decides_some _ (First m days passes)
    (λ code. Decides-and (held m code) _ (λ t. t, λ t. t) (decides_some_roster days (λ roster. passes (code ∷ roster)))) (length m))

module _ (l : Ledger) where
  abbrev pub is_lawful : Roster → Bool
  is_lawful roster =
      (length roster == length l.days)
      && (list_all holds_its_code (zip l.days roster) && list_all (keeps l.days roster) l.rules)

  pub decides_lawful : (roster : Roster) → IsTrue (is_lawful roster) ↔ Lawful l roster
  decides_lawful roster =
      let pairs = zip l.days roster in
      let held = list_all holds_its_code pairs in
      let kept = list_all (keeps l.days roster) l.rules in
      Decides-like _
      (λ p. record {
        long = p.0;
        held = AllPass-from_list_all holds_its_code pairs p.1.0;
        kept = AllPass-from_list_all (keeps l.days roster) l.rules p.1.1;
      })
      (λ lawful. (
        lawful.long,
        (list_all-from_AllPass holds_its_code pairs lawful.held, list_all-from_AllPass (keeps l.days roster) l.rules lawful.kept),
      ))
      (Decides-and _ _ (Decides-eqb (length roster) (length l.days)) (Decides-and held kept (λ t. t, λ t. t) (λ t. t, λ t. t)))

  -- some lawful roster passes
  abbrev pub some_lawful : (Roster → Bool) → Bool
  some_lawful passes = some_roster l.days (λ roster. is_lawful roster && passes roster)

  pub some_one : (passes : Roster → Bool) → some_lawful passes ≡ true → (roster : Roster) × Lawful l roster × (passes roster ≡ true)
  some_one passes t =
      let (roster, _, found) = (decides_some_roster l.days _).0 t in
      let (lawful, passed) = and_parts (is_lawful roster) _ found in
      (roster, (decides_lawful roster).0 lawful, passed)

  -- every lawful roster passes
  abbrev pub every_lawful : (Roster → Bool) → Bool
  every_lawful passes = not (some_lawful (λ roster. not (passes roster)))

  pub each_lawful : (passes : Roster → Bool) → every_lawful passes ≡ true → (roster : Roster) → Lawful l roster → passes roster ≡ true
  each_lawful passes t roster lawful =
      true_from_ne_false (passes roster) (λ f.
      (Decides-not _ (decides_some_roster l.days _)).0 t
      (roster, (lawful.long, list_all-from_AllPass holds_its_code (zip l.days roster) lawful.held), and_from _ _ ((decides_lawful roster).1 lawful) (not_from_false _ f)))
