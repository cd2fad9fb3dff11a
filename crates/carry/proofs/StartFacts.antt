-- What is built of the lists of a first line: of the codes that are kept of a list, what is built of the list itself.
use Rattle.std.proofs.Common.{◌≡◌, ℕ, ◌<◌, true, false, List, [], ◌∷◌, Err, sym, ◌∙◌, inl, inr, arith}
use Rattle.std.specs.Prelude.{◌⊎◌}
use Rattle.std.proofs.lemmas.Bool.{cases_eq, cases_lt}
use Rattle.std.proofs.lemmas.Bool.Decides.{nat_tests}
use Rattle.codes.specs.Members.{members, lists}
use Rattle.entry.specs.Refusals.{row}
use Rattle.kinds.specs.Collections.{collection_of}
use Rattle.kinds.specs.Duties.{duty_of}
use Rattle.kinds.proofs.BuildFacts.{duty_of-same, duty_of-beyond, collection_of-same, collection_of-beyond}
use Rattle.kinds.proofs.ListingFacts.{lists-members}
use Rattle.sheet.specs.CodeLists.{Lists, goes_above}
use Rattle.sheet.specs.declared.code_list.CodeList.{CodeList}

-- a list that goes above has a number above 63, and any other has codes alone
goes_beyond : (ns : List ℕ) → goes_above ns ≡ true → (n : ℕ) × (lists ns n ≡ true) × (63 < n)
goes_beyond [] above = grind arith
goes_beyond (n ∷ ns) above =
    elim (cases_lt 63 n) [
      | inl more ↦ (n, grind (arith, nat_tests), more)
      | inr few ↦ let rest = goes_beyond ns (grind (arith, nat_tests)) in (rest.0, grind (arith, nat_tests, rest.1), rest.2)
    ]

codes_alone : (ns : List ℕ) → goes_above ns ≡ false → (c : ℕ) → lists ns c ≡ true → c < 64
codes_alone [] none c listed = grind arith
codes_alone (n ∷ ns) none c listed =
    elim (cases_eq c n) [
      | inl same ↦ grind (arith, nat_tests)
      | inr other ↦ codes_alone ns (grind (arith, nat_tests)) c (grind (arith, nat_tests))
    ]

module _ (kept : CodeList) (ns : List ℕ) (keeps : Lists kept ns) where
  same_codes : kept.goes_above ≡ false → (c : ℕ) → lists (members kept.codes) c ≡ lists ns c
  same_codes none c =
      let alone = codes_alone ns (sym keeps.above ∙ none) c in
      lists-members kept.codes c ∙ keeps.codes c ∙ grind (arith, nat_tests)

  beyond : kept.goes_above ≡ true → (n : ℕ) × (lists ns n ≡ true) × (63 < n)
  beyond above = goes_beyond ns (sym keeps.above ∙ above)

  pub duty_known : kept.goes_above ≡ false → duty_of (members kept.codes) ≡ duty_of ns
  duty_known none = duty_of-same (members kept.codes) ns (same_codes none)

  pub duty_beyond : kept.goes_above ≡ true → Err (row 9) ≡ duty_of ns
  duty_beyond above = let (n, listed, more) = beyond above in sym (duty_of-beyond ns n listed more)

module _ (codes counts : CodeList) (held counted : List ℕ) (keeps : Lists codes held) (keeps_counted : Lists counts counted) where
  pub collection_known : codes.goes_above ≡ false → counts.goes_above ≡ false
      → collection_of (members codes.codes) (members counts.codes) ≡ collection_of held counted
  collection_known none no_counted =
      collection_of-same _ _ held counted (same_codes codes held keeps none) (same_codes counts counted keeps_counted no_counted)

  pub collection_beyond : (codes.goes_above ≡ true) ⊎ (counts.goes_above ≡ true) → Err (row 9) ≡ collection_of held counted
  collection_beyond (inl above) =
      let (n, listed, more) = beyond codes held keeps above in sym (collection_of-beyond held counted n (inl listed) more)
  collection_beyond (inr above) =
      let (n, listed, more) = beyond counts counted keeps_counted above in sym (collection_of-beyond held counted n (inr listed) more)
