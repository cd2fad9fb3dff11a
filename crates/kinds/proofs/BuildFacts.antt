-- What lists of numbers build: the same where they list the same, and a refusal where a number is above 63.
use Rattle.std.proofs.Common.{◌≡◌, ℕ, ◌<◌, true, false, not, ◌⊎◌, List, [], ◌∷◌, Ok, Err, sym, inl, inr, arith}
use Rattle.std.proofs.lemmas.Bool.{le-ltb}
use Rattle.codes.specs.declared.set.CodeSet.{CodeSet}
use Rattle.codes.specs.Members.{member, members, lists}
use Rattle.entry.specs.Refusals.{row, topmost, answered}
use Rattle.entry.specs.Cells.{cells}
use Rattle.kinds.specs.Codes.{any_code}
use Rattle.kinds.specs.Collections.{counting, collection_of}
use Rattle.kinds.specs.Duties.{duty_code, duty_of, duty_weight}
use Rattle.kinds.specs.Listings.{Listed}
use Rattle.kinds.proofs.ListingFacts.{one_refused, unknown_listed, same_lists, same_known, lists-members, members_known, members_again}

-- a duty entry
pub duty_of-same : (ns ks : List ℕ) → ((c : ℕ) → lists ns c ≡ lists ks c) → duty_of ns ≡ duty_of ks
duty_of-same ns ks same i =
    answered (topmost ((not (same_known ns ks same duty_code i), row 9) ∷ [])) (cells duty_weight (same_lists ns ks same i))

pub duty_of-beyond : (ns : List ℕ) (n : ℕ) → lists ns n ≡ true → 63 < n → duty_of ns ≡ Err (row 9)
duty_of-beyond ns n t h =
    one_refused duty_code ns (cells duty_weight (lists ns)) (unknown_listed duty_code ns n t (le-ltb n 2 (omega arith)))

-- what the set of a listing builds is what the listing builds
pub duty_again : (ns : List ℕ) (s : CodeSet) → Listed duty_code ns (Ok s) → duty_of (members s) ≡ duty_of ns
duty_again ns s listed = duty_of-same (members s) ns (members_again duty_code ns s listed)

-- a collection entry
pub collection_of-same : (ns ks ms ls : List ℕ) → ((c : ℕ) → lists ns c ≡ lists ms c) → ((c : ℕ) → lists ks c ≡ lists ls c)
    → collection_of ns ks ≡ collection_of ms ls
collection_of-same ns ks ms ls held counted i =
    answered (topmost ((not (same_known ns ms held any_code i), row 9) ∷ (not (same_known ks ls counted any_code i), row 9) ∷ []))
    (counting (same_lists ks ls counted i) (same_lists ns ms held i))

pub collection_of-beyond : (ns ks : List ℕ) (n : ℕ) → (lists ns n ≡ true) ⊎ (lists ks n ≡ true) → 63 < n
    → collection_of ns ks ≡ Err (row 9)
collection_of-beyond ns ks n which h =
    let unknown : any_code n ≡ false = le-ltb n 64 (omega arith) in
    elim which [
      | inl t ↦ grind (arith, unknown_listed any_code ns n t unknown)
      | inr t ↦ grind (arith, unknown_listed any_code ks n t unknown)
    ]

pub collection_again : (ns ks : List ℕ) (s t : CodeSet) → Listed any_code ns (Ok s) → Listed any_code ks (Ok t)
    → collection_of (members s) (members t) ≡ collection_of ns ks
collection_again ns ks s t held counted =
    collection_of-same (members s) (members t) ns ks (members_again any_code ns s held) (members_again any_code ks t counted)

-- no set has a number that is refused
pub from_two_sets : (s t : CodeSet) → Ok (counting (member t) (member s)) ≡ collection_of (members s) (members t)
from_two_sets s t =
    let listed : (u : CodeSet) → member u ≡ lists (members u) = λ u i c. sym (lists-members u c) i in
    rw (members_known s, members_known t) (λ i. Ok (counting (listed t i) (listed s i)))
