-- One line of each form.
use Rattle.std.specs.Prelude.{List, [], ◌∷◌, ℕ, map}
use Rattle.ledger.specs.declared.call.Call.TheVariants.{Rule, Slide, Withdraw, Strike, Grant, Settle}
use Rattle.tokens.specs.Lines.{duty, collection, boxes, call, written}

abbrev pub first_forms : List (List ℕ)
first_forms = map written (duty 7 (0 ∷ 1 ∷ []) ∷ collection 10 (4 ∷ 7 ∷ 9 ∷ []) (9 ∷ []) ∷ boxes 128 0 63 ∷ [])

abbrev pub later_forms : List (List ℕ)
later_forms = map written (call (Rule 1 12 0 8064) ∷ call (Slide 5 2 3) ∷ call (Withdraw 512) ∷ call (Strike 2 34) ∷ call (Grant 128 0) ∷ call Settle ∷ [])
