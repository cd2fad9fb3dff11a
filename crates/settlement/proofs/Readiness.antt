-- What settling needs of a plan, and that each plan has it where no row refuses to settle it.
use Rattle.std.proofs.Common.{◌≡◌, ℕ, ◌≤◌, Bool, true, false, List, [], ◌∷◌, map, length, slice_index_or, Some, None, Ok, Option, refl, arith}
use Rattle.std.specs.List.{All}
use Rattle.std.proofs.lemmas.Bool.Decides.{nat_tests}
use Rattle.std.proofs.lemmas.List.Elements.{All-map}
use Rattle.entry.specs.declared.traits.Entry.{Ghosts}
use Rattle.entry.specs.Cells.{Holds, NoGap}
use Rattle.entry.specs.Refusals.{Row, row, topmost, answered}
use Rattle.entry.proofs.Tested.{decides_holds}
use Rattle.ledger.specs.declared.call.Call.TheVariants.{Settle}
use Rattle.ledger.specs.Ledgers.{Ledger, ledger, settled, too_many_days, holds_code, failing, naming_one, rule_past_days, rows}
use Rattle.ledger.specs.Rules.{Book, Bounds}
use Rattle.ledger.proofs.Firsts.{none_failing}

-- what settling needs of a plan
pub record Ready (l : Ledger) : Type 0 where
  pub few : length l.days ≤ 128
  pub held : All Holds l.days
  pub gapless : All NoGap l.days
  pub bounds : Bounds l.rules
  pub within : rule_past_days l ≡ None

-- none of the rows of settling fits
clear : (many : Bool) (empty past : Option ℕ)
    → topmost ((many, row 1) ∷ naming_one 2 empty ∷ naming_one 8 past ∷ []) ≡ None
    → (many ≡ false) × (empty ≡ None) × (past ≡ None)
clear false None None e = (refl, refl, refl)
clear false None (Some rule) e = cc
clear false (Some day) past e = cc
clear true empty past e = cc

-- of a plan that a call of settling takes none fits
pub none_fits : (o : Option Row) → Ok settled ≡ answered o settled → o ≡ None
none_fits None e = refl
none_fits (Some row) e = cc

pub ready_of : {X : Type 0} (kind : Ghosts X) (entries : List X) (book : Book)
    → ((x : X) → (length (kind.meaning x) ≡ 64) × NoGap (kind.meaning x)) → Bounds book
    → topmost (rows (ledger kind entries book) Settle) ≡ None → Ready (ledger kind entries book)
ready_of kind entries book whole bounds none =
    let l = ledger kind entries book in
    let days = map kind.meaning entries in
    let (many, empty, past) = clear (too_many_days l) (failing holds_code l.days) (rule_past_days l) none in
    let long : All (λ m. length m ≡ 64) l.days =
    All-map (λ m. length m ≡ 64) kind.meaning entries (λ k d lt. (whole (slice_index_or entries k d)).0) in
    record {
      few = grind (arith, nat_tests);
      held = λ k d lt. (decides_holds (slice_index_or l.days k d) (long k d lt)).0 (none_failing holds_code l.days empty k d lt);
      gapless = All-map NoGap kind.meaning entries (λ k d lt. (whole (slice_index_or entries k d)).1);
      bounds = bounds;
      within = past;
    }
