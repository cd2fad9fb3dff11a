use Rattle.std.proofs.Common.{◌≡◌, ℕ, ◌||◌, drop}
use Rattle.codes.specs.Members.{member, lists}
use Rattle.kinds.specs.Listings.{all_known}
use Rattle.kinds.proofs.listing.listed.Given as goal

abbrev pub invariant-loop-code : goal.invariant-loop-code
invariant-loop-code g l =
    (all_known g.E.Entry.known (drop l.code-index l.codes) ≡ all_known g.E.Entry.known l.codes)
    × ((c : ℕ) → (member l.set c || lists (drop l.code-index l.codes) c) ≡ lists l.codes c)
