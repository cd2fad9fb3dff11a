use Rattle.std.proofs.Common.{◌≡◌, take}
use Rattle.sheet.specs.Drafts.{value_of}
use Rattle.sheet.proofs.draft.value.Given as goal

abbrev pub invariant-loop-digit : goal.invariant-loop-digit
invariant-loop-digit l = l.number ≡ value_of (take l.digit-index l.digits)
