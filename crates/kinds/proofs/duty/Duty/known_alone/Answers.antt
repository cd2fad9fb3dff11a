use Rattle.kinds.proofs.DutyFacts.{known_alone}
use Rattle.kinds.proofs.duty.Duty.known_alone.Goals as goal

pub returns : goal.returns
returns c = known_alone _ _ _ c.without.ensures.each c.without-2.ensures.each _ c.is_empty.ensures.none
