use Rattle.limits.specs.Systems.{at_mark}
use Rattle.settlement.proofs.choices.agreement.Goals as goal

pub roster_of-requires-clause-attained : goal.roster_of-requires-clause-attained
roster_of-requires-clause-attained g c =
    rw c.as_slice.ensures.items
    (c.requires.reachable (at_mark c.smallest.result) c.smallest.ensures.solves)

pub roster_of-requires-2-clause-attained : goal.roster_of-requires-2-clause-attained
roster_of-requires-2-clause-attained g c =
    rw c.as_slice-2.ensures.items
    (c.requires.reachable (at_mark c.largest.result) c.largest.ensures.solves)
