use Rattle.std.proofs.Common.{inl, inr}
use Rattle.carry.proofs.StartFacts.{collection_beyond}
use Rattle.carry.proofs.starts.collection.Goals as goal
use Rattle.carry.proofs.starts.collection.Goals.{then-codes-via-then-codes, then-codes-via-else-codes+then-counts}

pub returns-then-codes : goal.returns-then-codes
returns-then-codes c held counted keeps keeps_counted =
    let refused = collection_beyond c.args.codes c.args.counts held counted keeps keeps_counted in
    elim c.then-codes.branch [
      | then-codes-via-then-codes w ↦ refused (inl w.if-codes.true)
      | then-codes-via-else-codes+then-counts w ↦ refused (inr w.if-counts.true)
    ]
