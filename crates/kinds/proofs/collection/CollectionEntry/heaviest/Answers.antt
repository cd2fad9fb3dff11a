use Rattle.std.proofs.Common.{arith}
use Rattle.std.proofs.lemmas.Bool.Decides.{nat_tests}
use Rattle.entry.proofs.Weighing.{heaviest_is}
use Rattle.kinds.proofs.CollectionFacts.{heaviest_flag}
use Rattle.kinds.proofs.collection.CollectionEntry.heaviest.Goals as goal

pub returns : goal.returns
returns c =
    let counting = c.bitand-counting in
    record {
      equals = heaviest_is _ _ (heaviest_flag c.args.self.now counting.result counting.ensures c.is_empty.result c.is_empty.ensures.none _
          (grind (arith, nat_tests, c.from.ensures)));
      means = heaviest_flag c.args.self.now counting.result counting.ensures c.is_empty.result c.is_empty.ensures.none _
          (grind (arith, nat_tests, c.from.ensures));
    }
