use Rattle.std.proofs.Common.{refl, arith}
use Rattle.entry.proofs.Weighing.{lightest_is}
use Rattle.kinds.proofs.CollectionFacts.{lightest_free, lightest_counted}
use Rattle.kinds.proofs.collection.CollectionEntry.lightest.Goals as goal

pub returns-then-is_empty : goal.returns-then-is_empty
returns-then-is_empty c =
    let free = c.sub-free in
    let never = c.if-is_empty.ensures.none.0 refl in
    let most = c.heaviest.ensures.means in
    record {
      equals = lightest_is _ _ (lightest_counted c.args.self.now free.result free.ensures.each never _ most _ (omega arith));
      means = lightest_counted c.args.self.now free.result free.ensures.each never _ most _ (omega arith);
    }

pub returns-else-is_empty : goal.returns-else-is_empty
returns-else-is_empty c =
    let free = c.sub-free in
    let full = c.if-is_empty.ensures.none.1 in
    record {
      equals = lightest_is _ _ (lightest_free c.args.self.now free.result free.ensures.each full _ (omega arith));
      means = lightest_free c.args.self.now free.result free.ensures.each full _ (omega arith);
    }
